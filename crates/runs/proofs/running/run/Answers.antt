use Rattle.std.proofs.Common.{[], length, ap, ◌∙◌}
use Rattle.entries.specs.declared.recipe.Recipe.{Recipe}
use Rattle.machine.specs.States.{State}
use Rattle.machine.specs.Worlds.{opened}
use Rattle.runs.specs.Runs.{runs_from}
use Rattle.runs.proofs.Follows.{runs_run}
use Rattle.runs.proofs.Kept.{promise}
use Rattle.runs.proofs.Opens.{open_ok, fresh, just_opened, recipe_laws}
use Rattle.runs.proofs.running.run.Goals as goal

pub returns : goal.returns
returns g c =
    let stores = g.B.Bank.meanings c.args.stores in
    let bag = g.G.Bag.mail c.args.bag in
    let calls = c.args.calls.now in
    let o = c.in_ok-opening.opening in
    let checked = c.in_ok-opening.ensures in
    let clear = open_ok _ (length stores) o.copies (ap (λ x. x.0) checked) in
    let ring = just_opened g.B.Bank g.G.Bag o stores bag clear.1 (ap (λ x. x.1.0) checked) (ap (λ x. x.1.1) checked) in
    let ran = c.in_ok-answers.ensures ∙ ap (λ x. runs_from x calls) (c.start-service.ensures ∙ ap (λ (s : State Recipe). (s, [])) ring) ∙ runs_run calls (opened stores bag.places) in
    record {
      machine = record { opens = clear.0; answered = ap (λ x. x.0) ran; ring = ap (λ x. x.1.0) ran; sweeps = ap (λ x. x.1.1) ran };
      promise = promise recipe_laws stores bag.places calls (fresh stores bag clear.0);
    }
