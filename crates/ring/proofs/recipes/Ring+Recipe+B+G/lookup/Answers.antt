use Rattle.std.proofs.Common.{◌≡◌, false, not, get_or, sym, ap, ◌∙◌, subst}
use Rattle.std.proofs.lemmas.Bool.{lt-ltb, cond-false}
use Rattle.entries.specs.declared.recipe.Recipe.{Recipe}
use Rattle.store.specs.Meaning.{Meaning, no_store}
use Rattle.store.specs.Laws.{entry_of}
use Rattle.reading.specs.Lookup.{reading_of, lookup_of}
use Rattle.reading.specs.Rules.{Exactly}
use Rattle.machine.specs.States.{store_of, no_copy}
use Rattle.ring.specs.Built.{state_of}
use Rattle.ring.proofs.recipes.Ring+Recipe+B+G.lookup.Goals as goal

pub returns : goal.returns
returns g c =
    let s = state_of g.B.Bank g.G.Bag c.args.self.now in
    let one : get_or (g.B.Bank.meanings c.of.result.bank.now) c.of.result.number no_store ≡ store_of s c.args.copy =
    ap (λ b. get_or (g.B.Bank.meanings b) c.of.result.number no_store) c.of.ensures.0 ∙ ap (λ n. get_or (g.B.Bank.meanings c.args.self.now.stores) n no_store) c.of.ensures.1 in
    let there : no_copy s c.args.copy ≡ false = ap not (lt-ltb _ _ c.if-copy-self.false) in
    record {
      answer = c.lookup.ensures.answer ∙ ap (λ (m : Meaning Recipe). lookup_of (entry_of m) c.args.start c.args.name.now) one ∙ sym (cond-false _ _ _ there);
      exactly = λ _. subst (λ (m : Meaning Recipe). Exactly (entry_of m) c.args.start c.args.name.now (reading_of c.lookup.result)) one c.lookup.ensures.exactly;
      few = c.lookup.ensures.few;
    }
