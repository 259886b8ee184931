use Rattle.std.proofs.Common.{unwrap_or, ap, ◌∙◌}
use Rattle.names.specs.Paths.{no_path}
use Rattle.store.specs.Meaning.{path_at}
use Rattle.folding_log.specs.Slots.{path_under}
use Rattle.folding_log.proofs.Steps.{log_path}
use Rattle.folding_log.proofs.log_store.LogReadable.path_at.Goals as goal

pub returns : goal.returns
unfolding path_at
returns g c =
    let t = c.args.self.now in
    let k = c.args.place in
    c.unwrap_or.ensures ∙ ap (λ o. unwrap_or o no_path) (c.path_under.ensures ∙ ap (λ ss. path_under ss k) c.as_slice.ensures) ∙ log_path g.K.Joinable.joined t.slots.items t.numbered k
