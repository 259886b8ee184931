use Rattle.std.proofs.Common.{unwrap_or, ap, ◌∙◌}
use Rattle.store.specs.Meaning.{entry_at}
use Rattle.folding_log.specs.Slots.{joined_under}
use Rattle.folding_log.proofs.Steps.{log_entry}
use Rattle.folding_log.proofs.log_store.LogReadable.entry_at.Goals as goal

pub returns : goal.returns
unfolding entry_at
returns g c =
    let t = c.args.self.now in
    let j = g.K.Joinable.joined in
    let k = c.args.place in
    c.unwrap_or.ensures
    ∙ ap (unwrap_or c.joined_under.result) c.blank.ensures
    ∙ ap (λ o. unwrap_or o g.K.Joinable.empty) (c.joined_under.ensures ∙ ap (λ ss. joined_under j ss k) c.as_slice.ensures)
    ∙ log_entry j t.slots.items t.numbered g.K.Joinable.empty k
