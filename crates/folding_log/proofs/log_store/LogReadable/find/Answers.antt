use Rattle.std.proofs.Common.{ap, ◌∙◌}
use Rattle.store.specs.Meaning.{place_of}
use Rattle.folding_log.specs.Slots.{place_under}
use Rattle.folding_log.proofs.Steps.{log_find}
use Rattle.folding_log.proofs.log_store.LogReadable.find.Goals as goal

pub returns : goal.returns
unfolding place_of
returns g c =
    let t = c.args.self.now in
    c.place_under.ensures ∙ ap (λ ss. place_under ss c.args.path.now) c.as_slice.ensures ∙ log_find g.K.Joinable.joined t.slots.items t.numbered c.args.path.now
