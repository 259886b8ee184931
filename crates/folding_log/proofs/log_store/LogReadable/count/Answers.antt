use Rattle.std.proofs.Common.{sym, ◌∙◌}
use Rattle.store.specs.Meaning.{count_of}
use Rattle.folding_log.specs.Logs.{pairs_length}
use Rattle.folding_log.proofs.log_store.LogReadable.count.Goals as goal

pub returns : goal.returns
unfolding count_of
returns g c = let t = c.args.self.now in t.counted ∙ sym (pairs_length g.K.Joinable.joined t.slots.items)
