use Rattle.std.proofs.Common.{rules}
use Rattle.store.specs.Meaning.{entry_at}
use Rattle.table.proofs.Pairs.{entry_here}
use Rattle.table.proofs.table_store.TableReadable.entry_at.Goals as goal

pub returns : goal.returns
unfolding entry_at
returns g c = entry_here g.K.Joinable.empty c.args.self.now.slots.items c.args.place c.map_or.result (search rules)
