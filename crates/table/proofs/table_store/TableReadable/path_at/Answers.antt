use Rattle.std.proofs.Common.{rules}
use Rattle.store.specs.Meaning.{path_at}
use Rattle.table.proofs.Pairs.{path_here}
use Rattle.table.proofs.table_store.TableReadable.path_at.Goals as goal

pub returns : goal.returns
unfolding path_at
returns g c = path_here c.args.self.now.slots.items c.args.place c.map_or.result (search rules)
