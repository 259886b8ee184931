use Rattle.std.proofs.Common.{rules}
use Rattle.store.specs.Meaning.{empty_store}
use Rattle.table.proofs.Table.new.Goals as goal

pub returns : goal.returns
unfolding empty_store
returns g c = search rules
