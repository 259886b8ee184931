use Rattle.std.proofs.Common.{◌∙◌}
use Rattle.store.specs.Meaning.{place_of}
use Rattle.table.proofs.Pairs.{place_is}
use Rattle.table.proofs.table_store.TableReadable.find.Goals as goal

pub returns : goal.returns
unfolding place_of
returns g c = rw (← c.as_slice.ensures) (c.first_with.ensures ∙ place_is c.as_slice.result.now c.args.path.now)
