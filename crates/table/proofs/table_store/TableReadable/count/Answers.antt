use Rattle.std.proofs.lemmas.List.{length-map}
use Rattle.store.specs.Meaning.{count_of}
use Rattle.table.proofs.table_store.TableReadable.count.Goals as goal

pub returns : goal.returns
unfolding count_of
returns g c = simp length-map c.len.ensures
