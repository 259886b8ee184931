-- What the slots of a table hold. Assumes nothing.
use Rattle.std.specs.Prelude.{map}
use Rattle.names.specs.declared.path.Path.{Path}
use Rattle.names.specs.Paths.{no_path}
use Rattle.lent.specs.Held.{Held}
use Rattle.store.specs.Meaning.{Meaning}
use Rattle.table.specs.declared.slot.TableSlot.{TableSlot}

-- the pair in a slot
abbrev pub pair_of : {K : Type 0} → TableSlot K → Path × K
pair_of s = (s.path, s.entry)

-- a slot before a pair is put there: no path, and the blank entry of the kind
abbrev pub blank_slot : {K : Type 0} → K → TableSlot K
blank_slot blank = record { path = no_path; entry = blank }

-- the pairs in the slots that are held, and a place for each slot
abbrev pub slots_meaning : {K : Type 0} → Held (TableSlot K) → Meaning K
slots_meaning h = record { pairs = map pair_of h.items; places = h.places }
