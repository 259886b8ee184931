-- What a table means. Assumes nothing.
use Rattle.store.specs.Meaning.{Meaning, Sound}
use Rattle.table.specs.declared.Table.{Table}
use Rattle.table.specs.Slots.{slots_meaning}

-- a table means what its slots do
abbrev pub table_meaning : {K : Type 0} → Table K → Meaning K
table_meaning t = slots_meaning t.slots

-- no path twice, and no more pairs than slots
pub table_sound : {K : Type 0} (t : Table K) → Sound (table_meaning t)
table_sound t = t.sound
