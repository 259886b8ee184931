-- What lent slots hold. Assumes nothing.
use Rattle.std.specs.Prelude.{ℕ, List, length, take}

-- the items in their order, and for how many there is room in all
pub record Held (T : Type 0) : Type 0 where
  pub items : List T
  pub places : ℕ

-- what slots hold of which the first n are in use: the items in those, and a place for each slot
abbrev pub held_in : {T : Type 0} → ℕ → List T → Held T
held_in n ss = record { items = take n ss; places = length ss }
