-- Heads and their lifting. Assumes nothing.
use Rattle.std.specs.Prelude.{ℕ, max, List, slice_index_or, slice_set}
use Rattle.heads.specs.declared.Head.{Head}

-- the head of a copy of a ring just opened
abbrev pub new_head : Head
new_head = record { floor = 0; sweep = 0 }

-- a head with its floor at the stamp, if it was lower
abbrev pub lift_floor : ℕ → Head → Head
lift_floor s h = record { floor = max h.floor s; sweep = h.sweep }

-- a head with its sweep stamp at the stamp, if it was lower
abbrev pub lift_sweep : ℕ → Head → Head
lift_sweep s h = record { floor = h.floor; sweep = max h.sweep s }

-- the table of heads with the floor of one copy lifted
abbrev pub floor_lifted : List Head → ℕ → ℕ → List Head
floor_lifted hs copy s = slice_set hs copy (lift_floor s (slice_index_or hs copy new_head))

-- the table of heads with the sweep stamp of one copy lifted
abbrev pub sweep_lifted : List Head → ℕ → ℕ → List Head
sweep_lifted hs copy s = slice_set hs copy (lift_sweep s (slice_index_or hs copy new_head))
