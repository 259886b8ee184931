-- How far a sweep may have come at the copy in hand. Assumes nothing.
use Rattle.std.specs.Prelude.{ℕ, Bool, Some, None, Option, ◌==◌, nat_lt}

-- at place 0 while the count is unknown, and below the count once it is known
abbrev pub under_way : Option ℕ → ℕ → Bool
under_way None place = place == 0
under_way (Some n) place = nat_lt place n
