-- The numbers of a line. Assumes nothing.
use Rattle.std.specs.Prelude.{ℕ, ◌+◌, ◌-◌, ◌*◌, ◌^◌, Bool, true, false, cond, not, ◌&&◌, List, [], ◌∷◌, Some, None, Option, ◌==◌, nat_lt}
use Rattle.std.specs.Str.{all_ascii_digits}

-- one byte, or more with none of them a leading zero
abbrev pub unpadded : List ℕ → Bool
unpadded [] = false
unpadded (b ∷ []) = true
unpadded (b ∷ (c ∷ bs)) = not (b == 48)

-- the number that the digits write, read on after n
abbrev pub value_after : ℕ → List ℕ → ℕ
value_after n [] = n
value_after n (b ∷ bs) = value_after (n * 10 + (b - 48)) bs

-- the number that a text reads to: decimal digits, no leading zeros, below 2^32
abbrev pub read_number : List ℕ → Option ℕ
read_number bs = cond (unpadded bs && all_ascii_digits bs && nat_lt (value_after 0 bs) (2 ^ 32)) (Some (value_after 0 bs)) None
