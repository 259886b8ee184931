-- Whether a letter is a reply to a sweep, before its tag and its place are judged. Assumes nothing.
use Rattle.std.specs.Prelude.{ℕ, true, not, ◌||◌, [], ◌∷◌, Some, None, Option}
use Rattle.letters.specs.declared.letter.Letter.{Letter}
use Rattle.machine.specs.States.{State, Grounds, no_copy}
use Rattle.machine.specs.Sweeps.{is_reply}

-- the ground against the letter of that number, if there is one
abbrev pub letter_grounds : {K : Type 0} → ℕ → ℕ → ℕ → Option (Letter K) → Grounds
letter_grounds stamp home in_hand None = (true, 8) ∷ []
letter_grounds stamp home in_hand (Some l) = (not (is_reply stamp home in_hand l), 9) ∷ []

-- a sweep's copies must be copies of the ring, and the letter one to home from the copy in hand under the sweep's stamp
abbrev pub awaited_grounds : {K : Type 0} → State K → ℕ → ℕ → ℕ → Option (Letter K) → Grounds
awaited_grounds s stamp home in_hand found = (no_copy s home || no_copy s in_hand, 6) ∷ letter_grounds stamp home in_hand found
