-- The letter that is read at a number, and the letters without one, up to the end and past it. Assumes nothing.
use Rattle.std.proofs.Common.{◌≡◌, ℕ, zero, suc, ◌<◌, ◌≤◌, List, [], ◌∷◌, length, get_or, Some, None, refl, ap, arith}
use Rattle.std.proofs.lemmas.Option.{slice_get-get_or, slice_get_past}
use Rattle.letters.specs.Mail.{letter_at, without}

-- the letter that is read at a number
pub letter_here : {X : Type 0} (xs : List X) (i : ℕ) (d : X) → i < length xs → letter_at xs i ≡ Some (get_or xs i d)
letter_here xs i d lt = slice_get-get_or xs i d lt

-- none is read past the end
pub letter_past : {X : Type 0} (xs : List X) (i : ℕ) → length xs ≤ i → letter_at xs i ≡ None
letter_past xs i le = slice_get_past xs i le

-- and nothing is taken out there
pub without_past : {X : Type 0} (xs : List X) (i : ℕ) → length xs ≤ i → without xs i ≡ xs
without_past [] i le = refl
without_past (x ∷ xs) zero le = absurd (omega arith)
without_past (x ∷ xs) (suc i) le = ap (λ ys. x ∷ ys) (without_past xs i (omega arith))
