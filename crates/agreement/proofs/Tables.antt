-- Lists that are read and written at a number: stores and heads by copy, letters and sweeps. Assumes nothing.
use Rattle.std.proofs.Common.{◌≡◌, ℕ, zero, suc, List, [], ◌∷◌, get_or, set, Some, None, Option, refl, ap, arith}
use Rattle.std.specs.List.{AllByRecursion}
use Rattle.letters.specs.Mail.{letter_at, without}

-- an answer is some value or none
pub never_both : {A : Type 0} (o : Option A) (a : A) → o ≡ None → o ≡ Some a → ⊥
never_both o a n s = let z : ◌≡◌ {A = ℕ} 0 1 = cc in omega arith

-- what holds of the value before, and where it was changed of the changed one, holds after a change
pub change_case : {A : Type 0} (P : A → Type 0) (xs : List A) (c d : ℕ) (f : A → A) (z : A) → P (get_or xs d z) → (c ≡ d → P (f (get_or xs d z))) → P (get_or (set xs c (f (get_or xs c z))) d z)
change_case P [] c d f z old new = old
change_case P (x ∷ xs) zero zero f z old new = new refl
change_case P (x ∷ xs) zero (suc d) f z old new = old
change_case P (x ∷ xs) (suc c) zero f z old new = old
change_case P (x ∷ xs) (suc c) (suc d) f z old new = change_case P xs c d f z old (λ e. new (ap suc e))

-- what holds of each, and of the default, holds of what is read
pub all_at : {A : Type 0} (P : A → Type 0) (xs : List A) (i : ℕ) (z : A) → P z → AllByRecursion P xs → P (get_or xs i z)
all_at P [] i z p h = p
all_at P (x ∷ xs) zero z p h = h.0
all_at P (x ∷ xs) (suc i) z p h = all_at P xs i z p h.1

-- it holds of what was found, if anything was
abbrev pub IfFound : {A : Type 0} → (A → Type 0) → Option A → Type 0
IfFound P None = Unit {0}
IfFound P (Some x) = P x

-- what holds of each letter holds of the one that is found by its number
pub all_letter_at : {A : Type 0} (P : A → Type 0) (xs : List A) (i : ℕ) → AllByRecursion P xs → IfFound P (letter_at xs i)
all_letter_at P [] i h = tt
all_letter_at P (x ∷ xs) zero h = h.0
all_letter_at P (x ∷ xs) (suc i) h = all_letter_at P xs i h.1

-- and of each that stays when one is taken out
pub all_without : {A : Type 0} (P : A → Type 0) (xs : List A) (i : ℕ) → AllByRecursion P xs → AllByRecursion P (without xs i)
all_without P [] i h = tt
all_without P (x ∷ xs) zero h = h.1
all_without P (x ∷ xs) (suc i) h = (h.0, all_without P xs i h.1)
