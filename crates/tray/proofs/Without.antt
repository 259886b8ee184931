-- Taking a letter out is the library's `remove`. Assumes nothing.
use Rattle.std.proofs.Common.{◌≡◌, ℕ, zero, suc, List, [], ◌∷◌, refl, ap}
use Rattle.std.specs.List.{remove}
use Rattle.letters.specs.Mail.{without}

pub without_is : {X : Type 0} (xs : List X) (i : ℕ) → without xs i ≡ remove xs i
without_is [] zero = refl
without_is [] (suc i) = refl
without_is (x ∷ xs) zero = refl
without_is (x ∷ xs) (suc i) = ap (λ ys. x ∷ ys) (without_is xs i)
