-- The greater of two rows keeps the laws of a join. Assumes nothing.
use Rattle.std.specs.Prelude.{◌≡◌, ℕ, max, List, [], ◌∷◌, refl}
use Rattle.std.proofs.Common.{arith}
use Rattle.entries.specs.Rights.{greater}

pub greater_idem : (xs : List ℕ) → greater xs xs ≡ xs
greater_idem [] = refl
greater_idem (x ∷ xs) = let h : max x x ≡ x = omega arith in let t = greater_idem xs in cc

pub greater_comm : (xs ys : List ℕ) → greater xs ys ≡ greater ys xs
greater_comm [] [] = refl
greater_comm [] (y ∷ ys) = refl
greater_comm (x ∷ xs) [] = refl
greater_comm (x ∷ xs) (y ∷ ys) = let h : max x y ≡ max y x = omega arith in let t = greater_comm xs ys in cc

pub greater_assoc : (xs ys zs : List ℕ) → greater (greater xs ys) zs ≡ greater xs (greater ys zs)
greater_assoc [] ys zs = refl
greater_assoc (x ∷ xs) [] zs = refl
greater_assoc (x ∷ xs) (y ∷ ys) [] = refl
greater_assoc (x ∷ xs) (y ∷ ys) (z ∷ zs) = let h : max (max x y) z ≡ max x (max y z) = omega arith in let t = greater_assoc xs ys zs in cc
