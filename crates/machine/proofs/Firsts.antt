-- The first ground of two tables, one after the other. Assumes nothing.
use Rattle.std.proofs.Common.{◌≡◌, ℕ, Bool, true, false, cond, [], ◌∷◌, ◌++◌, Some, None, Option, refl}
use Rattle.machine.specs.States.{Grounds, first_ground}

abbrev pub or_else : Option ℕ → Option ℕ → Option ℕ
or_else (Some g) o = Some g
or_else None o = o

-- the first of the first table, and else of the second
pub first_of_both : (xs ys : Grounds) → first_ground (xs ++ ys) ≡ or_else (first_ground xs) (first_ground ys)
first_of_both [] ys = refl
first_of_both (x ∷ xs) ys = go x.0 (first_of_both xs ys)
  where
    go : (b : Bool) → first_ground (xs ++ ys) ≡ or_else (first_ground xs) (first_ground ys) → cond b (Some x.1) (first_ground (xs ++ ys)) ≡ or_else (cond b (Some x.1) (first_ground xs)) (first_ground ys)
    go true ih = refl
    go false ih = ih
