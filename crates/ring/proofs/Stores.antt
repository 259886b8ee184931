-- A test of each store of a list, by the stores' numbers. Assumes nothing.
use Rattle.std.proofs.Common.{◌≡◌, ℕ, ◌<◌, Bool, cond, not, ◌&&◌, ◌||◌, ltb, leb, List, [], ◌∷◌, length, map, find, get_or, Some, None, sym, refl, ap, ◌∙◌, arith}
use Rattle.std.proofs.lemmas.Bool.Decides.{nat_tests}
use Rattle.std.specs.List.{list_any, range_with_len}
use Rattle.std.proofs.lemmas.List.FromFn.{fill_by_all}
use Rattle.store.specs.Meaning.{Meaning, no_store}

-- a test of what a function makes of each
any_of_map : {A B : Type 0} (f : B → Bool) (g : A → B) (xs : List A) → list_any f (map g xs) ≡ list_any (λ x. f (g x)) xs
any_of_map f g [] = refl
any_of_map f g (x ∷ xs) = ap (λ b. f (g x) || b) (any_of_map f g xs)

-- a test of the stores by their numbers is one of the stores
pub any_by_number : {K : Type 0} (f : Meaning K → Bool) (ms : List (Meaning K)) (n : ℕ) (r : Bool) → n ≡ length ms → r ≡ list_any (λ i. f (get_or ms i no_store)) (range_with_len 0 n) → r ≡ list_any f ms
any_by_number f ms n r count any =
    any
    ∙ sym (any_of_map f (λ i. get_or ms i no_store) (range_with_len 0 n))
    ∙ sym (ap (list_any f) (fill_by_all (λ i. get_or ms i no_store) ms n no_store (sym count) (λ _ _. refl)))

-- the first number from 2 to 8 that no store has is how many there are
pub first_missing : (n : ℕ) → 1 < n → find (λ k. not (ltb k n)) (2 ∷ 3 ∷ 4 ∷ 5 ∷ 6 ∷ 7 ∷ 8 ∷ []) ≡ cond (leb 2 n && leb n 8) (Some n) None
first_missing n more = grind (arith, nat_tests)
