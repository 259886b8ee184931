-- The bytes of a text: those before the first zero, and the number that they make with zeros after them. Assumes nothing.
use Rattle.std.proofs.Common.{◌≡◌, ℕ, suc, ◌+◌, ◌-◌, ◌≤◌, Bool, true, false, cond, not, eqb, ltb, List, [], ◌∷◌, ◌++◌, length, take, replicate, Some, None, Option, sym, refl, ap, ◌∙◌, w64, arith}
use Rattle.std.specs.List.{position, prefix_len}
use Rattle.std.specs.Int.{from_be_bytes}
use Rattle.std.proofs.lemmas.Bool.{ltb-false}
use Rattle.std.proofs.lemmas.List.{take_all}
use Rattle.names.specs.Labels.{packed, until_zero}

-- the bytes before the first zero are as many as pass from the front on
until_prefix : (bs : List ℕ) → take (prefix_len (λ b. not (eqb b 0)) bs) bs ≡ until_zero bs
until_prefix [] = refl
until_prefix (b ∷ bs) = go (eqb b 0) (until_prefix bs)
  where
    n : ℕ
    n = prefix_len (λ b. not (eqb b 0)) bs

    go : (z : Bool) → take n bs ≡ until_zero bs → take (cond (not z) (1 + n) 0) (b ∷ bs) ≡ cond z [] (b ∷ until_zero bs)
    go true ih = refl
    go false ih = let e : 1 + n ≡ suc n = omega arith in ap (λ m. take m (b ∷ bs)) e ∙ ap (λ xs. b ∷ xs) ih

pub until_found : (bs : List ℕ) (i : ℕ) → position (λ b. eqb b 0) bs ≡ Some i → take i bs ≡ until_zero bs
until_found bs i h = go (ltb n (length bs)) h ∙ until_prefix bs
  where
    n : ℕ
    n = prefix_len (λ b. not (eqb b 0)) bs

    go : (t : Bool) → cond t (Some n) None ≡ Some i → take i bs ≡ take n bs
    go true e = cc
    go false e = cc

pub until_none : (bs : List ℕ) → position (λ b. eqb b 0) bs ≡ None → bs ≡ until_zero bs
until_none bs h = sym (take_all n bs (go (ltb n (length bs)) refl h)) ∙ until_prefix bs
  where
    n : ℕ
    n = prefix_len (λ b. not (eqb b 0)) bs

    go : (t : Bool) → ltb n (length bs) ≡ t → cond {A = Option ℕ} t (Some n) None ≡ None → length bs ≤ n
    go true e f = cc
    go false e f = ltb-false _ _ e

-- zeros after a text of up to eight bytes change nothing of its number
pub number_of_text : (bs : List ℕ) → length bs ≤ 8 → from_be_bytes w64 (bs ++ replicate (8 - length bs) 0) ≡ packed 0 8 bs
number_of_text [] le = refl
number_of_text (a ∷ []) le = omega arith
number_of_text (a ∷ b ∷ []) le = omega arith
number_of_text (a ∷ b ∷ c ∷ []) le = omega arith
number_of_text (a ∷ b ∷ c ∷ d ∷ []) le = omega arith
number_of_text (a ∷ b ∷ c ∷ d ∷ e ∷ []) le = omega arith
number_of_text (a ∷ b ∷ c ∷ d ∷ e ∷ f ∷ []) le = omega arith
number_of_text (a ∷ b ∷ c ∷ d ∷ e ∷ f ∷ g ∷ []) le = omega arith
number_of_text (a ∷ b ∷ c ∷ d ∷ e ∷ f ∷ g ∷ h ∷ []) le = omega arith
number_of_text (a ∷ b ∷ c ∷ d ∷ e ∷ f ∷ g ∷ h ∷ i ∷ bs) le = absurd (omega arith)
