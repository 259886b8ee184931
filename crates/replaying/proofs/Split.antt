-- That an input is its lines. Assumes nothing.
use Rattle.std.proofs.Common.{◌≡◌, ◌≢◌, ℕ, Bool, true, false, cond, eqb, ◌⊎◌, List, [], ◌∷◌, ◌++◌, length, sym, refl, ap, ◌∙◌, inl, inr, arith}
use Rattle.std.specs.List.{onto_first, All}
use Rattle.std.proofs.lemmas.Bool.{eqb-true, eqb-false}
use Rattle.std.proofs.lemmas.List.Elements.{All-nil, All-cons, All-head, All-tail}
use Rattle.replaying.specs.Replays.{lines_of}
use Rattle.replaying.specs.Lines.{ended, IsItsLines}

-- no byte of a line is 10
abbrev NoneIs10 : List ℕ → Type 0
NoneIs10 = All (λ b. b ≢ 10)

-- a byte that is not 10 before the first line
unended_first : (b : ℕ) (ls : List (List ℕ)) → b ≢ 10 → All NoneIs10 ls → All NoneIs10 (onto_first b ls)
unended_first b [] other all = All-cons NoneIs10 (b ∷ []) [] (All-cons (λ x. x ≢ 10) b [] other (All-nil (λ x. x ≢ 10))) all
unended_first b (l ∷ ls) other all = All-cons NoneIs10 (b ∷ l) ls (All-cons (λ x. x ≢ 10) b l other (All-head NoneIs10 l ls all)) (All-tail NoneIs10 l ls all)

unended : (bs : List ℕ) → All NoneIs10 (lines_of bs)
unended [] = All-nil NoneIs10
unended (b ∷ bs) = go (eqb b 10) refl (unended bs)
  where
    go : (t : Bool) → eqb b 10 ≡ t → All NoneIs10 (lines_of bs) → All NoneIs10 (cond t ([] ∷ lines_of bs) (onto_first b (lines_of bs)))
    go true e all = All-cons NoneIs10 [] (lines_of bs) (All-nil (λ x. x ≢ 10)) all
    go false e all = unended_first b (lines_of bs) (eqb-false b 10 e) all

-- the lines, ended, are the text, or the text with byte 10 after it
abbrev Whole : List (List ℕ) → List ℕ → Type 0
Whole ls bs = (ended ls ≡ bs) ⊎ (ended ls ≡ bs ++ (10 ∷ []))

one_more : (b : ℕ) (ls : List (List ℕ)) (bs : List ℕ) → Whole ls bs → Whole (onto_first b ls) (b ∷ bs)
one_more b [] bs (inl e) = inr (ap (λ xs. b ∷ (xs ++ (10 ∷ []))) e)
one_more b [] bs (inr e) = absurd (no_end bs e)
  where
    no_end : (bs : List ℕ) → [] ≡ bs ++ (10 ∷ []) → ⊥
    no_end [] e = let n = ap length e in omega (arith, n)
    no_end (b ∷ bs) e = let n = ap length e in omega (arith, n)
one_more b (l ∷ ls) bs (inl e) = inl (ap (λ xs. b ∷ xs) e)
one_more b (l ∷ ls) bs (inr e) = inr (ap (λ xs. b ∷ xs) e)

whole : (bs : List ℕ) → Whole (lines_of bs) bs
whole [] = inl refl
whole (b ∷ bs) = go (eqb b 10) refl (whole bs)
  where
    go : (t : Bool) → eqb b 10 ≡ t → Whole (lines_of bs) bs → Whole (cond t ([] ∷ lines_of bs) (onto_first b (lines_of bs))) (b ∷ bs)
    go true e (inl w) = inl (ap (λ xs. 10 ∷ xs) w ∙ ap (λ n. n ∷ bs) (sym (eqb-true b 10 e)))
    go true e (inr w) = inr (ap (λ xs. 10 ∷ xs) w ∙ ap (λ n. n ∷ (bs ++ (10 ∷ []))) (sym (eqb-true b 10 e)))
    go false e w = one_more b (lines_of bs) bs w

pub is_its_lines : (bs : List ℕ) → IsItsLines bs
is_its_lines bs = record { lines = unended bs; whole = whole bs }
