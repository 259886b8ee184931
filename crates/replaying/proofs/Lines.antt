-- The lines of an input one by one, and the report of those that are left. Assumes nothing.
use Rattle.std.proofs.Common.{◌≡◌, ◌≢◌, Option, None, Some, MatchOption, unwrap_or, Bor, ℕ, suc, ◌+◌, ◌<◌, ◌≤◌, min, eqb, false, ◌⊎◌, List, [], ◌∷◌, ◌++◌, length, take, get_or, sym, refl, ap, ◌∙◌, inl, inr, append_assoc, length-append, arith}
use Rattle.std.proofs.Math.Seq.{take-suc}
use Rattle.std.specs.List.{onto_first, All, IsFirstMatchOrLen}
use Rattle.std.proofs.lemmas.Bool.{cond-false, cases_lt, eqb-true}
use Rattle.std.proofs.lemmas.List.{append-nil, get_or_append_left, nil_from_length, take_all}
use Rattle.std.proofs.lemmas.List.Elements.{All-head, All-tail}
use Rattle.entries.specs.declared.recipe.Recipe.{Recipe}
use Rattle.machine.specs.States.{State}
use Rattle.machine.specs.Sweeps.{Sweep}
use Rattle.lines.specs.Asked.{asked_by}
use Rattle.report.specs.Reports.{Found, finding_of, report_line}
use Rattle.replaying.specs.Replays.{replied, lines_of, replayed}
use Rattle.replaying.specs.Lines.{IsUnended}

-- no byte of a text is 10
abbrev pub NoneEnds : List ℕ → Type 0
NoneEnds = All (λ b. eqb b 10 ≡ false)

-- a line and byte 10 at the front of a text are its first line
pub lines_of-ended : (line rest : List ℕ) → NoneEnds line → lines_of (line ++ 10 ∷ rest) ≡ line ∷ lines_of rest
lines_of-ended [] rest none = refl
lines_of-ended (b ∷ line) rest none = cond-false _ _ _ (All-head (λ x. eqb x 10 ≡ false) b line none) ∙ ap (onto_first b) (lines_of-ended line rest (All-tail (λ x. eqb x 10 ≡ false) b line none))

-- a text without byte 10 is its only line
pub lines_of-last : (line : List ℕ) → 0 < length line → NoneEnds line → lines_of line ≡ line ∷ []
lines_of-last [] some none = absurd (omega (arith, some))
lines_of-last (b ∷ []) some none = cond-false _ _ _ (All-head (λ x. eqb x 10 ≡ false) b [] none)
lines_of-last (b ∷ c ∷ line) some none = cond-false _ _ _ (All-head (λ x. eqb x 10 ≡ false) b (c ∷ line) none) ∙ ap (onto_first b) (lines_of-last (c ∷ line) (omega arith) (All-tail (λ x. eqb x 10 ≡ false) b (c ∷ line) none))

-- the part that is cut off after the first byte 10, or all of a text without one, is the first line with what ends it
pub lines_of-part : (bs part rest bare : List ℕ) (i : ℕ) → bs ≡ part ++ rest → 0 < length bs → length part ≡ min (i + 1) (length bs) → IsFirstMatchOrLen (λ b. eqb b 10) bs i → IsUnended part bare → lines_of bs ≡ bare ∷ lines_of rest
lines_of-part bs part rest bare i whole some cut first (inl e) =
    let ended : bs ≡ bare ++ (10 ∷ rest) = whole ∙ ap (λ xs. xs ++ rest) e ∙ append_assoc bare (10 ∷ []) rest in
    let few : length bare ≤ i = omega (arith, cut, ap length e, length-append bare (10 ∷ [])) in
    ap lines_of ended ∙ lines_of-ended bare rest (λ k d low. sym (ap (λ b. eqb b 10) (ap (λ xs. get_or xs k d) ended ∙ get_or_append_left bare (10 ∷ rest) d k low)) ∙ first.0 k d (omega arith) (omega (arith, few, low)))
lines_of-part bs part rest bare i whole some cut first (inr (same, plain)) =
    let far : length part ≤ i = go (cases_lt i (length part)) in
    let total : length bs ≡ length part + length rest = ap length whole ∙ length-append part rest in
    let none : rest ≡ [] = nil_from_length rest (omega (arith, cut, far, total)) in
    let only : bs ≡ part = whole ∙ ap (λ xs. part ++ xs) none ∙ append-nil part in
    ap lines_of only
    ∙ lines_of-last part (omega (arith, some, ap length only)) (λ k d low. sym (ap (λ xs. eqb (get_or xs k d) 10) only) ∙ first.0 k d (omega arith) (omega (arith, far, low)))
    ∙ ap (λ l. l ∷ []) (sym same)
    ∙ ap (λ xs. bare ∷ lines_of xs) (sym none)
  where
    go : (i < length part) ⊎ (length part ≤ i) → length part ≤ i
    go (inr far) = far
    go (inl near) =
        let within : i < length bs = omega (arith, near, ap length whole, length-append part rest) in
        let last : get_or part i 0 ≡ 10 = eqb-true _ 10 (ap (λ b. eqb b 10) (sym (ap (λ xs. get_or xs i 0) whole ∙ get_or_append_left part rest 0 i near)) ∙ first.1 within 0) in
        absurd (plain (take i part) (sym (take_all (suc i) part (omega (arith, cut))) ∙ take-suc part i 0 near ∙ ap (λ b. take i part ++ (b ∷ [])) last))

-- what `strip_suffix` says of byte 10
pub is_unended : (line : Bor (List ℕ)) (r : Option (Bor (List ℕ))) {bare : Bor (List ℕ)} → bare ≡ unwrap_or r line → MatchOption r ((front : List ℕ) → line.now ≢ front ++ (10 ∷ [])) (λ x. line.now ≡ x.now ++ (10 ∷ [])) → IsUnended line.now bare.now
is_unended line None e h = inr (ap (λ (x : Bor (List ℕ)). x.now) e, h)
is_unended line (Some x) e h = inl (h ∙ ap (λ (y : Bor (List ℕ)). y.now ++ (10 ∷ [])) (sym e))

-- the report so far, and that of the lines left
abbrev pub Left : List ℕ → ℕ → State Recipe × List Sweep → List (List ℕ) → List ℕ × (State Recipe × List Sweep)
Left said n x lines = (said ++ (replayed n x lines).0, (replayed n x lines).1)

-- one line more is reported
pub one_more : (said : List ℕ) (n : ℕ) (x y : State Recipe × List Sweep) (f : Found) (line : List ℕ) (lines : List (List ℕ)) → (f, y) ≡ replied x (asked_by line) → Left (said ++ report_line n (finding_of f)) (suc n) y lines ≡ Left said n x (line ∷ lines)
one_more said n x y f line lines e =
    ap (λ (r : Found × (State Recipe × List Sweep)). Left (said ++ report_line n (finding_of r.0)) (suc n) r.1 lines) e
    ∙ ap (λ zs. (zs, (replayed (suc n) (replied x (asked_by line)).1 lines).1)) (append_assoc said (report_line n (finding_of (replied x (asked_by line)).0)) (replayed (suc n) (replied x (asked_by line)).1 lines).0)

-- none is left
pub none_left : (said : List ℕ) (n : ℕ) (x : State Recipe × List Sweep) → Left said n x (lines_of []) ≡ (said, x)
none_left said n x = ap (λ zs. (zs, x)) (append-nil said)
