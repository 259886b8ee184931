-- A text, and the number that it is kept as. Assumes nothing.
use Rattle.std.proofs.Common.{◌≡◌, ℕ, zero, suc, ◌+◌, ◌*◌, ◌/◌, ◌%◌, ◌^◌, ◌<◌, ◌≤◌, Bool, true, false, cond, ◌&&◌, eqb, ltb, leb, ◌↔◌, List, [], ◌∷◌, length, get_or, drop, Some, None, IsUtf8, IsAscii, Option, sym, refl, ap, ◌∙◌, subst, div-add-mod', arith}
use native.Mathlib.Nat.{div-div-eq-div-mul}
use Rattle.std.specs.List.{AllByRecursion}
use Rattle.std.proofs.lemmas.Str.Ascii.{IsAscii-nil, IsAscii-cons}
use Rattle.std.proofs.lemmas.Str.{IsUtf8-from_ascii}
use Rattle.std.proofs.lemmas.Bool.{false≢true, cond-true, cond-false, cond_both, and_parts, and_from, eqb-true, ne_eqb, lt-ltb, le-leb, ltb-true, leb-true}
use Rattle.std.proofs.lemmas.Bool.Decides.{nat_tests, same_from_decides, Decides-eqb}
use Rattle.names.specs.declared.label.Label.{Label}
use Rattle.names.specs.Labels.{label, legal, all_legal, label_text, packed, read_label, is_read, padded, eight, is_label, until_zero, text_of}

-- a legal byte is no zero, and ASCII
legal_byte : (b : ℕ) → legal b ≡ true → (0 < b) × (b < 128)
unfolding legal
legal_byte b h = grind (arith, nat_tests)

legal_not_zero : (b : ℕ) → legal b ≡ true → eqb b 0 ≡ false
legal_not_zero b h = ne_eqb b 0 (λ z. omega (arith, legal_byte b h))

-- one byte more of a number
byte_more : (n c : ℕ) → n / (c * 256) * 256 + n / c % 256 ≡ n / c
byte_more n c = ap (λ q. q * 256 + n / c % 256) (sym (div-div-eq-div-mul n c 256)) ∙ div-add-mod' (n / c) 256

-- the eight bytes of a number make the number again
packed_eight : (n : ℕ) → n < 2 ^ 64 → packed 0 8 (eight n) ≡ n
packed_eight n lt =
    let a : 0 * 256 + n / 72057594037927936 % 256 ≡ n / 72057594037927936 = omega arith in
    let b = byte_more n 281474976710656 in
    let c = byte_more n 1099511627776 in
    let d = byte_more n 4294967296 in
    let e = byte_more n 16777216 in
    let f = byte_more n 65536 in
    let g = byte_more n 256 in
    let h = div-add-mod' n 256 in
    cc

-- eight bytes are those of the number that they make
eight_packed : (a b c d e f g h : ℕ) → let bs = a ∷ b ∷ c ∷ d ∷ e ∷ f ∷ g ∷ h ∷ [] in AllByRecursion (λ b. b < 256) bs → eight (packed 0 8 bs) ≡ bs
eight_packed a b c d e f g h (la, (lb, (lc, (ld, (le, (lf, (lg, (lh, _)))))))) =
    let n = packed 0 8 (a ∷ b ∷ c ∷ d ∷ e ∷ f ∷ g ∷ h ∷ []) in
    let i : n / 72057594037927936 % 256 ≡ a = omega arith in
    let j : n / 281474976710656 % 256 ≡ b = omega arith in
    let k : n / 1099511627776 % 256 ≡ c = omega arith in
    let l : n / 4294967296 % 256 ≡ d = omega arith in
    let m : n / 16777216 % 256 ≡ e = omega arith in
    let o : n / 65536 % 256 ≡ f = omega arith in
    let p : n / 256 % 256 ≡ g = omega arith in
    let q : n % 256 ≡ h = omega arith in
    cc

-- the first k bytes of a text, and zeros where it has no more
abbrev filled : ℕ → List ℕ → List ℕ
filled zero bs = []
filled (suc k) bs = get_or bs 0 0 ∷ filled k (drop 1 bs)

packed_filled : (k n : ℕ) (bs : List ℕ) → packed n k (filled k bs) ≡ packed n k bs
packed_filled zero n bs = refl
packed_filled (suc k) n [] = let z : n * 256 + 0 ≡ n * 256 = omega arith in packed_filled k (n * 256 + 0) [] ∙ ap (λ m. packed m k []) z
packed_filled (suc k) n (b ∷ bs) = packed_filled k (n * 256 + b) bs

filled_small : (k : ℕ) (bs : List ℕ) → all_legal bs ≡ true → AllByRecursion (λ b. b < 256) (filled k bs)
filled_small zero bs h = tt
filled_small (suc k) [] h = (omega arith, filled_small k [] h)
filled_small (suc k) (b ∷ bs) h = let p = and_parts (legal b) (all_legal bs) h in (omega (arith, legal_byte b p.0), filled_small k bs p.1)

until_filled : (k : ℕ) (bs : List ℕ) → length bs ≤ k → all_legal bs ≡ true → until_zero (filled k bs) ≡ bs
until_filled zero [] le h = refl
until_filled zero (b ∷ bs) le h = absurd (omega arith)
until_filled (suc k) [] le h = refl
until_filled (suc k) (b ∷ bs) le h =
    let p = and_parts (legal b) (all_legal bs) h in
    let m : length bs ≤ k = omega arith in
    cond-false _ _ _ (legal_not_zero b p.0) ∙ ap (λ xs. b ∷ xs) (until_filled k bs m p.1)

padded_zeros : (k : ℕ) → padded true (filled k []) ≡ true
padded_zeros zero = refl
padded_zeros (suc k) = padded_zeros k

padded_filled : (k : ℕ) (bs : List ℕ) → all_legal bs ≡ true → padded false (filled k bs) ≡ true
padded_filled zero bs h = refl
padded_filled (suc k) [] h = padded_zeros k
padded_filled (suc k) (b ∷ bs) h = let p = and_parts (legal b) (all_legal bs) h in cond-false _ _ _ (legal_not_zero b p.0) ∙ and_from _ _ p.0 (padded_filled k bs p.1)

legal_first : (bs : List ℕ) → 0 < length bs → all_legal bs ≡ true → legal (get_or bs 0 0) ≡ true
legal_first [] some h = absurd (omega arith)
legal_first (b ∷ bs) some h = (and_parts (legal b) (all_legal bs) h).0

-- a text that is read has 1 to 8 legal bytes, and makes the label's number
record Read (bs : List ℕ) (l : Label) : Type 0 where
  some : 0 < length bs
  few : length bs ≤ 8
  lawful : all_legal bs ≡ true
  bytes : eight l.number ≡ filled 8 bs

reads : (bs : List ℕ) (l : Label) → read_label bs ≡ Some l → Read bs l
reads bs l h = go (label_text bs) refl h
  where
    go : (t : Bool) → label_text bs ≡ t → cond t (Some (label (packed 0 8 bs))) None ≡ Some l → Read bs l
    go true e f =
        let p = and_parts (ltb 0 (length bs) && leb (length bs) 8) (all_legal bs) e in
        let q = and_parts (ltb 0 (length bs)) (leb (length bs) 8) p.0 in
        let n : l.number ≡ packed 0 8 bs = cc in
        record { some = ltb-true _ _ q.0; few = leb-true _ _ q.1; lawful = p.1; bytes = ap eight (n ∙ sym (packed_filled 8 0 bs)) ∙ eight_packed _ _ _ _ _ _ _ _ (filled_small 8 bs p.1) }
    go false e f = let z : ◌≡◌ {A = ℕ} 0 1 = cc in absurd (omega arith)

-- what is read from a text is written as that text
pub read_written : (bs : List ℕ) (l : Label) → read_label bs ≡ Some l → text_of l.number ≡ bs
read_written bs l h = let r = reads bs l h in ap until_zero r.bytes ∙ until_filled 8 bs r.few r.lawful

-- what is read from a text is a label
pub read_is_label : (bs : List ℕ) (l : Label) → read_label bs ≡ Some l → is_label l.number ≡ true
unfolding is_label
read_is_label bs l h =
    let r = reads bs l h in
    and_from _ _ (ap (λ xs. legal (get_or xs 0 0)) r.bytes ∙ legal_first bs r.some r.lawful) (ap (padded false) r.bytes ∙ padded_filled 8 bs r.lawful)

legal_until : (xs : List ℕ) → padded false xs ≡ true → all_legal (until_zero xs) ≡ true
legal_until [] h = refl
legal_until (x ∷ xs) h =
    cond_both (eqb x 0) [] (x ∷ until_zero xs) (λ ys. all_legal ys ≡ true) (λ _. refl)
    (λ e. let p = and_parts (legal x) (padded false xs) (sym (cond-false _ _ _ e) ∙ h) in and_from _ _ p.0 (legal_until xs p.1))

packed_zeros : (k n : ℕ) (xs : List ℕ) → padded true xs ≡ true → packed n k [] ≡ packed n k xs
packed_zeros zero n xs h = refl
packed_zeros (suc k) n [] h = refl
packed_zeros (suc k) n (x ∷ xs) h =
    let p = and_parts (eqb x 0) (padded true xs) h in
    let z : n * 256 ≡ n * 256 + x = omega (arith, eqb-true x 0 p.0) in
    ap (λ m. packed m k []) z ∙ packed_zeros k (n * 256 + x) xs p.1

packed_until : (k n : ℕ) (xs : List ℕ) → padded false xs ≡ true → packed n k (until_zero xs) ≡ packed n k xs
packed_until zero n xs h = refl
packed_until (suc k) n [] h = refl
packed_until (suc k) n (x ∷ xs) h =
    cond_both (eqb x 0) [] (x ∷ until_zero xs) (λ ys. packed n (suc k) ys ≡ packed (n * 256 + x) k xs)
    (λ e. let z : n * 256 ≡ n * 256 + x = omega (arith, eqb-true x 0 e) in ap (λ m. packed m k []) z ∙ packed_zeros k (n * 256 + x) xs (sym (cond-true _ _ _ e) ∙ h))
    (λ e. packed_until k (n * 256 + x) xs (and_parts (legal x) (padded false xs) (sym (cond-false _ _ _ e) ∙ h)).1)

until_fits : (xs : List ℕ) → length (until_zero xs) ≤ length xs
until_fits [] = omega arith
until_fits (x ∷ xs) = let m = until_fits xs in cond_both (eqb x 0) [] (x ∷ until_zero xs) (λ ys. length ys ≤ suc (length xs)) (λ _. omega arith) (λ _. omega arith)

until_some : (x : ℕ) (xs : List ℕ) → legal x ≡ true → 0 < length (until_zero (x ∷ xs))
until_some x xs h = let e : until_zero (x ∷ xs) ≡ x ∷ until_zero xs = cond-false _ _ _ (legal_not_zero x h) in omega (arith, ap length e)

-- a label's text is read as that label
pub text_reads : (n : ℕ) → n < 2 ^ 64 → is_label n ≡ true → read_label (text_of n) ≡ Some (label n)
unfolding is_label
text_reads n lt h =
    let p = and_parts _ (padded false (eight n)) h in
    cond-true _ _ None (and_from _ _ (and_from _ _ (lt-ltb _ _ (until_some _ (drop 1 (eight n)) p.0)) (le-leb _ _ (until_fits (eight n)))) (legal_until (eight n) p.1))
    ∙ ap (λ m. Some (label m)) (packed_until 8 0 (eight n) p.1 ∙ packed_eight n lt)

-- a number is a label's exactly when some text reads to it
pub label_exactly : (r : Bool) (l : Label) → l.number < 2 ^ 64 → r ≡ is_label l.number → (r ≡ true) ↔ ((bs : List ℕ) × (read_label bs ≡ Some l))
label_exactly r l lt e = (λ h. (text_of l.number, text_reads l.number lt (sym e ∙ h)), λ t. e ∙ read_is_label t.0 l t.1)

-- a number is a label's exactly when its text reads to it
pub label_when_read : (n : ℕ) → n < 2 ^ 64 → is_read (read_label (text_of n)) n ≡ is_label n
label_when_read n lt = go (read_label (text_of n)) refl
  where
    go : (o : Option Label) → read_label (text_of n) ≡ o → is_read o n ≡ is_label n
    go (Some l) h =
        same_from_decides _ _ (Decides-eqb l.number n)
        ((λ t. let r = text_reads n lt t in cc), λ e. subst (λ m. is_label m ≡ true) e (read_is_label (text_of n) l h))
    go None h = same_from_decides false (is_label n) ((λ e. e), λ e. e) (λ t. let r = text_reads n lt t in let z : ◌≡◌ {A = ℕ} 0 1 = cc in absurd (omega arith), λ e. absurd (false≢true e))

ascii_from_legal : (bs : List ℕ) → all_legal bs ≡ true → IsAscii bs
ascii_from_legal [] h = IsAscii-nil
ascii_from_legal (b ∷ bs) h = let p = and_parts (legal b) (all_legal bs) h in IsAscii-cons b bs (legal_byte b p.0).1 (ascii_from_legal bs p.1)

-- a label's text is text
pub text_utf8 : (n : ℕ) → is_label n ≡ true → IsUtf8 (text_of n)
unfolding is_label
text_utf8 n h = IsUtf8-from_ascii (text_of n) (ascii_from_legal (text_of n) (legal_until (eight n) (and_parts _ (padded false (eight n)) h).1))
