-- The steps of a loop that reads a number digit by digit, and what a number's text is. Assumes nothing.
use Rattle.std.proofs.Common.{◌≡◌, ℕ, ◌+◌, ◌-◌, ◌*◌, ◌^◌, ◌<◌, ◌≤◌, Bool, true, false, cond, ◌&&◌, eqb, ltb, List, [], ◌∷◌, length, get_or, drop, Some, None, decimal, sym, refl, ap, ◌∙◌, arith, rules}
use Rattle.std.proofs.lemmas.Fmt.{decimal-digits_value, digits_value-decimal, digits_decimal, decimal_nonempty, decimal_digit, first_decimal}
use Rattle.std.proofs.lemmas.List.{at_drop_more, at_drop_all}
use Rattle.std.proofs.lemmas.Str.Parse.{IsNumeralModel, numerals_by_fold, tells_all_ascii_digits}
use Rattle.std.proofs.lemmas.Bool.{lt-ltb, le-ltb, ltb-true, eqb-true, eqb-false, eq-eqb, ne_eqb, and_from, and_parts, not-true, not_from_false, both_ways}
use Rattle.std.specs.Char.{is_ascii_digit}
use Rattle.std.specs.Str.{all_ascii_digits}
use Rattle.lines.specs.Laws.{NumbersInDecimal}
use Rattle.lines.specs.Numbers.{unpadded, value_after, read_number}

-- further digits never make the number smaller
value_least : (n : ℕ) (bs : List ℕ) → n ≤ value_after n bs
value_least n [] = omega arith
value_least n (b ∷ bs) = omega (arith, value_least (n * 10 + (b - 48)) bs)

and_false : (a b : Bool) → b ≡ false → (a && b) ≡ false
and_false true b e = e
and_false false b e = refl

none_when : (t : Bool) (n : ℕ) → t ≡ false → None ≡ cond t (Some n) None
none_when t n e = sym (ap (λ s. cond s (Some n) None) e)

some_when : (t : Bool) (m n : ℕ) → t ≡ true → m ≡ n → Some m ≡ cond t (Some n) None
some_when t m n e s = ap Some s ∙ sym (ap (λ u. cond u (Some n) None) e)

module _ (bs : List ℕ) (i n : ℕ) (value : value_after n (drop i bs) ≡ value_after 0 bs) (digits : all_ascii_digits (drop i bs) ≡ all_ascii_digits bs) where
  value_on : i < length bs → value_after (n * 10 + (get_or bs i 0 - 48)) (drop (i + 1) bs) ≡ value_after 0 bs
  value_on low = sym (at_drop_more (value_after n) bs i 0 low) ∙ value

  digits_on : i < length bs → (is_ascii_digit (get_or bs i 0) && all_ascii_digits (drop (i + 1) bs)) ≡ all_ascii_digits bs
  digits_on low = sym (at_drop_more all_ascii_digits bs i 0 low) ∙ digits

  pub number_no_digit : i < length bs → is_ascii_digit (get_or bs i 0) ≡ false → None ≡ read_number bs
  number_no_digit low no' =
      let none : all_ascii_digits bs ≡ false = sym (digits_on low) ∙ ap (λ t. t && all_ascii_digits (drop (i + 1) bs)) no' in
      none_when _ _ (ap (λ t. t && ltb (value_after 0 bs) (2 ^ 32)) (and_false (unpadded bs) (all_ascii_digits bs) none))

  pub number_too_large : i < length bs → 2 ^ 32 ≤ n * 10 + (get_or bs i 0 - 48) → None ≡ read_number bs
  number_too_large low large =
      let most : 2 ^ 32 ≤ value_after 0 bs = omega (arith, value_least (n * 10 + (get_or bs i 0 - 48)) (drop (i + 1) bs), value_on low) in
      none_when _ _ (and_false (unpadded bs && all_ascii_digits bs) _ (le-ltb (value_after 0 bs) (2 ^ 32) most))

  pub number_more : i < length bs → is_ascii_digit (get_or bs i 0) ≡ true → n * 10 + (get_or bs i 0 - 48) < 2 ^ 32 → (value_after (n * 10 + (get_or bs i 0 - 48)) (drop (i + 1) bs) ≡ value_after 0 bs) × (all_ascii_digits (drop (i + 1) bs) ≡ all_ascii_digits bs) × (n * 10 + (get_or bs i 0 - 48) < 2 ^ 32)
  number_more low yes' small = (value_on low, sym (ap (λ t. t && all_ascii_digits (drop (i + 1) bs)) yes') ∙ digits_on low, small)

  pub number_all : length bs ≤ i → n < 2 ^ 32 → unpadded bs ≡ true → Some n ≡ read_number bs
  number_all past small plain =
      let is : n ≡ value_after 0 bs = sym (at_drop_all (value_after n) bs i past) ∙ value in
      some_when _ _ _ (and_from _ _ (and_from _ _ plain (sym digits ∙ at_drop_all all_ascii_digits bs i past)) (lt-ltb (value_after 0 bs) (2 ^ 32) (omega arith))) is

-- the digits and the value of the specification are those of decimal writing
numerals : IsNumeralModel (λ ds. all_ascii_digits ds ≡ true) (value_after 0)
numerals = numerals_by_fold _ tells_all_ascii_digits value_after (search rules)

unpadded_some : (bs : List ℕ) → unpadded bs ≡ true → 0 < length bs
unpadded_some [] h = absurd (both_ways false refl h)
unpadded_some (b ∷ bs) h = omega arith

-- a text with no padding is one zero, or begins with another digit
unpadded_first : (bs : List ℕ) → unpadded bs ≡ true → get_or bs 0 0 ≡ 48 → length bs ≡ 1
unpadded_first [] h z = absurd (both_ways false refl h)
unpadded_first (b ∷ []) h z = refl
unpadded_first (b ∷ (c ∷ bs)) h z = absurd (both_ways (eqb b 48) (not-true _ h) (eq-eqb b 48 z))

unpadded_from : (bs : List ℕ) → 0 < length bs → (get_or bs 0 0 ≡ 48 → length bs ≡ 1) → unpadded bs ≡ true
unpadded_from [] some one = absurd (omega arith)
unpadded_from (b ∷ []) some one = refl
unpadded_from (b ∷ (c ∷ bs)) some one = not_from_false _ (ne_eqb b 48 (λ z. let l = one z in omega arith))

decimal_unpadded : (n : ℕ) → n < 2 ^ 64 → unpadded (decimal n) ≡ true
decimal_unpadded n small = unpadded_from (decimal n) (decimal_nonempty n small) (go (eqb n 0) refl)
  where
    go : (t : Bool) → eqb n 0 ≡ t → get_or (decimal n) 0 0 ≡ 48 → length (decimal n) ≡ 1
    go true h z = let e = eqb-true n 0 h in ap length (decimal_digit n (omega arith))
    go false h z = let d : n ≡ 0 → ⊥ = eqb-false n 0 h in absurd (omega (arith, first_decimal n (omega arith) small))

pub numbers_in_decimal : NumbersInDecimal
numbers_in_decimal text n = (go (unpadded text && all_ascii_digits text && ltb (value_after 0 text) (2 ^ 32)) refl, λ h. back h.0 h.1)
  where
    go : (t : Bool) → (unpadded text && all_ascii_digits text && ltb (value_after 0 text) (2 ^ 32)) ≡ t → cond t (Some (value_after 0 text)) None ≡ Some n → (text ≡ decimal n) × (n < 2 ^ 32)
    go true h e =
        let p : (unpadded text && all_ascii_digits text ≡ true) × (ltb (value_after 0 text) (2 ^ 32) ≡ true) = and_parts _ _ h in
        let q : (unpadded text ≡ true) × (all_ascii_digits text ≡ true) = and_parts _ _ p.0 in
        let small : value_after 0 text < 2 ^ 32 = ltb-true _ _ p.1 in
        let is : value_after 0 text ≡ n = cc in
        (sym (ap decimal (sym is) ∙ decimal-digits_value numerals text q.1 (unpadded_some text q.0) (unpadded_first text q.0) (omega arith)), omega arith)
    go false h e = let z : ◌≡◌ {A = ℕ} 0 1 = cc in absurd (omega arith)

    back : text ≡ decimal n → n < 2 ^ 32 → read_number text ≡ Some n
    back is small =
        let fits : n < 2 ^ 64 = omega arith in
        let value : value_after 0 text ≡ n = ap (value_after 0) is ∙ digits_value-decimal numerals n fits in
        let plain : unpadded text ≡ true = ap unpadded is ∙ decimal_unpadded n fits in
        let digits : all_ascii_digits text ≡ true = ap all_ascii_digits is ∙ digits_decimal numerals n fits in
        sym (some_when _ n (value_after 0 text) (and_from _ _ (and_from _ _ plain digits) (lt-ltb (value_after 0 text) (2 ^ 32) (omega arith))) (sym value))
