-- The bytes before the first one sought, by the word of the library. Assumes nothing.
use Rattle.std.proofs.Common.{◌≡◌, ℕ, Bool, true, false, not, cond, eqb, ltb, List, length, Some, None, Option, sym, refl, ap, ◌∙◌, arith}
use Rattle.std.proofs.lemmas.Bool.{ltb-false}
use Rattle.std.proofs.lemmas.List.Recursion.{is_position_or_len}
use Rattle.std.proofs.lemmas.List.Sums.{prefix_len-le-length}
use Rattle.std.specs.List.{position, position_or_len}
use Rattle.std.specs.Option.{unwrap_or}
use Rattle.lines.specs.Fields.{before_byte}

before_byte-is : (sought : ℕ) (bs : List ℕ) → before_byte sought bs ≡ position_or_len (λ b. eqb b sought) bs
before_byte-is sought = is_position_or_len (before_byte sought) (λ b. eqb b sought) refl (λ b bs. ap (cond (eqb b sought) 0) (omega arith))

-- the place of the first one sought, or the length
pub before_found : (sought : ℕ) (bs : List ℕ) (o : Option ℕ) → o ≡ position (λ b. eqb b sought) bs → unwrap_or o (length bs) ≡ before_byte sought bs
before_found sought bs o is = ap (λ p. unwrap_or p (length bs)) is ∙ go (ltb n (length bs)) refl ∙ sym (before_byte-is sought bs)
  where
    n : ℕ
    n = position_or_len (λ b. eqb b sought) bs

    go : (t : Bool) → ltb n (length bs) ≡ t → unwrap_or (cond t (Some n) None) (length bs) ≡ n
    go true h = refl
    go false h = omega (arith, ltb-false n (length bs) h, prefix_len-le-length (λ b. not (eqb b sought)) bs)
