-- What moving the later items up by one leaves. Assumes nothing.
use Rattle.std.proofs.Common.{◌≡◌, ℕ, suc, ◌+◌, ◌-◌, ◌<◌, ◌≤◌, List, ◌++◌, length, take, drop, ap, ◌∙◌, arith}
use Rattle.std.specs.List.{remove, copy_within}
use Rattle.std.proofs.lemmas.List.{take-take, drop-take, length-drop}
use Rattle.std.proofs.lemmas.List.Edits.{take-paste}

pub gap_closed : {X : Type 0} (xs : List X) (n at : ℕ) → at < n → n ≤ length xs → take (n - 1) (copy_within xs (at + 1) n at) ≡ remove (take n xs) at
gap_closed xs n at lt le =
    let k = n - (at + 1) in
    let next : at + 1 ≡ suc at = omega arith in
    let last : n - 1 ≡ at + k = omega arith in
    let all : n ≡ suc at + k = omega arith in
    let front = take-paste xs at (drop (at + 1) xs) k (omega arith) (simp length-drop (omega arith)) in
    let early = take-take at n xs (omega arith) in
    let late : drop (suc at) (take n xs) ≡ take k (drop (suc at) xs) = ap (λ j. drop (suc at) (take j xs)) all ∙ drop-take (suc at) k xs in
    ap (λ j. take j (copy_within xs (at + 1) n at)) last ∙ front ∙ ap (λ j. take at xs ++ take k (drop j xs)) next ∙ simp (early, late)
