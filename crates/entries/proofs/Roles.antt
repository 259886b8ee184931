-- The greater of two rows, number by number, and its step in a loop. Assumes nothing.
use Rattle.std.specs.Prelude.{◌≡◌, ℕ, zero, suc, ◌+◌, ◌<◌, ◌≤◌, max, true, false, ◌&&◌, List, [], ◌∷◌, length, drop, nat_lt, slice_index, refl}
use Rattle.std.proofs.Common.{sym, ap, ◌∙◌, arith}
use Rattle.std.proofs.lemmas.List.{at_drop_more, at_drop_all}
use Rattle.entries.specs.Rights.{greater, greatest, all_below}

pub length_greater : (xs ys : List ℕ) → length xs ≡ length ys → length (greater xs ys) ≡ length xs
length_greater [] [] e = refl
length_greater [] (y ∷ ys) e = sym e
length_greater (x ∷ xs) [] e = refl
length_greater (x ∷ xs) (y ∷ ys) e = ap suc (length_greater xs ys (omega arith))

pub get_or_greater : (xs ys : List ℕ) (k : ℕ) → slice_index (greater xs ys) k ≡ max (slice_index xs k) (slice_index ys k)
get_or_greater [] ys k = omega arith
get_or_greater (x ∷ xs) [] zero = omega arith
get_or_greater (x ∷ xs) [] (suc k) = omega arith
get_or_greater (x ∷ xs) (y ∷ ys) zero = refl
get_or_greater (x ∷ xs) (y ∷ ys) (suc k) = get_or_greater xs ys k

pub below_stop : (n : ℕ) (xs : List ℕ) (i : ℕ) → i < length xs → all_below n (drop i xs) ≡ all_below n xs → nat_lt (slice_index xs i) n ≡ false → false ≡ all_below n xs
below_stop n xs i lt inv no' =
    let e : all_below n (drop i xs) ≡ (nat_lt (slice_index xs i) n && all_below n (drop (i + 1) xs)) = at_drop_more (all_below n) xs i 0 lt in
    sym (sym inv ∙ e ∙ ap (λ b. b && all_below n (drop (i + 1) xs)) no')

pub below_more : (n : ℕ) (xs : List ℕ) (i : ℕ) → i < length xs → all_below n (drop i xs) ≡ all_below n xs → nat_lt (slice_index xs i) n ≡ true → all_below n (drop (i + 1) xs) ≡ all_below n xs
below_more n xs i lt inv yes' =
    let e : all_below n (drop i xs) ≡ (nat_lt (slice_index xs i) n && all_below n (drop (i + 1) xs)) = at_drop_more (all_below n) xs i 0 lt in
    sym (sym inv ∙ e ∙ ap (λ b. b && all_below n (drop (i + 1) xs)) yes')

pub below_all : (n : ℕ) (xs : List ℕ) (i : ℕ) → length xs ≤ i → all_below n (drop i xs) ≡ all_below n xs → true ≡ all_below n xs
below_all n xs i le inv = sym (at_drop_all (all_below n) xs i le) ∙ inv

pub top_more : (top : ℕ) (xs : List ℕ) (i : ℕ) → i < length xs → max top (greatest (drop i xs)) ≡ greatest xs → max (max top (slice_index xs i)) (greatest (drop (i + 1) xs)) ≡ greatest xs
top_more top xs i lt inv =
    let e : greatest (drop i xs) ≡ max (slice_index xs i) (greatest (drop (i + 1) xs)) = at_drop_more greatest xs i 0 lt in
    omega arith

pub top_all : (top : ℕ) (xs : List ℕ) (i : ℕ) → length xs ≤ i → max top (greatest (drop i xs)) ≡ greatest xs → top ≡ greatest xs
top_all top xs i le inv = let e : greatest (drop i xs) ≡ 0 = at_drop_all greatest xs i le in omega arith
