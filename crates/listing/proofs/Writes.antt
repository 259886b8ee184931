-- How far the loops over the places have come: what is counted, what is written, and what a sort makes of it. Assumes nothing.
use Rattle.std.proofs.Common.{◌≡◌, ℕ, ◌+◌, ◌<◌, ◌≤◌, Bool, true, false, cond, ltb, List, [], ◌∷◌, ◌++◌, length, take, drop, set, Some, None, Ok, Err, Option, Result, sym, ap, ◌∙◌, subst, ap₂, arith}
use mathlib.Core.Path.{fun_ext}
use Rattle.std.specs.List.{cons_option}
use Rattle.std.specs.List.Sorted.{IsPermutation, IsSortedBy}
use Rattle.std.proofs.lemmas.Bool.Decides.{nat_tests}
use Rattle.std.proofs.lemmas.List.{append_assoc, append-nil, drop_at, drop_more, length-append, length_push, take-append-drop, take_all, take_at, take_more}
use Rattle.std.proofs.lemmas.List.Elements.{filter_map-append}
use Rattle.std.proofs.Math.Seq.{set-append_seam}
use Rattle.names.specs.Paths.{no_path}
use Rattle.entries.specs.declared.recipe.Recipe.{Recipe}
use Rattle.entries.specs.Recipes.{blank_recipe}
use Rattle.store.specs.Meaning.{Meaning, Sound, count_of, path_at}
use Rattle.store.specs.Laws.{entry_of}
use Rattle.store.proofs.Pairs.{path_here}
use Rattle.listing.specs.declared.listed.Listed.{Listed}
use Rattle.listing.specs.Listing.{pick, picks, all_picks, listing, written, list_answer, list_after, Lists, ListingsReadAlike}
use Rattle.listing.proofs.Sorts.{lower, listing_lists, length_listing, one_listing, sort_listing}

-- one more after those at the front of the memory
written_more : (xs start : List Listed) (x : Listed) → length xs < length start → set (written xs start) (length xs) x ≡ written (xs ++ x ∷ []) start
written_more xs start x lt =
    ap (λ u. set (xs ++ u) (length xs) x) (drop_more start (length xs) x lt)
    ∙ set-append_seam xs _ (drop (length xs + 1) start) x
    ∙ sym (append_assoc xs (x ∷ []) (drop (length xs + 1) start))
    ∙ ap (λ k. (xs ++ x ∷ []) ++ drop k start) (sym (length_push xs x))

module _ (m : Meaning Recipe) (d : ℕ) where
  -- what is picked before place i
  abbrev pub picks_before : ℕ → List Listed
  picks_before i = picks (entry_of m) d (take i m.pairs)

  -- one place more
  picks_more : (i : ℕ) (o : Option Listed) → i < count_of m → o ≡ pick (entry_of m) d (path_at m i) → picks_before (i + 1) ≡ picks_before i ++ cons_option o []
  unfolding count_of path_at
  picks_more i o lt h =
      ap (picks (entry_of m) d) (take_more m.pairs i (no_path, blank_recipe) lt)
      ∙ filter_map-append _ (take i m.pairs) _
      ∙ ap (λ q. picks_before i ++ cons_option q []) (ap (pick (entry_of m) d) (sym (path_here m.pairs i (no_path, blank_recipe) lt)) ∙ sym h)

  -- there are no more than all, and at the end they are all
  picks_few : (i : ℕ) → length (picks_before i) ≤ length (all_picks m d)
  picks_few i =
      let split = ap (picks (entry_of m) d) (sym (take-append-drop i m.pairs)) ∙ filter_map-append _ (take i m.pairs) (drop i m.pairs) in
      omega (arith, ap length split, length-append (picks_before i) (picks (entry_of m) d (drop i m.pairs)))

  pub picks_all : (i : ℕ) → count_of m ≤ i → picks_before i ≡ all_picks m d
  unfolding count_of
  picks_all i le = ap (picks (entry_of m) d) (take_all i m.pairs le)

  -- what is picked before place i, t of them, is written to the memory
  pub record Filled (start : List Listed) (i t : ℕ) (memory : List Listed) : Type 0 where
    pub total : t ≡ length (picks_before i)
    pub filled : memory ≡ written (picks_before i) start

  pub filled_room : (start memory : List Listed) (i t : ℕ) (x : Listed) → length (all_picks m d) ≤ length start → i < count_of m → Some x ≡ pick (entry_of m) d (path_at m i) → Filled start i t memory → t < length start
  filled_room start memory i t x le lt h w = omega (arith, w.total, picks_few (i + 1), ap length (picks_more i (Some x) lt h), length_push (picks_before i) x)

  pub filled_some : (start memory : List Listed) (i t : ℕ) (x : Listed) → t < length start → i < count_of m → Some x ≡ pick (entry_of m) d (path_at m i) → Filled start i t memory → Filled start (i + 1) (t + 1) (set memory t x)
  filled_some start memory i t x room lt h w =
      let more = picks_more i (Some x) lt h in
      record {
        total = omega (arith, w.total, ap length more, length_push (picks_before i) x);
        filled = ap₂ (λ n k. set n k x) w.filled w.total ∙ written_more (picks_before i) start x (omega (arith, w.total)) ∙ ap (λ xs. written xs start) (sym more);
      }

  pub filled_none : (start memory : List Listed) (i t : ℕ) → i < count_of m → None ≡ pick (entry_of m) d (path_at m i) → Filled start i t memory → Filled start (i + 1) t memory
  filled_none start memory i t lt h w = let more = picks_more i None lt h ∙ append-nil (picks_before i) in record { total = w.total ∙ ap length (sym more); filled = w.filled ∙ ap (λ xs. written xs start) (sym more) }

  -- the memory where the picks at its front, k of them, are sorted
  pub sorted_front : Sound m → (k : ℕ) (memory left ys : List Listed) → k ≡ length (all_picks m d) → left ≡ written (all_picks m d) memory → IsPermutation (take k left) ys → IsSortedBy lower ys → ys ++ drop k left ≡ written (listing m d) memory
  sorted_front sound k memory left ys n e moved up =
      let front : take k left ≡ all_picks m d = ap (take k) e ∙ take_at (all_picks m d) _ k (sym n) in
      let back : drop k left ≡ drop (length (all_picks m d)) memory = ap (drop k) e ∙ drop_at (all_picks m d) _ k (sym n) in
      let sorted = sort_listing m sound d ys (subst (λ u. IsPermutation u ys) front moved) up in
      ap₂ ◌++◌ sorted (back ∙ ap (λ j. drop j memory) (sym (length_listing m d)))

  -- a memory that is too short, and one that is not
  pub short_answer : (memory : List Listed) → length memory < length (all_picks m d) → (Err 20 ≡ list_answer m d memory) × (memory ≡ list_after m d memory)
  short_answer memory lt = grind (arith, nat_tests, length_listing m d)

  pub long_answer : (memory after : List Listed) (n : ℕ) → length (all_picks m d) ≤ length memory → n ≡ length (all_picks m d) → after ≡ written (listing m d) memory → (Ok n ≡ list_answer m d memory) × (after ≡ list_after m d memory)
  long_answer memory after n le all left = grind (arith, nat_tests, length_listing m d)

  -- and what is answered as listed stands at the front of the memory
  pub answer_lists : Sound m → (memory after : List Listed) (r : Result ℕ ℕ) → r ≡ list_answer m d memory → after ≡ list_after m d memory → (n : ℕ) → r ≡ Ok n → Lists (entry_of m) d (take n after)
  answer_lists sound memory after r answered left n e = subst (λ xs. Lists (entry_of m) d (take n xs)) (sym left) (go (ltb (length memory) (length (listing m d))) (sym answered ∙ e))
    where
      go : (b : Bool) → cond {A = Result ℕ ℕ} b (Err 20) (Ok (length (listing m d))) ≡ Ok n → Lists (entry_of m) d (take n (cond b memory (written (listing m d) memory)))
      go true e = cc
      go false e = let n_is : length (listing m d) ≡ n = cc in subst (Lists (entry_of m) d) (sym (take_at (listing m d) _ n n_is)) (listing_lists m sound d)

-- stores that hold the same entries have one listing
pub listings_alike : ListingsReadAlike
listings_alike m n a b same d memory =
    let l : listing m d ≡ listing n d = one_listing (entry_of n) d (listing m d) (listing n d) (subst (λ f. Lists f d (listing m d)) (fun_ext same) (listing_lists m a d)) (listing_lists n b d) in
    (ap (λ xs. cond {A = Result ℕ ℕ} (ltb (length memory) (length xs)) (Err 20) (Ok (length xs))) l, ap (λ xs. cond (ltb (length memory) (length xs)) memory (written xs memory)) l)
