-- A shuffle of the picked paths that is sorted is the listing. Assumes nothing.
use Rattle.std.proofs.Common.{◌≡◌, ℕ, suc, ◌<◌, ◌≤◌, Bool, true, false, cond, List, [], ◌∷◌, length, get_or, is_some, Some, Ordering, Less, Equal, Greater, sym, refl, ap, ◌∙◌, arith}
use Rattle.std.specs.Ordering.{is_lt}
use Rattle.std.specs.List.Sorted.{IsPermutation, IsSortedBy}
use Rattle.std.specs.Cmp.{IsStrictWeakOrder}
use Rattle.std.specs.List.{ContainsAt as Has, AllByRecursion}
use Rattle.std.proofs.lemmas.List.MinMax.{ranks_by}
use Rattle.std.proofs.ByRecursion.{all-has, All-from_get_or, All-weaker, all_shuffled, has_shuffled}
use Rattle.std.proofs.lemmas.List.Sorted.{IsPermutation-refl, IsPermutation-cons, IsPermutation-trans, IsPermutation-swap, length_permutation, sorted_far as ascends_far}
use Rattle.names.specs.declared.path.Path.{Path}
use Rattle.names.specs.Paths.{order_of}
use Rattle.entries.specs.declared.recipe.Recipe.{Recipe}
use Rattle.store.specs.Meaning.{Meaning, Sound, paths_of, among}
use Rattle.store.specs.Laws.{entry_of}
use Rattle.reading.specs.Shown.{Look}
use Rattle.reading.specs.Rules.{Holds}
use Rattle.reading.proofs.Found.{entry_among}
use Rattle.reading.proofs.Shows.{shows_held}
use Rattle.listing.specs.declared.listed.Listed.{Listed}
use Rattle.listing.specs.Listing.{pick, all_picks, insert, in_order, listing, Ascending, Lists}
use Rattle.listing.proofs.Orders.{by_path, order_equal}
use Rattle.listing.proofs.Members.{one_list}
use Rattle.listing.proofs.Picks.{pick_holds, holds_pick, picks_picked, picks_has, times, times_first, times_own, times_shuffled, times_once}

-- the first path is below the second
abbrev pub lower : Listed → Listed → Bool
lower x y = is_lt (order_of x.path y.path)

-- which is a lawful order
ranked : IsStrictWeakOrder lower
ranked = ranks_by by_path (λ (x : Listed). x)

-- no path is lower than one before it
abbrev Sorted : List Listed → Type 0
Sorted [] = Unit {0}
Sorted (x ∷ xs) = AllByRecursion (λ y. lower y x ≡ false) xs × Sorted xs

-- the paths above another, where none is the same
strictly : (x : Listed) (ys : List Listed) → AllByRecursion (λ y. lower y x ≡ false) ys → times x.path ys ≤ 0 → AllByRecursion (λ y. order_of x.path y.path ≡ Less) ys
strictly x [] a h = tt
strictly x (y ∷ ys) a h = (go (order_of x.path y.path) refl, strictly x ys a.1 (omega (arith, times_first x.path y ys)))
  where
    go : (o : Ordering) → order_of x.path y.path ≡ o → o ≡ Less
    go Less e = refl
    go Equal e = absurd (let t = times_own y ys in let s = ap (λ p. times p (y ∷ ys)) (order_equal x.path y.path e) in omega arith)
    go Greater e = let r = by_path.antisymm y x in cc

-- a sorted list that has each path at most once
ascends : (ys : List Listed) → Sorted ys → ((p : Path) → times p ys ≤ 1) → Ascending ys
ascends [] s h = tt
ascends (x ∷ xs) s h = (strictly x xs s.0 (omega (arith, h x.path, times_own x xs)), ascends xs s.1 (λ p. omega (arith, h p, times_first p x xs)))

-- a sorted shuffle of what is picked has exactly the shown paths of the directory, ascending
module _ (m : Meaning Recipe) (sound : Sound m) (d : ℕ) (ys : List Listed) (moved : IsPermutation (all_picks m d) ys) where
  listed_picked : (x : Listed) → Has ys x → (x.path.directory ≡ d) × Holds (entry_of m) x.path x.content
  listed_picked x h =
      let all = all_shuffled (λ x. pick (entry_of m) d x.path ≡ Some x) (all_picks m d) ys moved (picks_picked (entry_of m) d m.pairs) in
      let p = pick_holds (entry_of m) d x.path x (all-has (λ x. pick (entry_of m) d x.path ≡ Some x) ys x all h) in
      (p.1, p.2)

  picked_listed : (x : Listed) → (x.path.directory ≡ d) × Holds (entry_of m) x.path x.content → Has ys x
  unfolding entry_of
  picked_listed x h =
      let here : among (paths_of m.pairs) x.path ≡ true = sym (entry_among m.pairs x.path) ∙ ap is_some (shows_held (entry_of m) x.path h.1.0 h.1.1) in
      has_shuffled (all_picks m d) ys x moved (picks_has (entry_of m) d m.pairs x.path x here (holds_pick (entry_of m) d x h.0 h.1))

  sorted_lists : Sorted ys → Lists (entry_of m) d ys
  sorted_lists up =
      record {
        ascending = ascends ys up (λ p. omega (arith, times_shuffled p (all_picks m d) ys moved, times_once (entry_of m) d m.pairs sound.apart p));
        exactly = λ x. (listed_picked x, picked_listed x);
      }

-- insertion gives such a shuffle
insert_shuffled : (x : Listed) (ys : List Listed) → IsPermutation (x ∷ ys) (insert x ys)
insert_shuffled x [] = IsPermutation-refl (x ∷ [])
insert_shuffled x (y ∷ ys) = go (lower y x) (insert_shuffled x ys)
  where
    go : (b : Bool) → IsPermutation (x ∷ ys) (insert x ys) → IsPermutation (x ∷ y ∷ ys) (cond b (y ∷ insert x ys) (x ∷ y ∷ ys))
    go true ih = IsPermutation-trans _ _ _ (IsPermutation-swap (x ∷ y ∷ ys) (y ∷ x ∷ ys) 0 1 (omega arith) (omega arith) refl) (IsPermutation-cons y (x ∷ ys) (insert x ys) ih)
    go false ih = IsPermutation-refl (x ∷ y ∷ ys)

-- and so does a list put in order
order_shuffled : (xs : List Listed) → IsPermutation xs (in_order xs)
order_shuffled [] = IsPermutation-refl []
order_shuffled (x ∷ xs) = IsPermutation-trans _ _ _ (IsPermutation-cons x xs (in_order xs) (order_shuffled xs)) (insert_shuffled x (in_order xs))

-- and it is sorted
all_insert : (P : Listed → Type 0) (x : Listed) (ys : List Listed) → P x → AllByRecursion P ys → AllByRecursion P (insert x ys)
all_insert P x ys h a = all_shuffled P (x ∷ ys) (insert x ys) (insert_shuffled x ys) (h, a)

insert_sorted : (x : Listed) (ys : List Listed) → Sorted ys → Sorted (insert x ys)
insert_sorted x [] s = (tt, tt)
insert_sorted x (y ∷ ys) s = go (lower y x) refl (insert_sorted x ys s.1)
  where
    go : (b : Bool) → lower y x ≡ b → Sorted (insert x ys) → Sorted (cond b (y ∷ insert x ys) (x ∷ y ∷ ys))
    go true q ih = (all_insert (λ z. lower z y ≡ false) x ys (ranked.one_way y x q) s.0, ih)
    go false q ih = ((q, All-weaker (λ z. lower z y ≡ false) (λ z. lower z x ≡ false) (λ z h. ranked.chain z y x h q) ys s.0), s)

order_sorted : (xs : List Listed) → Sorted (in_order xs)
order_sorted [] = tt
order_sorted (x ∷ xs) = insert_sorted x (in_order xs) (order_sorted xs)

-- so the listing has exactly the shown paths of the directory, ascending, and as many as are picked
pub listing_lists : (m : Meaning Recipe) → Sound m → (d : ℕ) → Lists (entry_of m) d (listing m d)
listing_lists m sound d = let ps = all_picks m d in sorted_lists m sound d (listing m d) (order_shuffled ps) (order_sorted ps)

pub length_listing : (m : Meaning Recipe) (d : ℕ) → length (listing m d) ≡ length (all_picks m d)
length_listing m d = length_permutation _ _ (order_shuffled (all_picks m d))

-- there is one such list
pub one_listing : (f : Look) (d : ℕ) (xs ys : List Listed) → Lists f d xs → Lists f d ys → xs ≡ ys
one_listing f d xs ys a b = one_list xs ys a.ascending b.ascending (λ x. (λ h. (b.exactly x).1 ((a.exactly x).0 h), λ h. (a.exactly x).1 ((b.exactly x).0 h)))

-- so what `sort` leaves is the listing
sorted_far : (xs : List Listed) → ((i j : ℕ) (z : Listed) → i ≤ j → j < length xs → lower (get_or xs j z) (get_or xs i z) ≡ false) → Sorted xs
sorted_far [] h = tt
sorted_far (x ∷ xs) h = (All-from_get_or (λ y. lower y x ≡ false) xs x (λ j l. h 0 (suc j) x (omega arith) (omega arith)), sorted_far xs (λ i j z a b. h (suc i) (suc j) z (omega arith) (omega arith)))

pub sort_listing : (m : Meaning Recipe) → Sound m → (d : ℕ) (ys : List Listed) → IsPermutation (all_picks m d) ys → IsSortedBy lower ys → ys ≡ listing m d
sort_listing m sound d ys moved up =
    one_listing (entry_of m) d ys (listing m d) (sorted_lists m sound d ys moved (sorted_far ys (ascends_far lower ranked ys up))) (listing_lists m sound d)
