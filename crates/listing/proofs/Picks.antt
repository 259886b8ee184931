-- Which paths are picked from the pairs: those of the directory that are shown, each once. Assumes nothing.
use Rattle.std.proofs.Common.{◌≡◌, ℕ, ◌+◌, ◌≤◌, Bool, true, false, cond, ◌||◌, List, [], ◌∷◌, map, Some, None, sum_by, Option, sym, refl, ap, ◌∙◌, subst, arith}
use Rattle.std.proofs.lemmas.Bool.Decides.{nat_tests}
use Rattle.std.proofs.lemmas.Grind.{common_steps}
use Rattle.std.proofs.lemmas.Option.{same_Some}
use Rattle.std.specs.List.{ContainsAt as Has, AllByRecursion, cons_option, filter_map, range_with_len}
use Rattle.std.specs.List.Sorted.{IsPermutation}
use Rattle.std.proofs.lemmas.List.Sorted.{sum_by-IsPermutation}
use Rattle.std.proofs.lemmas.List.Sums.{sum_by-cons}
use Rattle.std.proofs.lemmas.Bool.{cond-true, cond-false, and_parts, not-true}
use Rattle.names.specs.declared.path.Path.{Path}
use Rattle.names.specs.Paths.{same_path}
use Rattle.names.specs.Same.{same_is, same_refl}
use Rattle.entries.specs.declared.recipe.Recipe.{Recipe}
use Rattle.store.specs.Meaning.{Meaning, paths_of, among, count_of, path_at, distinct}
use Rattle.store.specs.Laws.{entry_of}
use Rattle.entries.specs.Recipes.{blank_recipe}
use Rattle.reading.proofs.Found.{pairs_at_places}
use Rattle.reading.specs.Shown.{Look}
use Rattle.reading.specs.Rules.{Holds}
use Rattle.reading.proofs.Shows.{holds_shown, shown_holds}
use Rattle.listing.specs.declared.listed.Listed.{Listed}
use Rattle.listing.specs.Listing.{pick, picks, all_picks}
use Rattle.listing.proofs.Members.{has_first, has_other}

-- what is picked at a path: the path with its content, where it lies in the directory and is shown
pub pick_holds : (f : Look) (d : ℕ) (p : Path) (x : Listed) → pick f d p ≡ Some x → (x.path ≡ p) × (p.directory ≡ d) × Holds f p x.content
pick_holds f d p x h = grind (arith, nat_tests, common_steps, shown_holds f p x.content)

pub holds_pick : (f : Look) (d : ℕ) (x : Listed) → x.path.directory ≡ d → Holds f x.path x.content → pick f d x.path ≡ Some x
holds_pick f d x q h = let s = holds_shown f x.path x.content h in grind (arith, nat_tests, common_steps)

-- what is picked at the places of a store, in their order
filter_map-map : {X Y Z : Type 0} (h : Y → Option Z) (f : X → Y) (xs : List X) → filter_map h (map f xs) ≡ filter_map (λ x. h (f x)) xs
filter_map-map h f [] = refl
filter_map-map h f (x ∷ xs) = ap (cons_option (h (f x))) (filter_map-map h f xs)

pub picks_at_places : (m : Meaning Recipe) (d : ℕ) → filter_map (λ i. pick (entry_of m) d (path_at m i)) (range_with_len 0 (count_of m)) ≡ all_picks m d
picks_at_places m d = sym (ap (filter_map (λ x. pick (entry_of m) d x.0)) (pairs_at_places blank_recipe m) ∙ filter_map-map _ _ (range_with_len 0 (count_of m)))

-- each element is what is picked at its path
pub picks_picked : (f : Look) (d : ℕ) (ps : List (Path × Recipe)) → AllByRecursion (λ x. pick f d x.path ≡ Some x) (picks f d ps)
picks_picked f d [] = tt
picks_picked f d (y ∷ ys) = go (pick f d y.0) refl (picks_picked f d ys)
  where
    go : (o : Option Listed) → pick f d y.0 ≡ o → AllByRecursion (λ x. pick f d x.path ≡ Some x) (picks f d ys) → AllByRecursion (λ x. pick f d x.path ≡ Some x) (cons_option o (picks f d ys))
    go None q ih = ih
    go (Some x) q ih = (ap (pick f d) (pick_holds f d y.0 x q).0 ∙ q, ih)

-- what is picked at a path of the pairs is an element
pub picks_has : (f : Look) (d : ℕ) (ps : List (Path × Recipe)) (p : Path) (x : Listed) → among (paths_of ps) p ≡ true → pick f d p ≡ Some x → Has (picks f d ps) x
picks_has f d [] p x a h = cc
picks_has f d (y ∷ ys) p x a h = go (same_path y.0 p) refl (pick f d y.0) refl a (picks_has f d ys p x)
  where
    go : (b : Bool) → same_path y.0 p ≡ b → (o : Option Listed) → pick f d y.0 ≡ o → (b || among (paths_of ys) p) ≡ true → (among (paths_of ys) p ≡ true → pick f d p ≡ Some x → Has (picks f d ys) x) → Has (cons_option o (picks f d ys)) x
    go true q None r a ih = let e = same_is y.0 p q in cc
    go true q (Some z) r a ih = let e = same_Some _ _ (sym r ∙ ap (pick f d) (same_is y.0 p q) ∙ h) in subst (λ w. Has (w ∷ picks f d ys) x) (sym e) (has_first x (picks f d ys))
    go false q None r a ih = ih a h
    go false q (Some z) r a ih = has_other z x (picks f d ys) (ih a h)

-- how often a path is listed
abbrev one : Path → Path → ℕ
one q p = cond (same_path q p) 1 0

abbrev pub times : Path → List Listed → ℕ
times p xs = sum_by (λ x. one x.path p) xs

pub times_first : (p : Path) (x : Listed) (xs : List Listed) → times p (x ∷ xs) ≡ one x.path p + times p xs
times_first p x xs = sum_by-cons (λ (x : Listed). one x.path p) x xs

pub times_own : (x : Listed) (xs : List Listed) → times x.path (x ∷ xs) ≡ 1 + times x.path xs
times_own x xs = times_first x.path x xs ∙ ap (λ n. n + times x.path xs) (cond-true _ _ _ (same_refl x.path))

pub times_shuffled : (p : Path) (xs ys : List Listed) → IsPermutation xs ys → times p ys ≡ times p xs
times_shuffled p xs ys moved = sum_by-IsPermutation (λ (x : Listed). one x.path p) xs ys moved

times_picked : (f : Look) (d : ℕ) (q : Path) (xs : List Listed) (p : Path) → times p (cons_option (pick f d q) xs) ≤ one q p + times p xs
times_picked f d q xs p = go (pick f d q) refl
  where
    go : (o : Option Listed) → pick f d q ≡ o → times p (cons_option o xs) ≤ one q p + times p xs
    go None h = omega arith
    go (Some x) h = omega (arith, times_first p x xs, ap (λ r. one r p) (pick_holds f d q x h).0)

-- a path that no pair has is not listed, and of pairs with distinct paths each is listed at most once
times_none : (f : Look) (d : ℕ) (ps : List (Path × Recipe)) (p : Path) → among (paths_of ps) p ≡ false → times p (picks f d ps) ≤ 0
times_none f d [] p a = omega arith
times_none f d (y ∷ ys) p a = grind (arith, nat_tests, times_picked f d y.0 (picks f d ys) p, times_none f d ys p)

pub times_once : (f : Look) (d : ℕ) (ps : List (Path × Recipe)) → distinct (paths_of ps) ≡ true → (p : Path) → times p (picks f d ps) ≤ 1
times_once f d [] a p = omega arith
times_once f d (y ∷ ys) a p = go (same_path y.0 p) refl (times_picked f d y.0 (picks f d ys) p) (times_once f d ys (and_parts _ _ a).1 p)
  where
    new : among (paths_of ys) y.0 ≡ false
    new = not-true _ (and_parts _ _ a).0

    go : (b : Bool) → same_path y.0 p ≡ b → times p (picks f d (y ∷ ys)) ≤ one y.0 p + times p (picks f d ys) → times p (picks f d ys) ≤ 1 → times p (picks f d (y ∷ ys)) ≤ 1
    go true q le ih =
        let once : one y.0 p ≡ 1 = cond-true _ _ _ q in
        omega (arith, times_none f d ys p (ap (among (paths_of ys)) (sym (same_is y.0 p q)) ∙ new))
    go false q le ih = let none : one y.0 p ≡ 0 = cond-false _ _ _ q in omega arith
