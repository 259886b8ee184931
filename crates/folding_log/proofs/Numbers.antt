-- What the places in the slots of a log say, and its pairs joined in order. Assumes nothing.
use Rattle.std.proofs.Common.{◌≡◌, ℕ, zero, suc, ◌<◌, true, false, List, [], ◌∷◌, ◌++◌, length, get_or, set, is_some, Some, None, Option, sym, refl, ap, ◌∙◌, append_assoc, le_of_suc-le-suc, not-suc-le-zero}
use Rattle.std.proofs.lemmas.Bool.{both_ways, and_parts, and_from, eqb-true, eq-eqb}
use Rattle.std.proofs.lemmas.List.{append-nil}
use Rattle.names.specs.declared.path.Path.{Path}
use Rattle.store.specs.Meaning.{paths_of, among, distinct, place_in, join_pairs}
use Rattle.store.proofs.Places.{among_is}
use Rattle.store.proofs.Pairs.{join_new}
use Rattle.folding_log.specs.declared.slot.LogSlot.{LogSlot}
use Rattle.folding_log.specs.Slots.{joined_to, with_path, is_place, placed}
use Rattle.folding_log.proofs.Arrivals.{place_with_path, distinct_apart}

place_is : (o : Option ℕ) (k : ℕ) → is_place o k ≡ true → o ≡ Some k
place_is None k h = absurd (both_ways false refl h)
place_is (Some m) k h = ap Some (eqb-true m k h)

is_its_place : (o : Option ℕ) (k : ℕ) → o ≡ Some k → is_place o k ≡ true
is_its_place o k e = ap (λ x. is_place x k) e ∙ eq-eqb k k refl

module _ {K : Type 0} where
  pub placed_at : (qs : List Path) (ss : List (LogSlot K)) (k : ℕ) (s : LogSlot K) → placed qs ss ≡ true → k < length ss → place_in qs (get_or ss k s).path ≡ Some (get_or ss k s).place
  placed_at qs [] k s h lt = absurd (not-suc-le-zero lt)
  placed_at qs (x ∷ xs) zero s h lt = place_is _ _ (and_parts _ _ h).0
  placed_at qs (x ∷ xs) (suc k) s h lt = placed_at qs xs k s (and_parts (is_place (place_in qs x.path) x.place) (placed qs xs) h).1 (le_of_suc-le-suc lt)

  pub placed_push : (qs : List Path) (ss : List (LogSlot K)) (s : LogSlot K) → placed qs ss ≡ true → place_in qs s.path ≡ Some s.place → placed qs (ss ++ s ∷ []) ≡ true
  placed_push qs [] s h e = and_from _ _ (is_its_place _ _ e) refl
  placed_push qs (x ∷ xs) s h e =
      let parts = and_parts (is_place (place_in qs x.path) x.place) (placed qs xs) h in
      and_from _ _ parts.0 (placed_push qs xs s parts.1 e)

  pub placed_set : (qs : List Path) (ss : List (LogSlot K)) (k : ℕ) (s : LogSlot K) → placed qs ss ≡ true → place_in qs s.path ≡ Some s.place → placed qs (set ss k s) ≡ true
  placed_set qs [] k s h e = h
  placed_set qs (x ∷ xs) zero s h e = and_from _ _ (is_its_place _ _ e) (and_parts (is_place (place_in qs x.path) x.place) (placed qs xs) h).1
  placed_set qs (x ∷ xs) (suc k) s h e =
      let parts = and_parts (is_place (place_in qs x.path) x.place) (placed qs xs) h in
      and_from _ _ parts.0 (placed_set qs xs k s parts.1 e)

  pub placed_with_path : (qs : List Path) (ss : List (LogSlot K)) (p : Path) → placed qs ss ≡ true → placed (with_path qs p) ss ≡ true
  placed_with_path qs [] p h = refl
  placed_with_path qs (x ∷ xs) p h =
      let parts = and_parts (is_place (place_in qs x.path) x.place) (placed qs xs) h in
      let at = place_is (place_in qs x.path) x.place parts.0 in
      let a : among qs x.path ≡ true = among_is qs x.path ∙ ap is_some at in
      and_from _ _ (is_its_place _ _ (place_with_path qs p x.path a ∙ at)) (placed_with_path qs xs p parts.1)

  pub joined_append : (join : K → K → K) (there xs ys : List (Path × K)) → joined_to join there (xs ++ ys) ≡ joined_to join (joined_to join there xs) ys
  joined_append join there [] ys = refl
  joined_append join there (x ∷ xs) ys = joined_append join (join_pairs join there x.0 x.1) xs ys

  pub paths_append : (xs ys : List (Path × K)) → paths_of (xs ++ ys) ≡ paths_of xs ++ paths_of ys
  paths_append [] ys = refl
  paths_append (x ∷ xs) ys = ap (λ qs. x.0 ∷ qs) (paths_append xs ys)

  -- pairs with no path twice are as they are
  pub joined_same : (join : K → K → K) (there ys : List (Path × K)) → distinct (paths_of (there ++ ys)) ≡ true → joined_to join there ys ≡ there ++ ys
  joined_same join there [] d = sym (append-nil there)
  joined_same join there (y ∷ ys) d =
      let a = distinct_apart (paths_of there) (paths_of ys) y.0 (sym (ap distinct (paths_append there (y ∷ ys))) ∙ d) in
      let e : join_pairs join there y.0 y.1 ≡ there ++ y ∷ [] = join_new join there y.0 y.1 a in
      let r : (there ++ y ∷ []) ++ ys ≡ there ++ y ∷ ys = append_assoc there (y ∷ []) ys in
      ap (λ xs. joined_to join xs ys) e ∙ joined_same join (there ++ y ∷ []) ys (ap (λ xs. distinct (paths_of xs)) r ∙ d) ∙ r
