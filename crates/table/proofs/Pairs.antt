-- What the slots of a table say of its pairs, and what a write does to them. Assumes nothing.
use Rattle.std.proofs.Common.{◌≡◌, ℕ, zero, suc, ◌+◌, ◌<◌, ◌≤◌, Bool, true, false, cond, not, eqb, ltb, List, [], ◌∷◌, ◌++◌, map, length, get_or, set, Some, None, sym, refl, ap, ◌∙◌, subst, arith}
use Rattle.std.proofs.lemmas.Bool.{cond-true, lt-ltb}
use Rattle.std.proofs.lemmas.Bool.Decides.{nat_tests}
use Rattle.std.proofs.lemmas.List.{get_or-map, map_push, map-set, length-map}
use Rattle.std.specs.List.{position, position_or_len, slice_get}
use Rattle.std.specs.Option.{option_map, option_map_or}
use Rattle.names.specs.declared.path.Path.{Path}
use Rattle.names.specs.Paths.{same_path, no_path}
use Rattle.lent.specs.Held.{Held}
use Rattle.store.specs.Joins.{length_paths}
use Rattle.store.specs.Meaning.{Meaning, Sound, paths_of, path_in, entry_in, place_in, count_of, place_of, full_for, join_of}
use Rattle.store.proofs.Kept.{places_stay}
use Rattle.store.proofs.Places.{place_stands}
use Rattle.store.proofs.Pairs.{join_held, join_new, new_among, held_not_full, new_full, join_taken, join_refused}
use Rattle.table.specs.declared.slot.TableSlot.{TableSlot}
use Rattle.table.specs.Slots.{pair_of, slots_meaning}

module _ {K : Type 0} where
  pub place_is : (ss : List (TableSlot K)) (p : Path) → position (λ s. same_path s.path p) ss ≡ place_in (paths_of (map pair_of ss)) p
  place_is [] p = refl
  place_is (s ∷ ss) p = go (same_path s.path p) ∙ ap (λ o. cond (same_path s.path p) (Some 0) (option_map suc o)) (place_is ss p)
    where
      first : ℕ
      first = position_or_len (λ s. same_path s.path p) ss

      go : (b : Bool) → cond (ltb (cond (not b) (1 + first) 0) (suc (length ss))) (Some (cond (not b) (1 + first) 0)) None ≡ cond b (Some 0) (option_map suc (cond (ltb first (length ss)) (Some first) None))
      go true = cond-true _ _ _ (lt-ltb 0 (suc (length ss)) (omega arith))
      go false = ap (λ b. cond b (Some (1 + first)) None) (next first (length ss)) ∙ on (ltb first (length ss))
        where
          next : (m n : ℕ) → ltb (1 + m) (suc n) ≡ ltb m n
          next m n = grind (arith, nat_tests)

          on : (b : Bool) → cond b (Some (1 + first)) None ≡ option_map suc (cond b (Some first) None)
          on true = let e : 1 + first ≡ suc first = omega arith in ap Some e
          on false = refl

  pub path_is : (ss : List (TableSlot K)) (i : ℕ) → option_map_or (λ (s : TableSlot K). s.path) (slice_get ss i) no_path ≡ path_in (map pair_of ss) i
  path_is [] i = refl
  path_is (s ∷ ss) zero = refl
  path_is (s ∷ ss) (suc i) = path_is ss i

  pub entry_is : (b : K) (ss : List (TableSlot K)) (i : ℕ) → option_map_or (λ (s : TableSlot K). s.entry) (slice_get ss i) b ≡ entry_in b (map pair_of ss) i
  entry_is b [] i = refl
  entry_is b (s ∷ ss) zero = refl
  entry_is b (s ∷ ss) (suc i) = entry_is b ss i

  pub path_here : (ss : List (TableSlot K)) (i : ℕ) (p : Path) → p ≡ option_map_or (λ (s : TableSlot K). s.path) (slice_get ss i) no_path → p ≡ path_in (map pair_of ss) i
  path_here ss i p e = e ∙ path_is ss i

  pub entry_here : (b : K) (ss : List (TableSlot K)) (i : ℕ) (e : K) → e ≡ option_map_or (λ (s : TableSlot K). s.entry) (slice_get ss i) b → e ≡ entry_in b (map pair_of ss) i
  entry_here b ss i e h = h ∙ entry_is b ss i

  pub found_low : (ss : List (TableSlot K)) (p : Path) (k : ℕ) → place_in (paths_of (map pair_of ss)) p ≡ Some k → k < length ss
  found_low ss p k e = omega (arith, (place_stands _ p k e).low, length_paths (map pair_of ss), length-map ss (pair_of {K = K}))

  -- a table is full for a new path exactly when no slot is free
  pub full_is : (h : Held (TableSlot K)) (p : Path) → Sound (slots_meaning h) → None ≡ place_of (slots_meaning h) p → full_for (slots_meaning h) p ≡ not (ltb (length h.items) h.places)
  unfolding count_of
  full_is h p s f = new_full (slots_meaning h) p f ∙ tests (length (map pair_of h.items)) h.places s.within ∙ ap (λ n. not (ltb n h.places)) (length-map h.items pair_of)
    where
      tests : (n k : ℕ) → n ≤ k → eqb n k ≡ not (ltb n k)
      tests n k le = grind (arith, nat_tests)

  module _ (join : K → K → K) (h : Held (TableSlot K)) (p : Path) (e : K) where
    -- a held path's slot with old join new
    pub joined_at : (k : ℕ) (s new : TableSlot K) → Some k ≡ place_of (slots_meaning h) p → s ≡ get_or h.items k s → new.path ≡ s.path → new.entry ≡ join s.entry e → slots_meaning (record { items = set h.items k new; places = h.places }) ≡ join_of join (slots_meaning h) p e
    unfolding place_of
    joined_at k s new f read path entry =
        let ps = map pair_of h.items in
        let old : get_or ps k (pair_of s) ≡ pair_of s = get_or-map pair_of h.items k s (pair_of s) (found_low h.items p k (sym f)) ∙ ap pair_of (sym read) in
        let is : ◌≡◌ {A = Path × K} (pair_of new) ((get_or ps k (pair_of s)).0, join (get_or ps k (pair_of s)).1 e) = cc in
        ap (λ (xs : List (Path × K)). record { pairs = xs; places = h.places }) (map-set pair_of h.items k new ∙ ap (set ps k) is ∙ sym (join_held join ps p e k (pair_of s) (sym f)))
        ∙ sym (join_taken join (slots_meaning h) p e (held_not_full (slots_meaning h) p k f))

    -- a new path's pair at the end, or nothing where no slot is free
    pub pushed_on : Sound (slots_meaning h) → None ≡ place_of (slots_meaning h) p → slots_meaning (cond (ltb (length h.items) h.places) (record { items = h.items ++ record { path = p; entry = e } ∷ []; places = h.places }) h) ≡ join_of join (slots_meaning h) p e
    unfolding place_of
    pushed_on s f = go (ltb (length h.items) h.places) (full_is h p s f)
      where
        go : (b : Bool) → full_for (slots_meaning h) p ≡ not b → slots_meaning (cond b (record { items = h.items ++ record { path = p; entry = e } ∷ []; places = h.places }) h) ≡ join_of join (slots_meaning h) p e
        go true free =
            ap (λ (xs : List (Path × K)). record { pairs = xs; places = h.places }) (map_push pair_of h.items (record { path = p; entry = e }) ∙ sym (join_new join (map pair_of h.items) p e (new_among _ p f)))
            ∙ sym (join_taken join (slots_meaning h) p e free)
        go false full = sym (join_refused join (slots_meaning h) p e full)

    -- what a join leaves is sound again
    pub still_sound : (m : Meaning K) → Sound (slots_meaning h) → m ≡ join_of join (slots_meaning h) p e → Sound m
    still_sound m s after = subst Sound (sym after) ((places_stay join (slots_meaning h) p e).1 s)
