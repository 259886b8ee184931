-- The laws of a store, from what its definitions say. Assumes nothing.
use Rattle.std.proofs.Common.{◌≡◌, ℕ, suc, ◌+◌, ◌≤◌, Bool, true, false, cond, not, ◌&&◌, eqb, List, [], ◌∷◌, ◌++◌, length, is_some, Some, None, Option, unwrap_or, sym, refl, ap, ◌∙◌, arith}
use Rattle.std.proofs.lemmas.Bool.{cond-true, cond-false, both_ways, and_parts, and_from, not-true, eqb-true, eqb-false, eq-eqb}
use Rattle.std.proofs.lemmas.List.{length_push}
use Rattle.std.specs.Option.{option_map}
use Rattle.names.specs.declared.path.Path.{Path}
use Rattle.names.specs.Paths.{same_path}
use Rattle.names.specs.Same.{same_is, same_refl}
use Rattle.store.specs.Meaning.{Meaning, Sound, paths_of, entry_in, among, place_in, join_pairs, count_of, holds, place_of, path_at, entry_at, full_for, join_of}
use Rattle.store.specs.Laws.{entry_under, entry_of, onto, RefusedExactlyWhenFull, RefusedChangesNothing, FoundAtItsPlace, HoldsOldJoinNew, OthersStay, PlacesStay, AgainChangesNothing, EitherOrder, FoundIsHeld, HeldIsFound, PastTheEnd}
use Rattle.store.specs.Joins.{join_paths, join_distinct, length_paths}
use Rattle.store.proofs.Places.{none_is, among_is, place_stands, place_push, place_push_other, place_own}
use Rattle.store.proofs.Pairs.{path_past, entry_past, join_new, join_taken, join_refused}

module _ {K : Type 0} (join : K → K → K) where
  place_joined : (ps : List (Path × K)) (p : Path) (e : K) → place_in (paths_of (join_pairs join ps p e)) p ≡ Some (unwrap_or (place_in (paths_of ps) p) (length ps))
  place_joined ps p e = ap (λ qs. place_in qs p) (join_paths join ps p e) ∙ go (place_in (paths_of ps) p) refl (among (paths_of ps) p) refl
    where
      go : (o : Option ℕ) → place_in (paths_of ps) p ≡ o → (a : Bool) → among (paths_of ps) p ≡ a → place_in (cond a (paths_of ps) (paths_of ps ++ p ∷ [])) p ≡ Some (unwrap_or o (length ps))
      go None f true h = absurd (both_ways true (sym h ∙ among_is (paths_of ps) p ∙ ap is_some f) refl)
      go (Some k) f true h = f
      go None f false h = place_push (paths_of ps) p h ∙ ap Some (length_paths ps)
      go (Some k) f false h = absurd (both_ways false refl (sym h ∙ among_is (paths_of ps) p ∙ ap is_some f))

  place_joined_other : (ps : List (Path × K)) (p : Path) (e : K) (q : Path) → same_path p q ≡ false → place_in (paths_of (join_pairs join ps p e)) q ≡ place_in (paths_of ps) q
  place_joined_other ps p e q h = ap (λ qs. place_in qs q) (join_paths join ps p e) ∙ go (among (paths_of ps) p)
    where
      go : (a : Bool) → place_in (cond a (paths_of ps) (paths_of ps ++ p ∷ [])) q ≡ place_in (paths_of ps) q
      go true = refl
      go false = place_push_other (paths_of ps) p q h

  entry_joined : (ps : List (Path × K)) (p : Path) (e : K) → entry_under (join_pairs join ps p e) p ≡ Some (onto join (entry_under ps p) e)
  entry_joined [] p e = cond-true _ _ _ (same_refl p)
  entry_joined (x ∷ xs) p e = go (same_path x.0 p) refl (entry_joined xs p e)
    where
      go : (b : Bool) → same_path x.0 p ≡ b → entry_under (join_pairs join xs p e) p ≡ Some (onto join (entry_under xs p) e) → entry_under (cond b ((x.0, join x.1 e) ∷ xs) (x ∷ join_pairs join xs p e)) p ≡ Some (onto join (cond b (Some x.1) (entry_under xs p)) e)
      go true h ih = cond-true _ _ _ h
      go false h ih = cond-false _ _ _ h ∙ ih

  entry_joined_other : (ps : List (Path × K)) (p : Path) (e : K) (q : Path) → same_path p q ≡ false → entry_under (join_pairs join ps p e) q ≡ entry_under ps q
  entry_joined_other [] p e q h = cond-false _ _ _ h
  entry_joined_other (x ∷ xs) p e q h = go (same_path x.0 p) refl (entry_joined_other xs p e q h)
    where
      go : (b : Bool) → same_path x.0 p ≡ b → entry_under (join_pairs join xs p e) q ≡ entry_under xs q → entry_under (cond b ((x.0, join x.1 e) ∷ xs) (x ∷ join_pairs join xs p e)) q ≡ cond (same_path x.0 q) (Some x.1) (entry_under xs q)
      go true f ih = let n : same_path x.0 q ≡ false = ap (λ r. same_path r q) (same_is x.0 p f) ∙ h in cond-false _ _ _ n ∙ sym (cond-false _ _ _ n)
      go false f ih = ap (cond (same_path x.0 q) (Some x.1)) ih

  -- a second join at a path, where the entries' joins agree
  join_pairs_twice : (ps : List (Path × K)) (p : Path) (a b c d : K) → join a b ≡ join c d → ((x : K) → join (join x a) b ≡ join (join x c) d) → join_pairs join (join_pairs join ps p a) p b ≡ join_pairs join (join_pairs join ps p c) p d
  join_pairs_twice [] p a b c d new old = cond-true _ _ _ (same_refl p) ∙ ap (λ v. (p, v) ∷ []) new ∙ sym (cond-true _ _ _ (same_refl p))
  join_pairs_twice (x ∷ xs) p a b c d new old = go (same_path x.0 p) refl (join_pairs_twice xs p a b c d new old)
    where
      go : (t : Bool) → same_path x.0 p ≡ t → join_pairs join (join_pairs join xs p a) p b ≡ join_pairs join (join_pairs join xs p c) p d → join_pairs join (cond t ((x.0, join x.1 a) ∷ xs) (x ∷ join_pairs join xs p a)) p b ≡ join_pairs join (cond t ((x.0, join x.1 c) ∷ xs) (x ∷ join_pairs join xs p c)) p d
      go true h ih = cond-true _ _ _ h ∙ ap (λ v. (x.0, v) ∷ xs) (old x.1) ∙ sym (cond-true _ _ _ h)
      go false h ih = cond-false _ _ _ h ∙ ap (λ zs. x ∷ zs) ih ∙ sym (cond-false _ _ _ h)

  join_pairs_again : (idem : (a : K) → join a a ≡ a) → ((a b c : K) → join (join a b) c ≡ join a (join b c)) → (ps : List (Path × K)) (p : Path) (e : K) → join_pairs join (join_pairs join ps p e) p e ≡ join_pairs join ps p e
  join_pairs_again idem assoc [] p e = cond-true _ _ _ (same_refl p) ∙ ap (λ v. (p, v) ∷ []) (idem e)
  join_pairs_again idem assoc (x ∷ xs) p e = go (same_path x.0 p) refl (join_pairs_again idem assoc xs p e)
    where
      go : (t : Bool) → same_path x.0 p ≡ t → join_pairs join (join_pairs join xs p e) p e ≡ join_pairs join xs p e → join_pairs join (cond t ((x.0, join x.1 e) ∷ xs) (x ∷ join_pairs join xs p e)) p e ≡ cond t ((x.0, join x.1 e) ∷ xs) (x ∷ join_pairs join xs p e)
      go true h ih = cond-true _ _ _ h ∙ ap (λ v. (x.0, v) ∷ xs) (assoc x.1 e e ∙ ap (join x.1) (idem e))
      go false h ih = cond-false _ _ _ h ∙ ap (λ zs. x ∷ zs) ih

  -- a join at a held path adds no pair
  held_length : (ps : List (Path × K)) (p : Path) (e : K) → among (paths_of ps) p ≡ true → length (join_pairs join ps p e) ≡ length ps
  held_length ps p e h = sym (length_paths (join_pairs join ps p e)) ∙ ap length (join_paths join ps p e ∙ cond-true _ _ _ h) ∙ length_paths ps

  -- after a join that is taken the path is held, so the store is not full for it
  joined_not_full : (m : Meaning K) (p : Path) (e : K) → full_for (record { pairs = join_pairs join m.pairs p e; places = m.places }) p ≡ false
  unfolding full_for holds
  joined_not_full m p e =
      let a : among (paths_of (join_pairs join m.pairs p e)) p ≡ true = among_is _ p ∙ ap is_some (place_joined m.pairs p e) in
      ap (λ b. not b && eqb (count_of (record { pairs = join_pairs join m.pairs p e; places = m.places })) m.places) a

  -- two joins at one path that are both taken
  join_twice : (m : Meaning K) (p : Path) (a b : K) → full_for m p ≡ false → join_of join (join_of join m p a) p b ≡ record { pairs = join_pairs join (join_pairs join m.pairs p a) p b; places = m.places }
  join_twice m p a b h =
      join_taken join (join_of join m p a) p b (ap (λ x. full_for x p) (join_taken join m p a h) ∙ joined_not_full m p a) ∙ ap (λ (x : Meaning K). record { pairs = join_pairs join x.pairs p b; places = x.places }) (join_taken join m p a h)

  pub refused_exactly_when_full : RefusedExactlyWhenFull join
  unfolding full_for holds place_of count_of
  refused_exactly_when_full m p = (
    λ h. let t = and_parts _ _ h in (none_is _ (sym (among_is (paths_of m.pairs) p) ∙ not-true _ t.0), eqb-true _ _ t.1),
    λ h. and_from _ _ (ap not (among_is (paths_of m.pairs) p ∙ ap is_some h.0)) (eq-eqb _ _ h.1),
  )

  pub refused_changes_nothing : RefusedChangesNothing join
  refused_changes_nothing = join_refused join

  pub found_at_its_place : FoundAtItsPlace join
  unfolding place_of count_of
  found_at_its_place m p e h = ap (λ (x : Meaning K). place_in (paths_of x.pairs) p) (join_taken join m p e h) ∙ place_joined m.pairs p e

  pub holds_old_join_new : HoldsOldJoinNew join
  unfolding entry_of
  holds_old_join_new m p e h = ap (λ (x : Meaning K). entry_under x.pairs p) (join_taken join m p e h) ∙ entry_joined m.pairs p e

  pub others_stay : OthersStay join
  unfolding place_of entry_of join_of
  others_stay m p e q h = go (full_for m p)
    where
      go : (t : Bool) → (place_in (paths_of (cond t m (record { pairs = join_pairs join m.pairs p e; places = m.places })).pairs) q ≡ place_in (paths_of m.pairs) q) × (entry_under (cond t m (record { pairs = join_pairs join m.pairs p e; places = m.places })).pairs q ≡ entry_under m.pairs q)
      go true = (refl, refl)
      go false = (place_joined_other m.pairs p e q h, entry_joined_other m.pairs p e q h)

  pub places_stay : PlacesStay join
  unfolding join_of full_for holds count_of
  places_stay m p e = go (full_for m p) refl
    where
      go : (t : Bool) → full_for m p ≡ t → ((cond t m (record { pairs = join_pairs join m.pairs p e; places = m.places })).places ≡ m.places) × (Sound m → Sound (cond t m (record { pairs = join_pairs join m.pairs p e; places = m.places })))
      go true h = (refl, λ s. s)
      go false h = (refl, λ s. record { apart = join_distinct join m.pairs p e s.apart; within = room s (among (paths_of m.pairs) p) refl })
        where
          room : Sound m → (a : Bool) → among (paths_of m.pairs) p ≡ a → length (join_pairs join m.pairs p e) ≤ m.places
          room s true f = let n : length (join_pairs join m.pairs p e) ≡ length m.pairs = held_length m.pairs p e f in omega (arith, s.within)
          room s false f =
              let n : length (join_pairs join m.pairs p e) ≡ length m.pairs + 1 = ap length (join_new join m.pairs p e f) ∙ length_push m.pairs (p, e) in
              let ne = eqb-false _ _ (sym (ap (λ b. not b && eqb (length m.pairs) m.places) f) ∙ h) in
              omega (arith, s.within, n)

  pub again_changes_nothing : ((a : K) → join a a ≡ a) → ((a b c : K) → join (join a b) c ≡ join a (join b c)) → AgainChangesNothing join
  again_changes_nothing idem assoc m p e = go (full_for m p) refl
    where
      go : (t : Bool) → full_for m p ≡ t → join_of join (join_of join m p e) p e ≡ join_of join m p e
      go true h = ap (λ x. join_of join x p e) (join_refused join m p e h)
      go false h = join_twice m p e e h ∙ ap (λ ps. record { pairs = ps; places = m.places }) (join_pairs_again idem assoc m.pairs p e) ∙ sym (join_taken join m p e h)

  pub either_order : ((a b : K) → join a b ≡ join b a) → ((a b c : K) → join (join a b) c ≡ join a (join b c)) → EitherOrder join
  either_order comm assoc m p a b = go (full_for m p) refl
    where
      go : (t : Bool) → full_for m p ≡ t → join_of join (join_of join m p a) p b ≡ join_of join (join_of join m p b) p a
      go true h =
          ap (λ x. join_of join x p b) (join_refused join m p a h) ∙ join_refused join m p b h
          ∙ sym (ap (λ x. join_of join x p a) (join_refused join m p b h) ∙ join_refused join m p a h)
      go false h =
          join_twice m p a b h
          ∙ ap (λ ps. record { pairs = ps; places = m.places }) (join_pairs_twice m.pairs p a b b a (comm a b) (λ x. assoc x a b ∙ ap (join x) (comm a b) ∙ sym (assoc x b a)))
          ∙ sym (join_twice m p b a h)

module _ {K : Type 0} (blank : K) where
  -- the entry under a path is the one at its place
  entry_found : (ps : List (Path × K)) (p : Path) (i : ℕ) → place_in (paths_of ps) p ≡ Some i → entry_under ps p ≡ Some (entry_in blank ps i)
  entry_found [] p i f = absurd (both_ways false refl (ap is_some f))
  entry_found (x ∷ xs) p i f = go (same_path x.0 p) (place_in (paths_of xs) p) refl i f (entry_found xs p)
    where
      go : (b : Bool) (o : Option ℕ) → place_in (paths_of xs) p ≡ o → (i : ℕ) → cond b (Some 0) (option_map suc o) ≡ Some i → ((k : ℕ) → place_in (paths_of xs) p ≡ Some k → entry_under xs p ≡ Some (entry_in blank xs k)) → cond b (Some x.1) (entry_under xs p) ≡ Some (entry_in blank (x ∷ xs) i)
      go true o h i f ih = let z : 0 ≡ i = cc in ap (λ n. Some (entry_in blank (x ∷ xs) n)) z
      go false None h i f ih = absurd (both_ways false refl (ap is_some f))
      go false (Some k) h i f ih = let z : suc k ≡ i = cc in ih k h ∙ ap (λ n. Some (entry_in blank (x ∷ xs) n)) z

  pub found_is_held : FoundIsHeld blank
  unfolding place_of count_of path_at entry_at entry_of
  found_is_held m p i f =
      let s = place_stands (paths_of m.pairs) p i f in
      (omega (arith, s.low, length_paths m.pairs), same_is _ p s.here, entry_found m.pairs p i f)

  pub held_is_found : HeldIsFound blank
  unfolding place_of count_of path_at
  held_is_found m i s lt = place_own (paths_of m.pairs) i s.apart (omega (arith, length_paths m.pairs))

  pub past_the_end : PastTheEnd blank
  unfolding count_of path_at entry_at
  past_the_end m i le = (path_past m.pairs i le, entry_past blank m.pairs i le)
