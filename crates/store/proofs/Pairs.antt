-- What stands at a place of a list of pairs, and what a join does to the list. Assumes nothing.
use Rattle.std.proofs.Common.{◌≡◌, ℕ, zero, suc, ◌<◌, ◌≤◌, Bool, true, false, cond, not, ◌&&◌, eqb, List, [], ◌∷◌, ◌++◌, length, get_or, set, is_some, Some, None, Option, sym, refl, ap, ◌∙◌, subst, le_of_suc-le-suc, not-suc-le-zero, arith}
use Rattle.std.proofs.lemmas.Bool.{cond-true, cond-false, both_ways, or_parts}
use Rattle.std.proofs.lemmas.List.{get_or_past}
use Rattle.std.specs.Option.{option_map}
use Rattle.names.specs.declared.path.Path.{Path}
use Rattle.names.specs.Paths.{same_path, no_path}
use Rattle.store.specs.Joins.{length_paths}
use Rattle.store.specs.Meaning.{Meaning, paths_of, entries_of, path_in, entry_in, among, place_in, count_of, holds, place_of, full_for, join_pairs, join_of}
use Rattle.store.proofs.Places.{among_is}

module _ {K : Type 0} where
  pub length_entries : (ps : List (Path × K)) → length (entries_of ps) ≡ length ps
  length_entries [] = refl
  length_entries (x ∷ xs) = ap suc (length_entries xs)

  pub path_here : (ps : List (Path × K)) (i : ℕ) (x : Path × K) → i < length ps → path_in ps i ≡ (get_or ps i x).0
  path_here [] i x lt = absurd (not-suc-le-zero lt)
  path_here (y ∷ ys) zero x lt = refl
  path_here (y ∷ ys) (suc i) x lt = path_here ys i x (le_of_suc-le-suc lt)

  pub entry_here : (b : K) (ps : List (Path × K)) (i : ℕ) (x : Path × K) → i < length ps → entry_in b ps i ≡ (get_or ps i x).1
  entry_here b [] i x lt = absurd (not-suc-le-zero lt)
  entry_here b (y ∷ ys) zero x lt = refl
  entry_here b (y ∷ ys) (suc i) x lt = entry_here b ys i x (le_of_suc-le-suc lt)

  pub path_past : (ps : List (Path × K)) (i : ℕ) → length ps ≤ i → path_in ps i ≡ no_path
  path_past ps i le = get_or_past (paths_of ps) i no_path (omega (arith, length_paths ps))

  pub entry_past : (b : K) (ps : List (Path × K)) (i : ℕ) → length ps ≤ i → entry_in b ps i ≡ b
  entry_past b ps i le = get_or_past (entries_of ps) i b (omega (arith, length_entries ps))

  -- what the join of a held path, and of a new one, leaves
  pub join_held : (join : K → K → K) (ps : List (Path × K)) (p : Path) (e : K) (k : ℕ) (x : Path × K) → place_in (paths_of ps) p ≡ Some k → join_pairs join ps p e ≡ set ps k ((get_or ps k x).0, join (get_or ps k x).1 e)
  join_held join [] p e k x f = absurd (both_ways false refl (ap is_some f))
  join_held join (y ∷ ys) p e k x f = go (join_held join ys p e) (same_path y.0 p) refl (place_in (paths_of ys) p) refl k f
    where
      go : ((m : ℕ) (x : Path × K) → place_in (paths_of ys) p ≡ Some m → join_pairs join ys p e ≡ set ys m ((get_or ys m x).0, join (get_or ys m x).1 e)) → (b : Bool) → same_path y.0 p ≡ b → (o : Option ℕ) → place_in (paths_of ys) p ≡ o → (k : ℕ) → cond b (Some 0) (option_map suc o) ≡ Some k → cond b ((y.0, join y.1 e) ∷ ys) (y ∷ join_pairs join ys p e) ≡ set (y ∷ ys) k ((get_or (y ∷ ys) k x).0, join (get_or (y ∷ ys) k x).1 e)
      go ih true h o g k f = let z : 0 ≡ k = cc in subst (λ n. ◌≡◌ {A = List (Path × K)} ((y.0, join y.1 e) ∷ ys) (set (y ∷ ys) n ((get_or (y ∷ ys) n x).0, join (get_or (y ∷ ys) n x).1 e))) z refl
      go ih false h None g k f = absurd (both_ways false refl (ap is_some f))
      go ih false h (Some m) g k f =
          let z : suc m ≡ k = cc in
          subst (λ n. ◌≡◌ {A = List (Path × K)} (y ∷ join_pairs join ys p e) (set (y ∷ ys) n ((get_or (y ∷ ys) n x).0, join (get_or (y ∷ ys) n x).1 e))) z (ap (λ zs. y ∷ zs) (ih m x g))

  pub join_new : (join : K → K → K) (ps : List (Path × K)) (p : Path) (e : K) → among (paths_of ps) p ≡ false → join_pairs join ps p e ≡ ps ++ (p, e) ∷ []
  join_new join [] p e a = refl
  join_new join (y ∷ ys) p e a =
      let apart = or_parts (same_path y.0 p) (among (paths_of ys) p) a in
      cond-false _ _ _ apart.0 ∙ ap (λ zs. y ∷ zs) (join_new join ys p e apart.1)

  pub held_among : (ps : List (Path × K)) (p : Path) (k : ℕ) → Some k ≡ place_in (paths_of ps) p → among (paths_of ps) p ≡ true
  held_among ps p k e = among_is (paths_of ps) p ∙ ap is_some (sym e)

  pub new_among : (ps : List (Path × K)) (p : Path) → None ≡ place_in (paths_of ps) p → among (paths_of ps) p ≡ false
  new_among ps p e = among_is (paths_of ps) p ∙ ap is_some (sym e)

-- a store is never full for a path that it holds, and for a new one where every place is held
module _ {K : Type 0} (m : Meaning K) (p : Path) where
  pub held_not_full : (k : ℕ) → Some k ≡ place_of m p → full_for m p ≡ false
  unfolding full_for holds place_of
  held_not_full k e = ap (λ b. not b && eqb (count_of m) m.places) (held_among m.pairs p k e)

  pub new_full : None ≡ place_of m p → full_for m p ≡ eqb (count_of m) m.places
  unfolding full_for holds place_of
  new_full e = ap (λ b. not b && eqb (count_of m) m.places) (new_among m.pairs p e)

-- the store after a join that is taken, and after one that is refused
module _ {K : Type 0} (join : K → K → K) (m : Meaning K) (p : Path) (e : K) where
  pub join_taken : full_for m p ≡ false → join_of join m p e ≡ record { pairs = join_pairs join m.pairs p e; places = m.places }
  unfolding join_of
  join_taken h = cond-false _ _ _ h

  pub join_refused : full_for m p ≡ true → join_of join m p e ≡ m
  unfolding join_of
  join_refused h = cond-true _ _ _ h
