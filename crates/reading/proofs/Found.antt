-- What a store holds under a path, by the place that it answers for the path. Assumes nothing.
use Rattle.std.proofs.Common.{◌≡◌, ℕ, ◌<◌, Bool, true, false, cond, ◌||◌, List, [], ◌∷◌, length, map, get_or, is_some, Some, None, Option, sym, refl, ap, ◌∙◌, subst}
use Rattle.std.specs.List.{AllByRecursion, range_with_len}
use Rattle.std.proofs.lemmas.Bool.{both_ways}
use Rattle.std.proofs.lemmas.List.FromFn.{fill_by_all}
use Rattle.std.proofs.lemmas.Option.{same_Some}
use Rattle.names.specs.declared.path.Path.{Path}
use Rattle.names.specs.Paths.{same_path, no_path}
use Rattle.names.specs.Same.{same_is}
use Rattle.store.specs.Meaning.{Meaning, paths_of, path_in, entry_in, among, count_of, place_of, path_at, entry_at}
use Rattle.store.specs.Laws.{entry_under, entry_of}
use Rattle.store.proofs.Kept.{found_is_held}
use Rattle.store.proofs.Pairs.{path_here, entry_here}
use Rattle.store.proofs.Places.{among_is}

-- an option that nothing is the value of is none
pub none_when : {X : Type 0} (o : Option X) → ((x : X) → o ≡ Some x → ⊥) → o ≡ None
none_when None h = refl
none_when (Some x) h = absurd (h x refl)

module _ {K : Type 0} where
  -- the pairs of a store are those at its places
  pub pairs_at_places : (blank : K) (m : Meaning K) → m.pairs ≡ map (λ i. (path_at m i, entry_at blank m i)) (range_with_len 0 (count_of m))
  unfolding count_of path_at entry_at
  pairs_at_places blank m = fill_by_all _ m.pairs (length m.pairs) (no_path, blank) refl here
    where
      here : (i : ℕ) → i < length m.pairs → get_or m.pairs i (no_path, blank) ≡ (path_in m.pairs i, entry_in blank m.pairs i)
      here i lt =
          let p = path_here m.pairs i (no_path, blank) lt in
          let e = entry_here blank m.pairs i (no_path, blank) lt in
          λ j. (sym p j, sym e j)

  -- a path has an entry exactly where it is among the paths
  pub entry_among : (ps : List (Path × K)) (p : Path) → is_some (entry_under ps p) ≡ among (paths_of ps) p
  entry_among [] p = refl
  entry_among (x ∷ xs) p = go (same_path x.0 p) (entry_among xs p)
    where
      go : (b : Bool) → is_some (entry_under xs p) ≡ among (paths_of xs) p → is_some (cond b (Some x.1) (entry_under xs p)) ≡ (b || among (paths_of xs) p)
      go true ih = refl
      go false ih = ih

  -- what find answers: no place, and the place of the entry
  pub not_found : (m : Meaning K) (p : Path) → None ≡ place_of m p → entry_of m p ≡ None
  unfolding entry_of place_of
  not_found m p h =
      none_when (entry_under m.pairs p)
      (λ e q. both_ways false refl (ap is_some h ∙ sym (among_is (paths_of m.pairs) p) ∙ sym (entry_among m.pairs p) ∙ ap is_some q))

  pub found : (blank : K) (m : Meaning K) (p : Path) (i : ℕ) (e : K) → Some i ≡ place_of m p → e ≡ entry_at blank m i → entry_of m p ≡ Some e
  found blank m p i e h q = (found_is_held blank m p i (sym h)).2 ∙ ap Some (sym q)

  -- what holds of all pairs holds of a path and its entry
  pub entry_all : (P : Path × K → Type 0) (ps : List (Path × K)) → AllByRecursion P ps → (p : Path) (e : K) → entry_under ps p ≡ Some e → P (p, e)
  entry_all P [] a p e h = cc
  entry_all P (x ∷ xs) a p e h = go (same_path x.0 p) refl h (entry_all P xs a.1 p e)
    where
      go : (b : Bool) → same_path x.0 p ≡ b → cond b (Some x.1) (entry_under xs p) ≡ Some e → (entry_under xs p ≡ Some e → P (p, e)) → P (p, e)
      go true q h ih = let s = same_is x.0 p q in let t = same_Some _ _ h in let is : ◌≡◌ {A = Path × K} x (p, e) = λ i. (s i, t i) in subst P is a.0
      go false q h ih = ih h
