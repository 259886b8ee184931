-- The laws of a store in plain words, over what it means. Assumes nothing.
use Rattle.std.specs.Prelude.{◌≡◌, ℕ, ◌<◌, ◌≤◌, true, false, cond, ◌↔◌, List, [], ◌∷◌, Some, None, Option}
use Rattle.std.specs.Option.{unwrap_or}
use Rattle.names.specs.declared.path.Path.{Path}
use Rattle.names.specs.Paths.{same_path, no_path}
use Rattle.store.specs.Meaning.{Meaning, Sound, count_of, place_of, path_at, entry_at, full_for, join_of}

-- the entry of the first pair with the path
abbrev pub entry_under : {K : Type 0} → List (Path × K) → Path → Option K
entry_under [] p = None
entry_under (x ∷ xs) p = cond (same_path x.0 p) (Some x.1) (entry_under xs p)

-- the entry that is held under a path
unfoldable pub entry_of : {K : Type 0} → Meaning K → Path → Option K
entry_of m p = entry_under m.pairs p

-- an entry joined to what was held before, if anything was
abbrev pub onto : {K : Type 0} → (K → K → K) → Option K → K → K
onto join None e = e
onto join (Some old) e = join old e

module _ {K : Type 0} (join : K → K → K) where
  -- a join is refused exactly for a new path when the count equals the places
  abbrev pub RefusedExactlyWhenFull : Type 0
  RefusedExactlyWhenFull = (m : Meaning K) (p : Path) → (full_for m p ≡ true) ↔ ((place_of m p ≡ None) × (count_of m ≡ m.places))

  -- a refused join changes nothing
  abbrev pub RefusedChangesNothing : Type 0
  RefusedChangesNothing = (m : Meaning K) (p : Path) (e : K) → full_for m p ≡ true → join_of join m p e ≡ m

  -- after an accepted join the path is found at the place it had, or at the end
  abbrev pub FoundAtItsPlace : Type 0
  FoundAtItsPlace = (m : Meaning K) (p : Path) (e : K) → full_for m p ≡ false → place_of (join_of join m p e) p ≡ Some (unwrap_or (place_of m p) (count_of m))

  -- and it holds old join new
  abbrev pub HoldsOldJoinNew : Type 0
  HoldsOldJoinNew = (m : Meaning K) (p : Path) (e : K) → full_for m p ≡ false → entry_of (join_of join m p e) p ≡ Some (onto join (entry_of m p) e)

  -- every other path keeps its place and its entry
  abbrev pub OthersStay : Type 0
  OthersStay =
      (m : Meaning K) (p : Path) (e : K) (q : Path) → same_path p q ≡ false
      → (place_of (join_of join m p e) q ≡ place_of m q) × (entry_of (join_of join m p e) q ≡ entry_of m q)

  -- the number of places never changes, and what was sound stays so
  abbrev pub PlacesStay : Type 0
  PlacesStay = (m : Meaning K) (p : Path) (e : K) → ((join_of join m p e).places ≡ m.places) × (Sound m → Sound (join_of join m p e))

  -- joining the same entry again changes nothing
  abbrev pub AgainChangesNothing : Type 0
  AgainChangesNothing = (m : Meaning K) (p : Path) (e : K) → join_of join (join_of join m p e) p e ≡ join_of join m p e

  -- the order of two joins at one path does not matter
  abbrev pub EitherOrder : Type 0
  EitherOrder = (m : Meaning K) (p : Path) (a b : K) → join_of join (join_of join m p a) p b ≡ join_of join (join_of join m p b) p a

module _ {K : Type 0} (blank : K) where
  -- at the place that find answers stand the path and its entry
  abbrev pub FoundIsHeld : Type 0
  FoundIsHeld = (m : Meaning K) (p : Path) (i : ℕ) → place_of m p ≡ Some i → (i < count_of m) × (path_at m i ≡ p) × (entry_of m p ≡ Some (entry_at blank m i))

  -- each held place is the one that find answers for its path
  abbrev pub HeldIsFound : Type 0
  HeldIsFound = (m : Meaning K) (i : ℕ) → Sound m → i < count_of m → place_of m (path_at m i) ≡ Some i

  -- a place not held has no path and the blank entry
  abbrev pub PastTheEnd : Type 0
  PastTheEnd = (m : Meaning K) (i : ℕ) → count_of m ≤ i → (path_at m i ≡ no_path) × (entry_at blank m i ≡ blank)
