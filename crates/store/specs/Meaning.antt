-- What a store means, its questions and its one change. Assumes nothing.
use Rattle.std.specs.Prelude.{◌≡◌, ℕ, suc, ◌≤◌, Bool, true, false, cond, not, ◌&&◌, ◌||◌, List, [], ◌∷◌, length, Some, None, Ok, Err, Option, Result, ◌==◌, slice_index_or}
use Rattle.std.specs.Option.{option_map}
use Rattle.names.specs.declared.path.Path.{Path}
use Rattle.names.specs.Paths.{same_path, no_path}

-- the pairs of a store in order of first arrival, and for how many pairs it has room in all
pub record Meaning (K : Type 0) : Type 0 where
  pub pairs : List (Path × K)
  pub places : ℕ

-- a store that holds nothing
unfoldable pub empty_store : {K : Type 0} → ℕ → Meaning K
empty_store n = record { pairs = []; places = n }

-- an empty store without places
abbrev pub no_store : {K : Type 0} → Meaning K
no_store = empty_store 0

-- the paths of pairs
abbrev pub paths_of : {K : Type 0} → List (Path × K) → List Path
paths_of [] = []
paths_of (x ∷ xs) = x.0 ∷ paths_of xs

-- the entries of pairs
abbrev pub entries_of : {K : Type 0} → List (Path × K) → List K
entries_of [] = []
entries_of (x ∷ xs) = x.1 ∷ entries_of xs

-- the path is one of them
abbrev pub among : List Path → Path → Bool
among [] p = false
among (q ∷ qs) p = same_path q p || among qs p

-- no path stands twice
abbrev pub distinct : List Path → Bool
distinct [] = true
distinct (q ∷ qs) = not (among qs q) && distinct qs

-- where a path stands first, counted from 0
abbrev pub place_in : List Path → Path → Option ℕ
place_in [] p = None
place_in (q ∷ qs) p = cond (same_path q p) (Some 0) (option_map suc (place_in qs p))

-- a held path gets old join new at its place, a new one goes to the end
abbrev pub join_pairs : {K : Type 0} → (K → K → K) → List (Path × K) → Path → K → List (Path × K)
join_pairs join [] p e = (p, e) ∷ []
join_pairs join (x ∷ xs) p e = cond (same_path x.0 p) ((x.0, join x.1 e) ∷ xs) (x ∷ join_pairs join xs p e)

-- the path at a place, and none where the list ends before it
abbrev pub path_in : {K : Type 0} → List (Path × K) → ℕ → Path
path_in ps i = slice_index_or (paths_of ps) i no_path

-- the entry at a place, and the blank one where the list ends before it
abbrev pub entry_in : {K : Type 0} → K → List (Path × K) → ℕ → K
entry_in blank ps i = slice_index_or (entries_of ps) i blank

-- how many pairs a store holds
unfoldable pub count_of : {K : Type 0} → Meaning K → ℕ
count_of m = length m.pairs

-- a store holds the path
unfoldable pub holds : {K : Type 0} → Meaning K → Path → Bool
holds m p = among (paths_of m.pairs) p

-- the place of a path in a store
unfoldable pub place_of : {K : Type 0} → Meaning K → Path → Option ℕ
place_of m p = place_in (paths_of m.pairs) p

-- the path at a place of a store
unfoldable pub path_at : {K : Type 0} → Meaning K → ℕ → Path
path_at m i = path_in m.pairs i

-- the entry at a place of a store, or the blank one
unfoldable pub entry_at : {K : Type 0} → K → Meaning K → ℕ → K
entry_at blank m i = entry_in blank m.pairs i

-- the path is new and every place is held
unfoldable pub full_for : {K : Type 0} → Meaning K → Path → Bool
full_for m p = not (holds m p) && count_of m == m.places

-- the answer of a join: refused with ground 16 where the store is full for the path
abbrev pub join_answer : {K : Type 0} → Meaning K → Path → Result (Unit {0}) ℕ
join_answer m p = cond (full_for m p) (Err 16) (Ok tt)

-- the store after a join; a refused one changes nothing
unfoldable pub join_of : {K : Type 0} → (K → K → K) → Meaning K → Path → K → Meaning K
join_of join m p e = cond (full_for m p) m (record { pairs = join_pairs join m.pairs p e; places = m.places })

-- what holds of every store: no path twice, and no more pairs than places
pub record Sound {K : Type 0} (m : Meaning K) : Type 0 where
  pub apart : distinct (paths_of m.pairs) ≡ true
  pub within : length m.pairs ≤ m.places

-- the same of each store of a list
abbrev pub AllSound : {K : Type 0} → List (Meaning K) → Type 0
AllSound [] = Unit {0}
AllSound (m ∷ ms) = Sound m × AllSound ms
