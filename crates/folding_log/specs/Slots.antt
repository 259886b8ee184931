-- What the slots of a log hold: pairs in the order in which they came. Assumes nothing.
use Rattle.std.specs.Prelude.{ℕ, ◌+◌, Bool, true, false, cond, ◌&&◌, List, [], ◌∷◌, ◌++◌, map, Some, None, Option, ◌==◌}
use Rattle.std.specs.List.{filter, find, fold}
use Rattle.std.specs.Option.{option_map}
use Rattle.names.specs.declared.path.Path.{Path}
use Rattle.names.specs.Paths.{same_path, no_path}
use Rattle.store.specs.Meaning.{paths_of, among, place_in, join_pairs}
use Rattle.store.specs.Laws.{onto}
use Rattle.folding_log.specs.declared.slot.LogSlot.{LogSlot}

-- the pair in a slot
abbrev pub pair_of : {K : Type 0} → LogSlot K → Path × K
pair_of s = (s.path, s.entry)

-- a slot before a pair is put there: no path, the blank entry of the kind, and place 0
abbrev pub blank_slot : {K : Type 0} → K → LogSlot K
blank_slot blank = record { path = no_path; entry = blank; place = 0 }

-- pairs joined, in their order, to those that are there
abbrev pub joined_to : {K : Type 0} → (K → K → K) → List (Path × K) → List (Path × K) → List (Path × K)
joined_to join there [] = there
joined_to join there (x ∷ xs) = joined_to join (join_pairs join there x.0 x.1) xs

-- the pairs of the slots, joined one after another
abbrev pub log_pairs : {K : Type 0} → (K → K → K) → List (LogSlot K) → List (Path × K)
log_pairs join ss = joined_to join [] (map pair_of ss)

-- one path more, if it is new
abbrev pub with_path : List Path → Path → List Path
with_path qs p = cond (among qs p) qs (qs ++ p ∷ [])

-- several paths more, each if it is new
abbrev pub with_paths : List Path → List Path → List Path
with_paths qs [] = qs
with_paths qs (p ∷ ps) = with_paths (with_path qs p) ps

-- the paths of the slots in order of first arrival
abbrev pub arrivals : {K : Type 0} → List (LogSlot K) → List Path
arrivals ss = with_paths [] (paths_of (map pair_of ss))

-- the answer is that place
abbrev pub is_place : Option ℕ → ℕ → Bool
is_place None k = false
is_place (Some m) k = m == k

-- each slot has the place of its path among these paths
abbrev pub placed : {K : Type 0} → List Path → List (LogSlot K) → Bool
placed qs [] = true
placed qs (s ∷ ss) = is_place (place_in qs s.path) s.place && placed qs ss

-- the place in the first slot that has the path
abbrev pub place_under : {K : Type 0} → List (LogSlot K) → Path → Option ℕ
place_under ss p = option_map (λ s. s.place) (find (λ s. same_path s.path p) ss)

-- the path in the first slot that has the place
abbrev pub path_under : {K : Type 0} → List (LogSlot K) → ℕ → Option Path
path_under ss k = option_map (λ s. s.path) (find (λ s. s.place == k) ss)

-- the join of the entries in the slots that have the place, in their order
abbrev pub joined_under : {K : Type 0} → (K → K → K) → List (LogSlot K) → ℕ → Option K
joined_under join ss k = fold (λ whole e. Some (onto join whole e)) None (map (λ s. s.entry) (filter (λ s. s.place == k) ss))

-- where a path stands, found or new, beside n that are held, and how many they are with it; none where a new one has no place
abbrev pub seat : Option ℕ → ℕ → ℕ → Option (ℕ × ℕ)
seat None n places = cond (n == places) None (Some (n, n + 1))
seat (Some k) n places = Some (k, n)
