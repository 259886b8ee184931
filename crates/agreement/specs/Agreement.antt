-- What the copies of a ring agree on after any list of calls. Assumes nothing.
use Rattle.std.specs.Prelude.{◌≡◌, ℕ, ◌<◌, ◌≤◌, min, true, false, cond, ◌⊎◌, List, [], ◌∷◌, length, Some, None, Option, slice_index_or}
use Rattle.std.specs.List.{AllByRecursion}
use Rattle.names.specs.declared.path.Path.{Path}
use Rattle.names.specs.Paths.{same_path}
use Rattle.store.specs.Meaning.{Meaning, Sound, no_store, holds, place_of, join_of}
use Rattle.store.specs.Laws.{entry_of, onto}
use Rattle.machine.specs.Kinds.{Kind}
use Rattle.machine.specs.States.{store_of, sweep_of}
use Rattle.machine.specs.Sweeps.{finished}
use Rattle.machine.specs.Worlds.{Call, Update, World, sweep_number, run, opened}

-- it is one of them
abbrev pub In : {A : Type 0} → A → List A → Type 0
In a [] = ⊥
In a (x ∷ xs) = (a ≡ x) ⊎ In a xs

-- each store holds nothing
abbrev pub AllEmpty : {K : Type 0} → List (Meaning K) → Type 0
AllEmpty stores = AllByRecursion (λ m. m.pairs ≡ []) stores

-- stores that a ring can be opened over: two to eight, and empty
pub record Fresh {K : Type 0} (stores : List (Meaning K)) : Type 0 where
  pub two : 2 ≤ length stores
  pub eight : length stores ≤ 8
  pub empty : AllEmpty stores

-- the join of all entries of updates under a path, or none where there is no such update
abbrev pub join_of_updates : {K : Type 0} → Kind K → Path → List (Update K) → Option K
join_of_updates k p [] = None
join_of_updates k p (u ∷ us) = cond (same_path u.path p) (Some (onto k.join (join_of_updates k p us) u.entry)) (join_of_updates k p us)

-- an update is not missing from a store: its path is held, and joining its entry again changes nothing
pub record Kept {K : Type 0} (k : Kind K) (u : Update K) (m : Meaning K) : Type 0 where
  pub held : holds m u.path ≡ true
  pub again : join_of k.join m u.path u.entry ≡ m

-- a store holds a path with exactly the join of the updates under it
pub record HoldsJoin {K : Type 0} (k : Kind K) (p : Path) (us : List (Update K)) (m : Meaning K) : Type 0 where
  pub held : holds m p ≡ true
  pub joined : entry_of m p ≡ join_of_updates k p us

-- a store does not hold a path
pub record Unheld {K : Type 0} (p : Path) (m : Meaning K) : Type 0 where
  pub not_held : holds m p ≡ false
  pub no_place : place_of m p ≡ None
  pub no_entry : entry_of m p ≡ None

-- some update has the path
pub record Updated {K : Type 0} (p : Path) (us : List (Update K)) : Type 0 where
  pub update : Update K
  pub accepted : In update us
  pub of_path : update.path ≡ p

-- every update of the path is stamped below s
abbrev pub PathBelow : {K : Type 0} → Kind K → ℕ → Path → List (Update K) → Type 0
PathBelow {K} k s p us = (u : Update K) → In u us → u.path ≡ p → k.stamp u.entry < s

-- every update is stamped below s
abbrev pub AllBelow : {K : Type 0} → Kind K → ℕ → List (Update K) → Type 0
AllBelow {K} k s us = (u : Update K) → In u us → k.stamp u.entry < s

-- what a copy c has of the accepted updates stamped below s
pub record AgreesBelow {K : Type 0} (k : Kind K) (w : World K) (s c : ℕ) : Type 0 where
  -- no such update is missing
  pub none_missing : (u : Update K) → In u w.updates → k.stamp u.entry < s → Kept k u (store_of w.ring c)
  -- a path that has updates, all stamped below s, is held with exactly their join
  pub exactly : (p : Path) → Updated p w.updates → PathBelow k s p w.updates → HoldsJoin k p w.updates (store_of w.ring c)
  -- a path that has no update is not held
  pub unheld : (p : Path) → (Updated p w.updates → ⊥) → Unheld p (store_of w.ring c)

-- the lower of the sweep stamps of two copies
abbrev pub lower_stamp : {K : Type 0} → World K → ℕ → ℕ → ℕ
lower_stamp w c d = min (sweep_of w.ring c) (sweep_of w.ring d)

-- two copies agree below the lower of their sweep stamps, and on every path where that is above every update
pub record CopiesAgree {K : Type 0} (k : Kind K) (w : World K) (c d : ℕ) : Type 0 where
  pub one : AgreesBelow k w (lower_stamp w c d) c
  pub other : AgreesBelow k w (lower_stamp w c d) d
  pub alike : AllBelow k (lower_stamp w c d) w.updates → (p : Path) → entry_of (store_of w.ring c) p ≡ entry_of (store_of w.ring d) p

-- whatever calls were made on a ring, any two of its copies agree
abbrev pub Agreement : {K : Type 0} → Kind K → Type 0
Agreement {K} k =
    (stores : List (Meaning K)) (room : ℕ) (calls : List (Call K)) (c d : ℕ)
    → Fresh stores
    → c < length stores
    → d < length stores
    → CopiesAgree k (run k calls (opened stores room)) c d

-- the join of updates is the same in any order, however often each of them comes
abbrev pub AnyOrder : {K : Type 0} → Kind K → Type 0
AnyOrder {K} k =
    (us vs : List (Update K))
    → ((u : Update K) → In u us → In u vs)
    → ((u : Update K) → In u vs → In u us)
    → (p : Path)
    → join_of_updates k p us ≡ join_of_updates k p vs

-- a sweep that is finished has lifted the sweep stamp of every copy to its own stamp at least
abbrev pub FinishedEverywhere : {K : Type 0} → Kind K → Type 0
FinishedEverywhere {K} k =
    (stores : List (Meaning K)) (room : ℕ) (calls : List (Call K)) (j s home c : ℕ)
    → Fresh stores
    → c < length stores
    → sweep_number (run k calls (opened stores room)) j ≡ finished s home
    → s ≤ sweep_of (run k calls (opened stores room)).ring c

-- a store of a ring is sound, and has the places that it was opened with
pub record SoundStore {K : Type 0} (m start : Meaning K) : Type 0 where
  pub sound : Sound m
  pub places : m.places ≡ start.places

-- whatever calls were made on a ring, each of its stores holds no path twice, and no more pairs than its places
abbrev pub StoresSound : {K : Type 0} → Kind K → Type 0
StoresSound {K} k =
    (stores : List (Meaning K)) (room : ℕ) (calls : List (Call K)) (c : ℕ)
    → Fresh stores
    → SoundStore (store_of (run k calls (opened stores room)).ring c) (slice_index_or stores c no_store)
