-- The rules of what is shown and of how a name is read, as relations. Assumes nothing.
use Rattle.std.specs.Prelude.{◌≡◌, ℕ, zero, suc, ◌≤◌, true, ◌↔◌, List, [], ◌∷◌, Some, None, ◌≢◌}
use Rattle.names.specs.declared.label.Label.{Label}
use Rattle.names.specs.declared.path.Path.{Path}
use Rattle.names.specs.Paths.{parent_of}
use Rattle.entries.specs.declared.recipe.Content.{Content}
use Rattle.entries.specs.declared.recipe.Content.TheVariants.{Absent, Directory, Link}
use Rattle.entries.specs.declared.recipe.Recipe.{Recipe}
use Rattle.reading.specs.Shown.{Look}
use Rattle.reading.specs.Lookup.{Reading, Reading.answer, Reading.refused, later, sound_name, one_label, path_of}

-- an entry belongs below the one that is shown above it: that one is not stamped higher
abbrev pub Belongs : Recipe → Recipe → Type 0
Belongs above e = above.stamp ≤ e.stamp

-- the entry is shown under the path: it is held there and is not absent, and the path has one label or the entry belongs below the one that its parent shows
pub data Shows (f : Look) : Path → Recipe → Type 0 where
  alone : {p : Path} {e : Recipe} → f p ≡ Some e → (e.content ≢ Absent) → parent_of p ≡ None → Shows f p e
  under : {p : Path} {e : Recipe} → f p ≡ Some e → (e.content ≢ Absent) → (q : Path) → parent_of p ≡ Some q → (above : Recipe) → Shows f q above → Belongs above e → Shows f p e

-- an entry with that content is shown under the path
abbrev pub Holds : Look → Path → Content → Type 0
Holds f p k = (e : Recipe) × Shows f p e × (e.content ≡ k)

-- neither a directory nor a link is shown under the first label
abbrev pub Plain : Look → ℕ → Label → Type 0
Plain f d x = ((e : ℕ) → Holds f (one_label d x) (Directory e) → ⊥) × ((e : ℕ) (l : Label) → Holds f (one_label d x) (Link e l) → ⊥)

-- the name has that reading from the directory, with so many links to follow
pub data Reads (f : Look) : ℕ → ℕ → List Label → Reading → Type 0 where
  -- rule 1, at the last label and before others
  arrives : {n d : ℕ} {x : Label} (e : ℕ) → Holds f (one_label d x) (Directory e) → Reads f n d (x ∷ []) (answer (Directory e) 1)
  enters : {n d : ℕ} {x y : Label} {rest : List Label} {r : Reading} (e : ℕ) → Holds f (one_label d x) (Directory e) → Reads f n e (y ∷ rest) r → Reads f n d (x ∷ y ∷ rest) (later r)
  -- rule 2, with a link to follow and with none
  follows : {n d : ℕ} {x : Label} {rest : List Label} {r : Reading} (e : ℕ) (l : Label) → Holds f (one_label d x) (Link e l) → Reads f n e (l ∷ rest) r → Reads f (suc n) d (x ∷ rest) (later r)
  stops : {d : ℕ} {x : Label} {rest : List Label} (e : ℕ) (l : Label) → Holds f (one_label d x) (Link e l) → Reads f zero d (x ∷ rest) (refused 19 1)
  -- rule 3
  stands : {n d : ℕ} {x : Label} {rest : List Label} {k : Content} → Plain f d x → (p : Path) → path_of d x rest ≡ Some p → Holds f p k → Reads f n d (x ∷ rest) (answer k 1)
  -- rule 4
  nothing : {n d : ℕ} {x : Label} {rest : List Label} → Plain f d x → ((p : Path) (k : Content) → path_of d x rest ≡ Some p → Holds f p k → ⊥) → Reads f n d (x ∷ rest) (refused 18 1)

-- a sound name has the reading r by the rules, with eight links to follow, and no other
abbrev pub Exactly : Look → ℕ → List Label → Reading → Type 0
Exactly f start name r = sound_name name ≡ true → (s : Reading) → (r ≡ s) ↔ Reads f 8 start name s
