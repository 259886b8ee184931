-- A new directory set above an old one, and which directories a store uses. Assumes nothing.
use Rattle.std.specs.Prelude.{◌≡◌, ℕ, ◌≤◌, Bool, true, false, cond, ◌||◌, List, ◌∷◌, length, ◌==◌, ◌≢◌}
use Rattle.std.specs.List.{AllByRecursion, list_any}
use Rattle.names.specs.declared.label.Label.{Label}
use Rattle.names.specs.declared.path.Path.{Path}
use Rattle.names.specs.Labels.{is_label}
use Rattle.entries.specs.declared.recipe.Content.{Content}
use Rattle.entries.specs.declared.recipe.Content.TheVariants.{Absent, Node, Number, Directory, Link}
use Rattle.entries.specs.declared.recipe.Recipe.{Recipe}
use Rattle.entries.specs.Recipes.{join_recipes}
use Rattle.store.specs.Meaning.{Meaning, full_for, join_of}
use Rattle.store.specs.Laws.{entry_of}
use Rattle.reading.specs.Lookup.{Reading, Reading.answer, Reading.refused, later, one_label, lookup_of}

-- the content is the directory or a link into it
abbrev pub names_directory : ℕ → Content → Bool
names_directory d Absent = false
names_directory d Node = false
names_directory d (Number n) = false
names_directory d (Directory e) = e == d
names_directory d (Link e l) = e == d

-- the pair's path lies in the directory, or its content names it
abbrev pub uses : ℕ → Path × Recipe → Bool
uses d x = x.0.directory == d || names_directory d x.1.content

-- some pair uses the directory
abbrev pub used_in : ℕ → List (Path × Recipe) → Bool
used_in d xs = list_any (uses d) xs

-- the content is neither the directory nor a link into it
abbrev pub Elsewhere : ℕ → Content → Type 0
Elsewhere d k = (k ≢ Directory d) × ((l : Label) → k ≢ Link d l)

-- no pair lies in the directory, and none has it or a link into it for its content
abbrev pub Unused : ℕ → List (Path × Recipe) → Type 0
Unused d xs = AllByRecursion (λ x. (x.0.directory ≢ d) × Elsewhere d x.1.content) xs

-- the entry that a growth posts: the old directory, with a stamp
abbrev pub growth_entry : ℕ → ℕ → Recipe
growth_entry stamp old = record { stamp = stamp; content = Directory old }

-- the store after a growth, which posts it under one label in the new directory
abbrev pub grown : Meaning Recipe → ℕ → ℕ → Label → ℕ → Meaning Recipe
grown m stamp new x old = join_of join_recipes m (one_label new x) (growth_entry stamp old)

-- an answer and the grounds 18 and 19 carry their steps, other grounds carry none
abbrev pub carries_steps : Reading → Bool
carries_steps (answer k n) = true
carries_steps (refused g n) = g == 18 || g == 19

-- the same content or ground, with one step more where steps are carried
abbrev pub one_step_later : Reading → Reading
one_step_later r = cond (carries_steps r) (later r) r

-- a lookup begun outside the new directory answers as before
abbrev pub OutsideAsBefore : Type 0
OutsideAsBefore =
    (m : Meaning Recipe) (stamp new : ℕ) (x : Label) (old : ℕ) → Unused new m.pairs
    → (start : ℕ) (name : List Label) → (start ≢ new)
    → lookup_of (entry_of (grown m stamp new x old)) start name ≡ lookup_of (entry_of m) start name

-- the new label before a name of one to seven labels gives in the new directory what the name gives in the old one, one step later
abbrev pub InsideOneStepLater : Type 0
InsideOneStepLater =
    (m : Meaning Recipe) (stamp new : ℕ) (x : Label) (old : ℕ) → Unused new m.pairs → (new ≢ old)
    → full_for m (one_label new x) ≡ false → is_label x.number ≡ true
    → (name : List Label) → 1 ≤ length name → length name ≤ 7
    → lookup_of (entry_of (grown m stamp new x old)) new (x ∷ name) ≡ one_step_later (lookup_of (entry_of m) old name)

-- two stores that hold the same entry under each path, in whatever order, answer every lookup alike
abbrev pub LookupsReadAlike : Type 0
LookupsReadAlike =
    (m n : Meaning Recipe) → ((p : Path) → entry_of m p ≡ entry_of n p)
    → (start : ℕ) (name : List Label) → lookup_of (entry_of m) start name ≡ lookup_of (entry_of n) start name
