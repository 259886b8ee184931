-- The calls that rings of recipe entries have besides. Assumes nothing.
use Rattle.std.specs.Prelude.{ℕ, cond, ◌||◌, List, [], ◌∷◌, Err, Result, ◌==◌}
use Rattle.names.specs.declared.label.Label.{Label}
use Rattle.names.specs.declared.path.Path.{Path}
use Rattle.names.specs.Paths.{one_label}
use Rattle.entries.specs.declared.recipe.Recipe.{Recipe}
use Rattle.entries.specs.Recipes.{join_recipes, blank_recipe, stamp_of, sound_recipe}
use Rattle.store.specs.Laws.{entry_of}
use Rattle.reading.specs.Lookup.{Reading, Reading.refused, lookup_of}
use Rattle.reading.specs.Growth.{used_in, growth_entry}
use Rattle.listing.specs.declared.listed.Listed.{Listed}
use Rattle.listing.specs.Listing.{list_answer, list_after}
use Rattle.machine.specs.Kinds.{Kind}
use Rattle.machine.specs.States.{State, Grounds, store_of, no_copy}
use Rattle.machine.specs.Posts.{posting}

-- the kind of recipe entries
abbrev pub recipes : Kind Recipe
recipes = record { join = join_recipes; blank = blank_recipe; stamp = stamp_of; sound = sound_recipe }

-- the new directory is the old one, or the copy uses it
abbrev pub growth_grounds : ℕ → ℕ → ℕ → State Recipe → Grounds
growth_grounds c new old s = (new == old || used_in new (store_of s c).pairs, 15) ∷ []

-- what a growth posts: under one label in the new directory, the old directory
abbrev pub growth_update : ℕ → ℕ → Label → ℕ → List (Path × Recipe)
growth_update stamp new x old = (one_label new x, growth_entry stamp old) ∷ []

-- grow sets a new directory above an old one
abbrev pub grow : State Recipe → ℕ → ℕ → ℕ → Label → ℕ → Result (Unit {0}) ℕ × State Recipe
grow s c stamp new x old = posting recipes s c (growth_update stamp new x old) (growth_grounds c new old s)

-- lookup at a copy
abbrev pub lookup_at : State Recipe → ℕ → ℕ → List Label → Reading
lookup_at s c start name = cond (no_copy s c) (refused 6 0) (lookup_of (entry_of (store_of s c)) start name)

-- list at a copy: the answer, and the memory after
abbrev pub list_at : State Recipe → ℕ → ℕ → List Listed → Result ℕ ℕ × List Listed
list_at s c d memory = cond (no_copy s c) (Err 6, memory) (list_answer (store_of s c) d memory, list_after (store_of s c) d memory)
