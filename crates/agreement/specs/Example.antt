-- A list of calls on a ring of three copies, with a letter lost and letters handed twice. Assumes nothing.
use Rattle.std.specs.Prelude.{◌≡◌, ℕ, List, [], ◌∷◌, Some, Err, codes}
use Rattle.names.specs.declared.path.Path.{Path}
use Rattle.names.specs.Labels.{label, packed}
use Rattle.names.specs.Stamps.{stamp_at}
use Rattle.entries.specs.declared.recipe.Content.TheVariants.{Number}
use Rattle.entries.specs.declared.recipe.Recipe.{Recipe}
use Rattle.entries.specs.Recipes.{join_recipes, blank_recipe, stamp_of, sound_recipe}
use Rattle.store.specs.Meaning.{empty_store}
use Rattle.store.specs.Laws.{entry_of}
use Rattle.machine.specs.Kinds.{Kind}
use Rattle.machine.specs.States.{store_of, sweep_of}
use Rattle.machine.specs.Sweeps.{finished}
use Rattle.machine.specs.Worlds.{Call, posts, mail, hand, lose, begin, press, collect, spread, confirm, World, sweep_number, step, run, opened}

-- the kind of recipe entries
abbrev pub recipes : Kind Recipe
recipes = record { join = join_recipes; blank = blank_recipe; stamp = stamp_of; sound = sound_recipe }

-- the path 1:rye
abbrev pub rye : Path
rye = record { directory = 1; first = label (packed 0 8 (codes "rye")); second = label 0; third = label 0 }

-- an entry that says a number, made by a copy at time 5
abbrev pub says : ℕ → ℕ → Recipe
says c n = record { stamp = stamp_at 5 c; content = Number n }

-- a post of it at the copy that made it
abbrev pub post_rye : ℕ → ℕ → Call Recipe
post_rye c n = posts c ((rye, says c n) ∷ []) (λ _. [])

-- two posts under one path, a letter that is lost, and a sweep from copy 0 in which two letters are handed twice
abbrev pub calls : List (Call Recipe)
calls =
    post_rye 0 7
    ∷ post_rye 1 3
    -- news of the first to copy 2, lost
    ∷ mail 0 2 0
    ∷ lose 0
    -- copy 1 is asked for its count, twice, and for its entry
    ∷ begin 0 6
    ∷ press 0
    ∷ hand 0
    ∷ hand 0
    ∷ collect 0 1
    ∷ press 0
    ∷ hand 3
    ∷ collect 0 4
    -- copy 2 has none
    ∷ press 0
    ∷ hand 5
    ∷ collect 0 6
    ∷ spread 0
    -- copy 1 is given the entry, twice, and told of the sweep
    ∷ press 0
    ∷ hand 7
    ∷ hand 7
    ∷ confirm 0 8
    ∷ press 0
    ∷ hand 10
    ∷ confirm 0 11
    -- and so is copy 2
    ∷ press 0
    ∷ hand 12
    ∷ confirm 0 13
    ∷ press 0
    ∷ hand 14
    ∷ confirm 0 15
    ∷ []

-- a ring just opened, with four places in each store, and room for 32 letters
abbrev pub start : World Recipe
start = opened (empty_store 4 ∷ empty_store 4 ∷ empty_store 4 ∷ []) 32

-- what the calls leave of it
abbrev pub end : World Recipe
end = run recipes calls start

-- both updates were accepted, the sweep is finished, every copy has noted it and holds the join of the two; one more
-- update below the sweep's stamp is refused
pub record Example : Type 0 where
  pub accepted : end.updates ≡ record { copy = 1; path = rye; entry = says 1 3 } ∷ record { copy = 0; path = rye; entry = says 0 7 } ∷ []
  pub swept : sweep_number end 0 ≡ finished (stamp_at 6 0) 0
  pub noted : sweep_of end.ring 0 ∷ sweep_of end.ring 1 ∷ sweep_of end.ring 2 ∷ [] ≡ stamp_at 6 0 ∷ stamp_at 6 0 ∷ stamp_at 6 0 ∷ []
  pub first : entry_of (store_of end.ring 0) rye ≡ Some (join_recipes (says 0 7) (says 1 3))
  pub second : entry_of (store_of end.ring 1) rye ≡ Some (join_recipes (says 0 7) (says 1 3))
  pub third : entry_of (store_of end.ring 2) rye ≡ Some (join_recipes (says 0 7) (says 1 3))
  pub late : (step recipes (post_rye 1 9) end).0 ≡ Err 14
