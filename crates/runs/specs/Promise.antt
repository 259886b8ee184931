-- What is promised of every list of calls on a ring of recipe entries. Assumes nothing.
use Rattle.std.specs.Prelude.{◌≡◌, ℕ, ◌<◌, ◌≤◌, List, [], ◌∷◌, map, length, Ok, ◌≢◌}
use Rattle.names.specs.declared.label.Label.{Label}
use Rattle.entries.specs.declared.recipe.Recipe.{Recipe}
use Rattle.store.specs.Meaning.{Meaning}
use Rattle.reading.specs.Growth.{one_step_later}
use Rattle.listing.specs.declared.listed.Listed.{Listed}
use Rattle.machine.specs.States.{State, sweep_of}
use Rattle.machine.specs.Sweeps.{finished}
use Rattle.machine.specs.Worlds.{World, nothing, sweep_number, step, run, opened}
use Rattle.agreement.specs.Agreement.{AllBelow, lower_stamp, CopiesAgree}
use Rattle.ring.specs.Recipes.{recipes, lookup_at, list_at}
use Rattle.service.specs.declared.recipe_call.RecipeCall.{RecipeCall}
use Rattle.service.specs.declared.recipe_call.RecipeCall.TheVariants.{Ring, Grow}
use Rattle.service.specs.RecipeCalls.{of_recipe_call}

-- every lookup answers the same at two copies: content or ground, and steps
abbrev pub LookupsAlike : State Recipe → ℕ → ℕ → Type 0
LookupsAlike s c d = (start : ℕ) (name : List Label) → lookup_at s c start name ≡ lookup_at s d start name

-- every listing into equal memories answers the same at two copies: ground or number, and memory after
abbrev pub ListingsAlike : State Recipe → ℕ → ℕ → Type 0
ListingsAlike s c d = (directory : ℕ) (memory : List Listed) → list_at s c directory memory ≡ list_at s d directory memory

-- what a growth at copy c, which set `new` above `old` under the label x, does to lookups there
pub record GrowthHolds (before after : State Recipe) (c new : ℕ) (x : Label) (old : ℕ) : Type 0 where
  -- begun outside the new directory they answer as before
  pub outside : (start : ℕ) (name : List Label) → (start ≢ new) → lookup_at after c start name ≡ lookup_at before c start name
  -- begun in it, the label before a name of one to seven labels gives what the name gives from the old one, one step later
  pub inside : (name : List Label) → 1 ≤ length name → length name ≤ 7 → lookup_at after c new (x ∷ name) ≡ one_step_later (lookup_at before c old name)

-- this is so at every growth of a list of calls that is accepted
abbrev pub GrowthsHold : List RecipeCall → World Recipe → Type 0
GrowthsHold [] w = Unit {0}
GrowthsHold (Ring x ∷ calls) w = GrowthsHold calls (step recipes (of_recipe_call (Ring x)) w).1
GrowthsHold (Grow c stamp new x old ∷ calls) w =
    ((step recipes (of_recipe_call (Grow c stamp new x old)) w).0 ≡ Ok nothing → GrowthHolds w.ring (step recipes (of_recipe_call (Grow c stamp new x old)) w).1.ring c new x old)
    × GrowthsHold calls (step recipes (of_recipe_call (Grow c stamp new x old)) w).1

-- the world after a list of calls on a ring just opened
abbrev pub after : List (Meaning Recipe) → ℕ → List RecipeCall → World Recipe
after stores room calls = run recipes (map of_recipe_call calls) (opened stores room)

-- what is promised of any two copies c and d, and of every growth and every finished sweep, after a list of calls
pub record Promise (stores : List (Meaning Recipe)) (room : ℕ) (calls : List RecipeCall) : Type 0 where
  -- no update stamped below the lower of their sweep stamps is missing from either; paths so stamped are held with exactly the join of their updates, and a path with no update by neither
  pub agreement : (c d : ℕ) → c < length stores → d < length stores → CopiesAgree recipes (after stores room calls) c d
  -- where every update is so stamped, they answer every lookup alike
  pub lookups : (c d : ℕ) → c < length stores → d < length stores → AllBelow recipes (lower_stamp (after stores room calls) c d) (after stores room calls).updates → LookupsAlike (after stores room calls).ring c d
  -- and every listing
  pub listings : (c d : ℕ) → c < length stores → d < length stores → AllBelow recipes (lower_stamp (after stores room calls) c d) (after stores room calls).updates → ListingsAlike (after stores room calls).ring c d
  -- at every accepted growth of the list, lookups begun outside the new directory are as before, and begun in it one step later
  pub growths : GrowthsHold calls (opened stores room)
  -- when a sweep is finished, every copy's sweep stamp is at least its stamp
  pub finished_everywhere : (j s home c : ℕ) → c < length stores → sweep_number (after stores room calls) j ≡ finished s home → s ≤ sweep_of (after stores room calls).ring c
