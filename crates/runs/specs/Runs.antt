-- A built run, as the machine has it. Assumes nothing.
use Rattle.std.specs.Prelude.{◌≡◌, ℕ, List, [], ◌∷◌, map, Some, None, Result}
use Rattle.grounds.specs.Grounds.{ground_number}
use Rattle.entries.specs.declared.recipe.Recipe.{Recipe}
use Rattle.store.specs.Meaning.{Meaning}
use Rattle.letters.specs.declared.letter.Letter.{Letter}
use Rattle.letters.specs.Mail.{Mail}
use Rattle.machine.specs.States.{State, first_ground}
use Rattle.machine.specs.Sweeps.{Sweep}
use Rattle.machine.specs.Worlds.{Got, step, answers, opened}
use Rattle.ring.specs.Openings.{open_grounds}
use Rattle.ring.specs.Recipes.{recipes}
use Rattle.service.specs.declared.recipe_call.RecipeCall.{RecipeCall}
use Rattle.service.specs.Calls.{world_of, seen}
use Rattle.service.specs.RecipeCalls.{of_recipe_call}
use Rattle.service.specs.declared.call.Trouble.{Trouble}
use Rattle.service.specs.declared.call.Trouble.TheVariants.{Refused, NoMemory}
use Rattle.runs.specs.Promise.{after}

-- the answers of a list of calls on a ring in service, and the ring and its sweeps after it
abbrev pub runs_from : State Recipe × List Sweep → List RecipeCall → List (Result Got ℕ) × (State Recipe × List Sweep)
runs_from x [] = ([], x)
runs_from x (c ∷ cs) = (
  (seen (step recipes (of_recipe_call c) (world_of x))).0 ∷ (runs_from (seen (step recipes (of_recipe_call c) (world_of x))).1 cs).0,
  (runs_from (seen (step recipes (of_recipe_call c) (world_of x))).1 cs).1,
)

-- a run that was made: nothing stood against the opening, and answers, ring (heads, stores and bag) and sweeps are the machine's
pub record IsRun (stores : List (Meaning Recipe)) (bag : Mail (Letter Recipe)) (calls : List RecipeCall) (said : List (Result Got ℕ)) (left : State Recipe × List Sweep) : Type 0 where
  pub opens : first_ground (open_grounds stores bag) ≡ None
  pub answered : said ≡ answers recipes (map of_recipe_call calls) (opened stores bag.places)
  pub ring : left.0 ≡ (after stores bag.places calls).ring
  pub sweeps : left.1 ≡ (after stores bag.places calls).sweeps

-- why a run was not made: the ground of the opening, or want of memory
abbrev pub NotMade : List (Meaning Recipe) → Mail (Letter Recipe) → Trouble → Type 0
NotMade stores bag (Refused g) = first_ground (open_grounds stores bag) ≡ Some (ground_number g)
NotMade stores bag NoMemory = Unit {0}
