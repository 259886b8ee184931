-- That what is promised of runs holds of a replay. Assumes nothing.
use Rattle.std.specs.Prelude.{◌≡◌, ℕ, List, [], ◌∷◌, map}
use Rattle.entries.specs.declared.recipe.Recipe.{Recipe}
use Rattle.machine.specs.States.{State}
use Rattle.machine.specs.Sweeps.{Sweep}
use Rattle.machine.specs.Worlds.{answers, opened}
use Rattle.ring.specs.Recipes.{recipes}
use Rattle.service.specs.declared.recipe_call.RecipeCall.{RecipeCall}
use Rattle.service.specs.RecipeCalls.{of_recipe_call}
use Rattle.runs.specs.Promise.{after, Promise}
use Rattle.lines.specs.Asked.{asked_by}
use Rattle.report.specs.Reports.{Found}
use Rattle.replaying.specs.Replays.{of_answer, Move, makes, finds, move_of, replied, replayed, lines_of, stores, at_first}

-- the call of a move, before the calls of the lines after it
abbrev pub with_call : Move → List RecipeCall → List RecipeCall
with_call (makes c) calls = c ∷ calls
with_call (finds f) calls = calls

-- the calls that the lines make
abbrev pub calls_of : State Recipe × List Sweep → List (List ℕ) → List RecipeCall
calls_of x [] = []
calls_of x (line ∷ lines) = with_call (move_of x (asked_by line)) (calls_of (replied x (asked_by line)).1 lines)

-- what a move came to, before what came after it, if it was a call
abbrev pub with_finding : Move → Found → List Found → List Found
with_finding (makes c) f fs = f ∷ fs
with_finding (finds g) f fs = fs

-- what the lines that make a call come to
abbrev pub findings_of : State Recipe × List Sweep → List (List ℕ) → List Found
findings_of x [] = []
findings_of x (line ∷ lines) =
    with_finding (move_of x (asked_by line)) (replied x (asked_by line)).0 (findings_of (replied x (asked_by line)).1 lines)

-- a replay of an input is a run of the calls that its lines make, and what is promised of every run holds of it
pub record Covered (input : List ℕ) : Type 0 where
  -- each line that makes a call comes to what the run answers
  pub answered : findings_of at_first (lines_of input) ≡ map of_answer (answers recipes (map of_recipe_call (calls_of at_first (lines_of input))) (opened stores 64))
  -- the replay leaves the ring (heads, stores and bag) that the run of these calls leaves, and its sweeps
  pub ring : (replayed 1 at_first (lines_of input)).1.0 ≡ (after stores 64 (calls_of at_first (lines_of input))).ring
  pub sweeps : (replayed 1 at_first (lines_of input)).1.1 ≡ (after stores 64 (calls_of at_first (lines_of input))).sweeps
  -- copies agree below their sweep stamps, and all that is promised besides
  pub promise : Promise stores 64 (calls_of at_first (lines_of input))
