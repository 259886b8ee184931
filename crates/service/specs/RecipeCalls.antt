-- Built calls on a ring of recipe entries as the machine has them. Assumes nothing.
use Rattle.entries.specs.declared.recipe.Recipe.{Recipe}
use Rattle.machine.specs.Worlds as machine
use Rattle.ring.specs.Recipes.{growth_update, growth_grounds}
use Rattle.service.specs.declared.recipe_call.RecipeCall.{RecipeCall}
use Rattle.service.specs.declared.recipe_call.RecipeCall.TheVariants.{Ring, Grow}
use Rattle.service.specs.Calls.{of_call}

-- a growth posts one update, with a ground of its own
abbrev pub of_recipe_call : RecipeCall → machine.Call Recipe
of_recipe_call (Ring c) = of_call c
of_recipe_call (Grow copy stamp new x old) = machine.posts copy (growth_update stamp new x old) (growth_grounds copy new old)
