use Rattle.entries.proofs.Contents.{by_keys}
use Rattle.entries.proofs.recipe.recipes_are_compared_by_their_keys.Goals as goal

pub returns : goal.returns
returns c = by_keys
