use Rattle.std.proofs.Common.{rules}
use Rattle.entries.proofs.Contents.{greater_is_join}
use Rattle.entries.proofs.recipe.RecipeJoinable.join.Goals as goal

pub returns : goal.returns
returns c = search (rules, greater_is_join)
