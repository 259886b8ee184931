use Rattle.std.proofs.Common.{rules}
use Rattle.entries.proofs.Roles.{top_more, top_all}
use Rattle.entries.proofs.rights.RightsDated.stamp.Goals as goal

pub roles-preserved : goal.roles-preserved
roles-preserved c = search (rules, top_more)

pub returns : goal.returns
returns c = search (rules, top_all)
