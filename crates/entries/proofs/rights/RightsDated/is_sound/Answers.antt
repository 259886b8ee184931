use Rattle.std.proofs.Common.{rules}
use Rattle.entries.proofs.Roles.{below_stop, below_more, below_all}
use Rattle.entries.proofs.rights.RightsDated.is_sound.Goals as goal

pub returns-then-not-is_role_number : goal.returns-then-not-is_role_number
returns-then-not-is_role_number c = search (rules, below_stop)

pub roles-preserved : goal.roles-preserved
roles-preserved c = search (rules, below_more)

pub returns : goal.returns
returns c = search (rules, below_all)
