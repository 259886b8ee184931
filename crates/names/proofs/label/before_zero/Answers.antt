use Rattle.std.proofs.Common.{rules}
use Rattle.names.proofs.Bytes.{until_found, until_none}
use Rattle.names.proofs.label.before_zero.Goals as goal

pub returns-in-Some : goal.returns-in-Some
returns-in-Some c = search (rules, until_found)

pub returns-in-None : goal.returns-in-None
returns-in-None c = search (rules, until_none)
