use Rattle.std.proofs.Common.{rules}
use Rattle.lines.proofs.Befores.{before_found}
use Rattle.lines.proofs.reader.before.Goals as goal

pub returns-clause-value : goal.returns-clause-value
returns-clause-value c = search (rules, before_found)
