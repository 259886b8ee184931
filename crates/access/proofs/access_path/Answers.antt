use Rattle.std.proofs.Common.{Some, sym, ap}
use Rattle.names.specs.Labels.{legal}
use Rattle.access.proofs.access_path.Goals as goal

pub returns-clause-label : goal.returns-clause-label
unfolding legal
returns-clause-label c = ap (λ p. Some p.first) (sym c.of_label.ensures)
