use Rattle.names.specs.Orders.{order_total}
use Rattle.names.proofs.path.paths_are_compared_part_by_part.Goals as goal

pub returns-clause-total : goal.returns-clause-total
returns-clause-total c = order_total
