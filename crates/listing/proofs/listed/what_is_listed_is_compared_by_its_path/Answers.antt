use Rattle.std.specs.Cmp.{on_total}
use Rattle.names.specs.Orders.{order_total}
use Rattle.listing.specs.declared.listed.Listed.{Listed}
use Rattle.listing.proofs.listed.what_is_listed_is_compared_by_its_path.Goals as goal

pub returns-clause-total : goal.returns-clause-total
returns-clause-total c = on_total (λ (x : Listed). x.path) order_total
