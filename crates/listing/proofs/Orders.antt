-- Paths are in a total order, and no two paths have the same rank in it. Assumes nothing.
use Rattle.std.proofs.Common.{◌≡◌, Equal, arith}
use Rattle.std.proofs.lemmas.Bool.Decides.{nat_tests}
use Rattle.std.specs.Cmp.{IsTotalOrder, on_total}
use Rattle.names.specs.declared.path.Path.{Path}
use Rattle.names.specs.Paths.{order_of}
use Rattle.names.specs.Orders.{order_total}
use Rattle.listing.specs.declared.listed.Listed.{Listed}

-- listed paths are in the order of their paths
abbrev pub by_path : IsTotalOrder (λ (x y : Listed). order_of x.path y.path)
by_path = on_total (λ (x : Listed). x.path) order_total

-- paths that compare as equal are equal
pub order_equal : (p q : Path) → order_of p q ≡ Equal → p ≡ q
order_equal p q h = grind (arith, nat_tests)
