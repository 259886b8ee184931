-- Paths are totally ordered. Assumes nothing.
use Rattle.std.specs.Cmp.{IsTotalOrder, nat_cmp_total, on_total, then_total}
use Rattle.names.specs.declared.path.Path.{Path}
use Rattle.names.specs.Paths.{order_of}

-- the order of paths is total: it is made of the order of numbers, field by field
pub order_total : IsTotalOrder order_of
order_total =
    then_total (on_total (λ (p : Path). p.directory) nat_cmp_total)
    (then_total (on_total (λ (p : Path). p.first.number) nat_cmp_total)
    (then_total (on_total (λ (p : Path). p.second.number) nat_cmp_total)
    (on_total (λ (p : Path). p.third.number) nat_cmp_total)))
