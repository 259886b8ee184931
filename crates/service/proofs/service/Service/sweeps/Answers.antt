use Rattle.std.proofs.Common.{vec_items, arith}
use lib.ListN.{length-map}
use Rattle.service.specs.Calls.{of_kept}
use Rattle.service.proofs.service.Service.sweeps.Goals as goal

pub returns : goal.returns
returns g c =
    let v = c.args.self.now.sweeps in
    omega (arith, v.ok.0, c.len.ensures, length-map (vec_items v) of_kept)
