use Rattle.std.proofs.Common.{arith}
use Rattle.ring.proofs.ring.Ring.deliver.Goals as goal

pub returns-in_err-check_place-in-Put : goal.returns-in_err-check_place-in-Put
returns-in_err-check_place-in-Put g c = grind (arith, c.in_err-check_place-in-Put.ensures, c.from_residual-in_err-check_place-in-Put.ensures)
