use Rattle.std.proofs.Common.{arith}
use Rattle.ring.proofs.ring.Ring.post.Goals as goal

pub returns-in_err-check_update : goal.returns-in_err-check_update
returns-in_err-check_update g c = grind (arith, c.in_err-check_update.ensures, c.from_residual.ensures)

pub returns-in_err-check_place : goal.returns-in_err-check_place
returns-in_err-check_place g c =
    grind (arith, c.in_ok-check_update.ensures, c.in_err-check_place.ensures, c.from_residual-in_err-check_place.ensures)
