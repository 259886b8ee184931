use Rattle.std.proofs.Common.{sym, ◌∙◌}
use Rattle.reading.proofs.Found.{not_found, found}
use Rattle.machine.specs.States.{store_of}
use Rattle.ring.specs.Built.{state_of}
use Rattle.ring.proofs.ring.Ring.entry.Goals as goal

pub returns-in_err-place : goal.returns-in_err-place
returns-in_err-place g c =
    let m = store_of (state_of g.B.Bank g.G.Bag c.args.self.now) c.args.copy in
    c.from_residual.ensures ∙ sym (not_found m c.args.path.now c.in_err-place.ensures)

pub returns : goal.returns
returns g c =
    let m = store_of (state_of g.B.Bank g.G.Bag c.args.self.now) c.args.copy in
    sym (found _ m c.args.path.now _ _ c.in_ok-place.ensures c.entry_at.ensures)
