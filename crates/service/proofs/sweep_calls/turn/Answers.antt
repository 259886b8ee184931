use Rattle.letters.specs.Mail.{letter_at}
use Rattle.machine.specs.Sweeps.{collect_grounds, confirm_grounds}
use Rattle.ring.specs.Built.{state_of, of_collecting, of_spreading}
use Rattle.service.proofs.Steps.{refused_step}
use Rattle.service.proofs.sweep_calls.turn.Goals as goal

pub returns-in-Err : goal.returns-in-Err
returns-in-Err g c =
    let s = state_of g.B.Bank g.G.Bag c.args.ring.now in
    let x = of_collecting c.in-Collect-Collecting.sweep in
    let found = letter_at s.bag.letters c.in-Collect-Collecting.letter in
    rw (c.in-Collect-Collecting.is-0, c.in-Collect-Collecting.is-1) (refused_step (collect_grounds s x found) _ s _ x _ _ _ c.in-Err.ensures)

pub returns-in-Err-confirm : goal.returns-in-Err-confirm
returns-in-Err-confirm g c =
    let s = state_of g.B.Bank g.G.Bag c.args.ring.now in
    let x = of_spreading c.in-Confirm-Spreading.sweep in
    let found = letter_at s.bag.letters c.in-Confirm-Spreading.letter in
    rw (c.in-Confirm-Spreading.is-0, c.in-Confirm-Spreading.is-1) (refused_step (confirm_grounds s x found) _ s _ x _ _ _ c.in-Err-confirm.ensures)
