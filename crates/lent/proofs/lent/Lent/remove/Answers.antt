use Rattle.std.proofs.Common.{◌≡◌, ◌-◌, take, arith}
use Rattle.std.specs.List.{remove}
use Rattle.lent.proofs.Gaps.{gap_closed}
use Rattle.lent.proofs.lent.Lent.remove.Goals as goal

pub returns-clause-after : goal.returns-clause-after
returns-clause-after g c =
    let l = c.self.inside in
    let items : take (l.used - 1) c.copy_within.new.self ≡ remove (take l.used l.slots.now) c.args.at = rw c.copy_within.ensures.after (gap_closed l.slots.now l.used c.args.at (omega (arith, c.if-at-self.false)) c.self.invariant) in
    rw (← c.self.view_is) (simp (items, c.copy_within.ensures.len))
