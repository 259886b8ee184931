use Rattle.std.proofs.Common.{length-set}
use Rattle.std.proofs.Math.Seq.{take-set-lt}
use Rattle.lent.proofs.lent.Lent.set.Goals as goal

pub returns-then-at-self : goal.returns-then-at-self
returns-then-at-self g c =
    let l = c.self.inside in
    let items = take-set-lt l.used l.slots.now c.args.at c.args.item c.if-at-self.true in
    rw (← c.self.view_is) (simp (items, length-set))
