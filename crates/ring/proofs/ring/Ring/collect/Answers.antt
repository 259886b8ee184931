use Rattle.std.proofs.Common.{◌≡◌, ℕ, Some, None, Option, ap, arith}
use Rattle.letters.specs.declared.letter.Letter.{Letter}
use Rattle.letters.specs.Mail.{letter_at}
use Rattle.machine.specs.Kinds.{kind_of}
use Rattle.machine.specs.States.{State, first_ground}
use Rattle.machine.specs.Sweeps.{collecting, collect_grounds, after_collect, turned}
use Rattle.ring.specs.Awaited.{awaited_grounds}
use Rattle.ring.specs.Built.{state_of, of_collecting}
use Rattle.ring.proofs.ring.Ring.collect.Goals as goal

-- a letter that is no reply has the same ground before its tag and place are judged and after
first_stays : {K : Type 0} (s : State K) (stamp home in_hand : ℕ) (count : Option ℕ) (place n : ℕ) (found : Option (Letter K)) → Some n ≡ first_ground (awaited_grounds s stamp home in_hand found) → Some n ≡ first_ground (collect_grounds s (collecting stamp home in_hand count place) found)
first_stays s stamp home in_hand count place n None is = is
first_stays s stamp home in_hand count place n (Some l) is = grind arith

pub returns-in-Err : goal.returns-in-Err
returns-in-Err g c =
    let s = state_of g.B.Bank g.G.Bag c.args.self.now in
    let w = c.args.sweep in
    let found = letter_at s.bag.letters c.args.letter in
    ap (λ o. turned o (of_collecting w, s) (after_collect (kind_of g.K.Joinable g.K.Dated) s (of_collecting w) found))
    (first_stays s w.round.stamp w.round.home w.round.in_hand w.count w.place _ found c.in-Err.ensures.ground)
