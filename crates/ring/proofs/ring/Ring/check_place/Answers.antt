use Rattle.std.proofs.Common.{arith}
use Rattle.std.proofs.lemmas.Bool.Decides.{nat_tests}
use Rattle.store.proofs.Pairs.{held_not_full, new_full}
use Rattle.machine.specs.States.{store_of}
use Rattle.ring.specs.Built.{state_of}
use Rattle.ring.proofs.ring.Ring.check_place.Goals as goal

pub returns-in-Some : goal.returns-in-Some
returns-in-Some g c = grind (arith, nat_tests, held_not_full (store_of (state_of g.B.Bank g.G.Bag c.args.self.now) c.args.copy) c.args.path.now c.in-Some.field-0 c.in-Some.ensures)

pub returns-in-None : goal.returns-in-None
returns-in-None g c = grind (arith, nat_tests, new_full (store_of (state_of g.B.Bank g.G.Bag c.args.self.now) c.args.copy) c.args.path.now c.in-None.ensures)

pub returns-in-None-2 : goal.returns-in-None-2
returns-in-None-2 g c = grind (arith, nat_tests, new_full (store_of (state_of g.B.Bank g.G.Bag c.args.self.now) c.args.copy) c.args.path.now c.in-None.ensures)
