use Rattle.std.proofs.Common.{arith}
use Rattle.std.proofs.lemmas.Grind.{common_steps}
use Rattle.tray.proofs.Without.{without_is}
use Rattle.tray.proofs.tray_bag.TrayBag.lose.Goals as goal

pub returns-clause-after : goal.returns-clause-after
returns-clause-after g c = let gone = without_is c.args.self.now.letters.items c.args.number in grind (arith, common_steps)
