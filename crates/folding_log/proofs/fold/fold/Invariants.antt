use Rattle.std.proofs.Common.{◌≡◌}
use Rattle.folding_log.proofs.Folds.{Folded}
use Rattle.folding_log.proofs.fold.fold.Given as goal

abbrev pub invariant-slots : goal.invariant-slots
invariant-slots g l = record { folded : Folded g.K.Joinable.joined l.initial.slots.items l.slots.items l.folded l.i; places : l.slots.places ≡ l.initial.slots.places }
