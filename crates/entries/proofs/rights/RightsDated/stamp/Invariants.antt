use Rattle.std.proofs.Common.{◌≡◌, max, drop}
use Rattle.entries.specs.Rights.{greatest}
use Rattle.entries.proofs.rights.RightsDated.stamp.Given as goal

abbrev pub invariant-roles : goal.invariant-roles
invariant-roles l = max l.greatest (greatest (drop l.role-index l.role-items)) ≡ greatest l.role-items
