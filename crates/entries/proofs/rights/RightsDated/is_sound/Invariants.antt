use Rattle.std.proofs.Common.{◌≡◌, ◌^◌, drop}
use Rattle.entries.specs.Rights.{all_below}
use Rattle.entries.proofs.rights.RightsDated.is_sound.Given as goal

abbrev pub invariant-roles : goal.invariant-roles
invariant-roles l = all_below (2 ^ 41) (drop l.role-index l.role-items) ≡ all_below (2 ^ 41) l.role-items
