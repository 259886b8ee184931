use Rattle.std.proofs.Common.{◌≤◌, length, sym, arith}
use Rattle.std.proofs.lemmas.List.{set_past}
use Rattle.heads.proofs.Heads.lift_sweep.Goals as goal

pub returns-else-copy-lt8 : goal.returns-else-copy-lt8
returns-else-copy-lt8 c =
    let past : length c.args.self.now.table ≤ c.args.copy = omega arith in
    sym (set_past _ _ _ past)
