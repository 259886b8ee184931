use Rattle.std.proofs.Common.{◌%◌, ◌≤◌, eqb, length, sym, ap, ◌∙◌, rules}
use Rattle.std.proofs.lemmas.Bool.{le-ltb}
use Rattle.std.proofs.lemmas.List.{get_or_past}
use Rattle.entries.proofs.rights.Rights.is_granted.Goals as goal

pub returns-else-role-lt8 : goal.returns-else-role-lt8
returns-else-role-lt8 c =
    let past : length c.args.self.now.roles ≤ c.args.role = search rules in
    le-ltb _ _ c.if-role-lt8.false ∙ sym (ap (λ n. eqb (n % 2) 1) (get_or_past c.args.self.now.roles c.args.role 0 past))
