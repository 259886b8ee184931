use Rattle.std.proofs.Common.{◌≡◌, length, sym, ap, ◌∙◌, arith, rules}
use Rattle.std.proofs.lemmas.List.{ext_get_or}
use Rattle.entries.specs.Rights.{of_roles, greater}
use Rattle.entries.proofs.Roles.{length_greater, get_or_greater}
use Rattle.entries.proofs.rights.RightsJoinable.join.Goals as goal

pub returns : goal.returns
returns c =
    let a = c.args.self.roles in
    let b = c.args.other.roles in
    let la : length a ≡ 8 = search rules in
    let lb : length b ≡ 8 = search rules in
    let lg = length_greater a b (la ∙ sym lb) in
    let lr : length c.greater_of_each.result ≡ 8 = search rules in
    ap of_roles (ext_get_or 0 _ (greater a b) (omega arith) (λ k h. c.greater_of_each.ensures k (omega arith) ∙ sym (get_or_greater a b k)))
