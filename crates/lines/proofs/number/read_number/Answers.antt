use Rattle.std.proofs.Common.{◌+◌, ◌-◌, ◌*◌, ◌^◌, ◌≤◌, get_or, ◌∙◌, arith, rules}
use Rattle.std.proofs.lemmas.Grind.{common_steps}
use Rattle.lines.proofs.Digits.{number_no_digit, number_too_large, number_all}
use Rattle.lines.proofs.number.read_number.Goals as goal

pub returns-then-not-is_ascii_digit : goal.returns-then-not-is_ascii_digit
returns-then-not-is_ascii_digit c = search (rules, number_no_digit)

pub returns-in_err-value : goal.returns-in_err-value
returns-in_err-value c =
    let large : 2 ^ 32 ≤ c.digits.value * 10 + (get_or c.args.text.now c.digits.byte-index 0 - 48) = grind (arith, common_steps) in
    c.from_residual.ensures ∙ number_too_large _ _ _ c.digits.invariant.0 c.digits.invariant.1 c.digits-test.true large

pub returns : goal.returns
returns c = search (rules, number_all)
