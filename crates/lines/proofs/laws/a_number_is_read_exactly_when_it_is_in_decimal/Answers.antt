use Rattle.lines.proofs.Digits.{numbers_in_decimal}
use Rattle.lines.proofs.laws.a_number_is_read_exactly_when_it_is_in_decimal.Goals as goal

pub returns : goal.returns
returns c = numbers_in_decimal
