use Rattle.lines.proofs.Letters.{letters_pick}
use Rattle.lines.proofs.Orders.{fields_in_order}
use Rattle.lines.proofs.laws.a_line_is_read_exactly_when_its_fields_stand_in_order.Goals as goal

pub returns : goal.returns
returns c = record { fields = fields_in_order; letters = letters_pick }
