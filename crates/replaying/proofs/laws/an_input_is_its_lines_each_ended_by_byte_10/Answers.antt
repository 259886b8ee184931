use Rattle.replaying.proofs.Split.{is_its_lines}
use Rattle.replaying.proofs.laws.an_input_is_its_lines_each_ended_by_byte_10.Goals as goal

pub returns : goal.returns
returns c = is_its_lines
