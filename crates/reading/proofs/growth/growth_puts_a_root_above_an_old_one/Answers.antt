use Rattle.reading.proofs.Grown.{outside_as_before, inside_one_step_later}
use Rattle.reading.proofs.growth.growth_puts_a_root_above_an_old_one.Goals as goal

pub returns : goal.returns
returns c = record { outside = outside_as_before; inside = inside_one_step_later }
