use Rattle.std.proofs.Common.{rules}
use Rattle.names.specs.Labels.{legal}
use Rattle.names.proofs.label.is_label_text.Goals as goal

pub returns-then-is_label_length : goal.returns-then-is_label_length
unfolding legal
returns-then-is_label_length c = search rules
