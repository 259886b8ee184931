use Rattle.std.proofs.Common.{refl}
use Rattle.names.specs.Labels.{legal}
use Rattle.lines.proofs.laws.the_example_lines_are_read.Goals as goal

pub returns : goal.returns
unfolding legal
returns c = record { posts = refl; grows = refl; looks = refl; unsound_path = refl; unsound_name = refl; leading_zero = refl; two_spaces = refl; space_behind = refl; empty_line = refl }
