use Rattle.lines.proofs.Joins.{labels_joined}
use Rattle.lines.proofs.laws.labels_are_read_exactly_when_they_are_joined_by_slashes.Goals as goal

pub returns : goal.returns
returns c = labels_joined
