use Rattle.names.specs.Paths.{depth}
use Rattle.reading.proofs.shown.+shown_entry.Given as goal

-- a parent has fewer labels
abbrev pub decreases-shown_entry : goal.decreases-shown_entry
decreases-shown_entry g l = depth l.path.now
