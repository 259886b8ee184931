use Rattle.std.proofs.Common.{length}
use Rattle.store.specs.Laws.{entry_of}
use Rattle.reading.proofs.Walks.{Onward}
use Rattle.reading.proofs.lookups.walk.Given as goal

abbrev pub invariant-labels : goal.invariant-labels
invariant-labels g l = Onward (entry_of (g.S.Readable.meaning l.store)) l.tail l.start l.head l.steps l.rest l.links l.directory l.first

-- each turn drops a label
abbrev pub decreases-labels : goal.decreases-labels
decreases-labels g l = length l.rest

abbrev pub invariant-links : goal.invariant-links
invariant-links g l = Onward (entry_of (g.S.Readable.meaning l.store)) l.tail l.start l.head l.steps l.rest l.links l.directory l.first

-- each turn uses up a link
abbrev pub decreases-links : goal.decreases-links
decreases-links g l = l.links
