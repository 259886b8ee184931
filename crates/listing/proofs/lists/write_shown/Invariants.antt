use Rattle.listing.proofs.Writes.{Filled}
use Rattle.listing.proofs.lists.write_shown.Given as goal

abbrev pub invariant-places : goal.invariant-places
invariant-places g l = Filled (g.S.Readable.meaning l.store) l.directory l.initial.memory l.place l.total l.memory
