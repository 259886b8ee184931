use Rattle.std.proofs.Common.{rules}
use Rattle.reading.proofs.Shows.{content_exactly}
use Rattle.reading.proofs.shown.shown_content.Goals as goal

pub returns-clause-exactly : goal.returns-clause-exactly
returns-clause-exactly g c = content_exactly _ _ _ (search rules)
