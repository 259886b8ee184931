-- The letter that lent memory holds before any is sent. Assumes nothing.
use Rattle.names.specs.Paths.{no_path}
use Rattle.letters.specs.declared.letter.Letter.{Letter}
use Rattle.letters.specs.declared.letter.Tag.TheVariants.{News}

-- news of nothing: each number zero, no path, and the blank entry of the kind
abbrev pub blank_letter : {K : Type 0} → K → Letter K
blank_letter blank = record { tag = News; sender = 0; addressee = 0; stamp = 0; place = 0; count = 0; path = no_path; entry = blank }
