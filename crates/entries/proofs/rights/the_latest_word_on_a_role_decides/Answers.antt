use Rattle.entries.proofs.Words.{latest_word_decides}
use Rattle.entries.proofs.rights.the_latest_word_on_a_role_decides.Goals as goal

pub returns : goal.returns
returns c = latest_word_decides
