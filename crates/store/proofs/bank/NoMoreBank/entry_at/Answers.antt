use Rattle.store.specs.Meaning.{empty_store, entry_at}
use Rattle.store.proofs.bank.NoMoreBank.entry_at.Goals as goal

pub returns : goal.returns
unfolding empty_store entry_at
returns g c = c.blank.ensures
