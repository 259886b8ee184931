use Rattle.std.proofs.Common.{refl}
use Rattle.store.specs.Meaning.{empty_store}
use Rattle.store.proofs.bank.NoMoreBank.places.Goals as goal

pub returns : goal.returns
unfolding empty_store
returns g c = refl
