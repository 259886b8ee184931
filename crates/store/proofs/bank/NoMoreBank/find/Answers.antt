use Rattle.std.proofs.Common.{refl}
use Rattle.store.specs.Meaning.{empty_store, place_of}
use Rattle.store.proofs.bank.NoMoreBank.find.Goals as goal

pub returns : goal.returns
unfolding empty_store place_of
returns g c = refl
