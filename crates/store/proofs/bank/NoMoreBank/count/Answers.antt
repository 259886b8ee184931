use Rattle.std.proofs.Common.{refl}
use Rattle.store.specs.Meaning.{empty_store, count_of}
use Rattle.store.proofs.bank.NoMoreBank.count.Goals as goal

pub returns : goal.returns
unfolding empty_store count_of
returns g c = refl
