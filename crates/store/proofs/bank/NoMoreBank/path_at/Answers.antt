use Rattle.std.proofs.Common.{refl}
use Rattle.store.specs.Meaning.{empty_store, path_at}
use Rattle.store.proofs.bank.NoMoreBank.path_at.Goals as goal

pub returns : goal.returns
unfolding empty_store path_at
returns g c = refl
