use Rattle.std.proofs.Common.{refl}
use Rattle.store.specs.Meaning.{empty_store, full_for, holds, count_of}
use Rattle.store.proofs.bank.NoMoreBank.join.Goals as goal

pub returns : goal.returns
unfolding empty_store full_for holds count_of
returns g c = record { answer = refl; after = refl }
