-- The stores of a bank are sound. Assumes nothing.
use Rattle.std.specs.Prelude.{ℕ, zero, suc, List, [], ◌∷◌, slice_index_or, refl}
use Rattle.std.proofs.Common.{zero-le}
use Rattle.store.specs.Meaning.{Meaning, Sound, AllSound, empty_store, no_store}

-- the store of any number is sound; past the end it is one without places
pub sound_at : {K : Type 0} (ms : List (Meaning K)) → AllSound ms → (i : ℕ) → Sound (slice_index_or ms i no_store)
unfolding empty_store
sound_at [] all i = record { apart = refl; within = zero-le }
sound_at (m ∷ ms) all zero = all.0
sound_at (m ∷ ms) all (suc i) = sound_at ms all.1 i
