-- What a refusal leaves. Assumes nothing.
use Rattle.std.specs.Prelude.{◌≡◌, ℕ, Err}
use Rattle.machine.specs.Kinds.{Kind}
use Rattle.machine.specs.Worlds.{Call, World, step}

-- a refused call leaves everything as it was
abbrev pub RefusedChangesNothing : {K : Type 0} → Kind K → Type 0
RefusedChangesNothing {K} k = (x : Call K) (w : World K) (g : ℕ) → (step k x w).0 ≡ Err g → (step k x w).1 ≡ w
