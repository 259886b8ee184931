use Rattle.std.proofs.Common.{◌≡◌, ℕ, Some, None, Err, Option, Result, ap}
use Rattle.machine.specs.States.{decided}
use Rattle.access.proofs.write.Goals as goal

-- a refused call leaves the state as it was
refused_keeps : {A S : Type 0} (first : Option ℕ) (before after : S) (done : A × S) (r : Result A ℕ) (n : ℕ) → (r, after) ≡ decided first before done → r ≡ Err n → after ≡ before
refused_keeps None before after done r n is refused = cc (ap (λ x. x.0) is)
refused_keeps (Some m) before after done r n is refused = ap (λ x. x.1) is

pub returns-clause-refused : goal.returns-clause-refused
returns-clause-refused g c n refused = refused_keeps _ _ _ _ _ n c.post.ensures refused
