-- What a dated kind of entry gives the machine. Assumes nothing.
use Rattle.std.specs.Prelude.{◌≡◌, ℕ, Bool}
use Rattle.entries.specs.declared.kind.Joinable.{Ghosts as Joins}
use Rattle.entries.specs.declared.kind.Dated.{Ghosts as Dates}

-- a kind's join, its blank entry, an entry's stamp, and whether its form is sound
pub record Kind (K : Type 0) : Type 0 where
  pub join : K → K → K
  pub blank : K
  pub stamp : K → ℕ
  pub sound : K → Bool

-- the kind that an `impl` of `Dated` says
abbrev pub kind_of : {K : Type 0} → Joins K → Dates K → Kind K
kind_of j d = record { join = j.joined; blank = j.empty; stamp = d.dated; sound = d.formed }

-- the laws of a kind's join
pub record Laws {K : Type 0} (k : Kind K) : Type 0 where
  pub idempotent : (a : K) → k.join a a ≡ a
  pub commutative : (a b : K) → k.join a b ≡ k.join b a
  pub associative : (a b c : K) → k.join (k.join a b) c ≡ k.join a (k.join b c)
