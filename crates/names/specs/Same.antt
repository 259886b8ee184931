-- Two paths pass `==` exactly when they are equal. Assumes nothing.
use Rattle.std.specs.Prelude.{◌≡◌, true}
use Rattle.std.proofs.Common.{arith}
use Rattle.std.proofs.lemmas.Bool.Decides.{nat_tests}
use Rattle.names.specs.declared.path.Path.{Path}
use Rattle.names.specs.Paths.{same_path}

-- the order of the two does not matter
pub same_sym : (p q : Path) → same_path p q ≡ same_path q p
same_sym p q = grind (arith, nat_tests)

-- paths that pass are equal
pub same_is : (p q : Path) → same_path p q ≡ true → p ≡ q
same_is p q h = grind (arith, nat_tests)

-- a path passes with itself
pub same_refl : (p : Path) → same_path p p ≡ true
same_refl p = grind (arith, nat_tests)
