-- When a name is sound, label by label. Assumes nothing.
use Rattle.std.proofs.Common.{◌≡◌, ◌≤◌, true, List, ◌∷◌, length, arith}
use Rattle.std.proofs.lemmas.Bool.Decides.{nat_tests}
use Rattle.names.specs.declared.label.Label.{Label}
use Rattle.names.specs.Labels.{is_label}
use Rattle.reading.specs.Lookup.{sound_name}

-- one label more before a name of one to seven
pub sound_longer : (x : Label) (name : List Label) → is_label x.number ≡ true → 1 ≤ length name → length name ≤ 7 → sound_name (x ∷ name) ≡ sound_name name
sound_longer x name h lo hi = grind (arith, nat_tests)
