-- A write for a role: a post of a recipe entry which the rights ring has to grant. Assumes nothing.
use Rattle.std.specs.Prelude.{ℕ, Bool, false, not, ◌&&◌, ◌||◌, [], ◌∷◌, Some, None, codes, Option, Result, nat_lt}
use Rattle.names.specs.declared.label.Label.{Label}
use Rattle.names.specs.declared.path.Path.{Path}
use Rattle.names.specs.Labels.{label, packed}
use Rattle.names.specs.Paths.{one_label}
use Rattle.entries.specs.declared.recipe.Recipe.{Recipe}
use Rattle.entries.specs.declared.rights.Rights.{Rights}
use Rattle.entries.specs.Rights.{is_granted}
use Rattle.store.specs.Meaning.{full_for}
use Rattle.store.specs.Laws.{entry_of}
use Rattle.machine.specs.States.{State, Grounds, store_of, settled, no_copy}
use Rattle.machine.specs.Posts.{unsound, foreign, late, posted}
use Rattle.ring.specs.Recipes.{recipes}

-- the label `access`: the bytes of its text, kept as those of every label are
abbrev pub access_label : Label
access_label = label (packed 0 8 (codes "access"))

-- where the rights in a directory stand: under that one label
abbrev pub access_path : ℕ → Path
access_path d = one_label d access_label

-- an entry grants a role from 0 to 7 whose number is odd; where there is no entry, no role is granted
abbrev pub grants : Option Rights → ℕ → Bool
grants None role = false
grants (Some a) role = nat_lt role 8 && is_granted a role

-- the copy of a rights ring grants the role in the directory
abbrev pub granted_at : State Rights → ℕ → ℕ → ℕ → Bool
granted_at t c role d = grants (entry_of (store_of t c) (access_path d)) role

-- the grounds of a write to the recipe ring s under the rights ring t: those of a post, with the copies of both rings and the role
abbrev pub write_grounds : State Recipe → State Rights → ℕ → ℕ → Path → Recipe → Grounds
write_grounds s t c role p e =
    (no_copy s c || no_copy t c, 6)
    ∷ (unsound recipes (p, e), 11)
    ∷ (not (granted_at t c role p.directory), 12)
    ∷ (foreign recipes c (p, e), 13)
    ∷ (late recipes s c (p, e), 14)
    ∷ (full_for (store_of s c) p, 16)
    ∷ []

-- write posts a recipe entry at a copy for a role, or answers its first ground
abbrev pub write : State Recipe → State Rights → ℕ → ℕ → Path → Recipe → Result (Unit {0}) ℕ × State Recipe
write s t c role p e = settled (write_grounds s t c role p e) s (tt, posted recipes s c ((p, e) ∷ []))
