-- A write beside the post of the same entry. Assumes nothing.
use Rattle.std.proofs.Common.{◌≡◌, ℕ, Bool, true, false, cond, not, ◌||◌, Some, Option, refl, ap, [], ◌∷◌}
use Rattle.names.specs.declared.path.Path.{Path}
use Rattle.entries.specs.declared.recipe.Recipe.{Recipe}
use Rattle.entries.specs.declared.rights.Rights.{Rights}
use Rattle.store.specs.Meaning.{full_for}
use Rattle.machine.specs.States.{State, Grounds, store_of, decided, first_ground, no_copy}
use Rattle.machine.specs.Posts.{unsound, foreign, late, posted, post}
use Rattle.ring.specs.Recipes.{recipes}
use Rattle.access.specs.Writes.{granted_at, write}

-- with the tests of the rights ring passed, the first ground of a write is that of the post
guards_open : (a b u g : Bool) (rest : Option ℕ) → b ≡ false → g ≡ true → cond (a || b) (Some 6) (cond u (Some 11) (cond (not g) (Some 12) rest)) ≡ cond a (Some 6) (cond u (Some 11) rest)
guards_open true b u g rest there yes' = refl
guards_open false b true g rest there yes' = cc
guards_open false b false g rest there yes' = cc

module _ (s : State Recipe) (t : State Rights) (c role : ℕ) (p : Path) (e : Recipe) where
  -- the grounds that come after that of the role
  abbrev later : Grounds
  later = (foreign recipes c (p, e), 13) ∷ (late recipes s c (p, e), 14) ∷ (full_for (store_of s c) p, 16) ∷ []

  -- where the rights ring has the copy and grants the role, a write is the post: answered alike, on the same ground if refused
  pub granted_is_post : no_copy t c ≡ false → granted_at t c role p.directory ≡ true → write s t c role p e ≡ post recipes s c p e
  granted_is_post there yes' =
      ap (λ o. decided o s (tt, posted recipes s c ((p, e) ∷ [])))
      (guards_open (no_copy s c) (no_copy t c) (unsound recipes (p, e)) (granted_at t c role p.directory) (first_ground later) there yes')
