-- What a growth changes of lookups. Assumes nothing.
use Rattle.std.proofs.Common.{◌≡◌, ℕ, Bool, true, false, cond, List, [], ◌∷◌, Some, sym, refl, ap, ◌∙◌, arith}
use Rattle.std.proofs.lemmas.Bool.{cond-true}
use Rattle.std.proofs.lemmas.Bool.Decides.{nat_tests}
use Rattle.std.proofs.lemmas.Grind.{common_steps}
use Rattle.names.specs.declared.label.Label.{Label}
use Rattle.names.specs.declared.path.Path.{Path}
use Rattle.names.specs.Paths.{same_path}
use Rattle.entries.specs.declared.recipe.Content.{Content}
use Rattle.entries.specs.declared.recipe.Content.TheVariants.{Directory, Link}
use Rattle.entries.specs.declared.recipe.Recipe.{Recipe}
use Rattle.entries.specs.Recipes.{join_recipes}
use Rattle.store.specs.Meaning.{Meaning, full_for}
use Rattle.store.specs.Laws.{entry_of, onto}
use Rattle.store.proofs.Kept.{holds_old_join_new, others_stay}
use Rattle.reading.specs.declared.lookups.Turn.TheVariants.{Enter}
use Rattle.reading.specs.Shown.{Look}
use Rattle.reading.specs.Lookup.{Reading, Reading.answer, Reading.refused, later, sound_name, one_label, path_of, turn_at, walk}
use Rattle.reading.specs.Rules.{Shows.alone, Holds, Plain, Reads, Reads.arrives, Reads.enters, Reads.follows, Reads.stops, Reads.stands, Reads.nothing}
use Rattle.reading.specs.Growth.{Elsewhere, Unused, growth_entry, grown, carries_steps, one_step_later, OutsideAsBefore, InsideOneStepLater}
use Rattle.reading.proofs.Found.{none_when, entry_all}
use Rattle.reading.proofs.SoundNames.{sound_longer}
use Rattle.reading.proofs.Shows.{shows_held, holds_outside}
use Rattle.reading.proofs.Ruled.{enter_turn, reads_walk, walk_reads}
use Rattle.reading.proofs.Walks.{walk_enters}

-- a path that the labels form lies in the directory
path_directory : (d : ℕ) (x : Label) (rest : List Label) (p : Path) → path_of d x rest ≡ Some p → p.directory ≡ d
path_directory d x [] p h = grind (arith, common_steps)
path_directory d x (y ∷ []) p h = grind (arith, common_steps)
path_directory d x (y ∷ z ∷ []) p h = grind (arith, common_steps)
path_directory d x (y ∷ z ∷ w ∷ more) p h = cc

-- two stores hold the same outside the directory `new`, and nothing in the first leads into it
module _ (new : ℕ) (f g : Look) (same : (p : Path) → (p.directory ≡ new → ⊥) → f p ≡ g p) (avoids : (p : Path) (e : Recipe) → f p ≡ Some e → Elsewhere new e.content) where
  -- then both show the same outside
  there : (p : Path) (k : Content) → (p.directory ≡ new → ⊥) → Holds f p k → Holds g p k
  there = holds_outside f g new same

  back : (p : Path) (k : Content) → (p.directory ≡ new → ⊥) → Holds g p k → Holds f p k
  back = holds_outside g f new (λ p out. sym (same p out))

  plain_outside : (d : ℕ) (x : Label) → (d ≡ new → ⊥) → Plain f d x → Plain g d x
  plain_outside d x out plain = (λ e h. plain.0 e (back (one_label d x) (Directory e) out h), λ e l h. plain.1 e l (back (one_label d x) (Link e l) out h))

  -- no directory and no link leads into `new`
  directory_outside : (p : Path) (e : ℕ) → Holds f p (Directory e) → e ≡ new → ⊥
  directory_outside p e h q = let a = avoids p h.0 (shows_held f p h.0 h.1) in grind (arith, common_steps)

  link_outside : (p : Path) (e : ℕ) (l : Label) → Holds f p (Link e l) → e ≡ new → ⊥
  link_outside p e l h q = let a = avoids p h.0 (shows_held f p h.0 h.1) in grind (arith, common_steps)

  -- so a name read outside has one reading in both
  reads_outside : {n d : ℕ} {name : List Label} {r : Reading} → (d ≡ new → ⊥) → Reads f n d name r → Reads g n d name r
  reads_outside out (arrives {d} {x} e h) = arrives e (there (one_label d x) (Directory e) out h)
  reads_outside out (enters {d} {x} e h s) = enters e (there (one_label d x) (Directory e) out h) (reads_outside (directory_outside (one_label d x) e h) s)
  reads_outside out (follows {d} {x} e l h s) = follows e l (there (one_label d x) (Link e l) out h) (reads_outside (link_outside (one_label d x) e l h) s)
  reads_outside out (stops {d} {x} e l h) = stops e l (there (one_label d x) (Link e l) out h)
  reads_outside out (stands {d} {x} {rest} {k} plain p q h) = stands (plain_outside d x out plain) p q (there p k (λ e. out (sym (path_directory d x rest p q) ∙ e)) h)
  reads_outside out (nothing {d} {x} {rest} plain none) = nothing (plain_outside d x out plain) (λ p k q h. none p k q (back p k (λ e. out (sym (path_directory d x rest p q) ∙ e)) h))

  walk_outside : (rest : List Label) (n d : ℕ) (x : Label) → (d ≡ new → ⊥) → walk g rest n d x ≡ walk f rest n d x
  walk_outside rest n d x out = reads_walk g (reads_outside out (walk_reads f rest n d x))

-- a path outside a directory is not the path of one label in it
apart : (p q : Path) → (p.directory ≡ q.directory → ⊥) → same_path p q ≡ false
apart p q h = grind (arith, nat_tests)

-- a growth into a directory that the store does not use
module _ (m : Meaning Recipe) (stamp new : ℕ) (x : Label) (old : ℕ) (unused : Unused new m.pairs) where
  -- what was held lies outside and leads outside
  before : (p : Path) (e : Recipe) → entry_of m p ≡ Some e → (p.directory ≡ new → ⊥) × Elsewhere new e.content
  unfolding entry_of
  before p e h = entry_all (λ y. (y.0.directory ≡ new → ⊥) × Elsewhere new y.1.content) m.pairs unused p e h

  -- outside nothing is changed, and in the new directory the old one is entered
  grown_outside : (p : Path) → (p.directory ≡ new → ⊥) → entry_of m p ≡ entry_of (grown m stamp new x old) p
  grown_outside p out = sym (others_stay join_recipes m (one_label new x) (growth_entry stamp old) p (apart (one_label new x) p (λ e. out (sym e)))).1

  grown_inside : full_for m (one_label new x) ≡ false → entry_of (grown m stamp new x old) (one_label new x) ≡ Some (growth_entry stamp old)
  grown_inside room =
      holds_old_join_new join_recipes m (one_label new x) (growth_entry stamp old) room
      ∙ ap (λ o. Some (onto join_recipes o (growth_entry stamp old))) (none_when (entry_of m (one_label new x)) (λ e h. (before (one_label new x) e h).0 refl))

  walk_before : (rest : List Label) (n d : ℕ) (y : Label) → (d ≡ new → ⊥) → walk (entry_of (grown m stamp new x old)) rest n d y ≡ walk (entry_of m) rest n d y
  walk_before = walk_outside new (entry_of m) (entry_of (grown m stamp new x old)) grown_outside (λ p e h. (before p e h).1)

  grown_enters : full_for m (one_label new x) ≡ false → Enter old ≡ turn_at (entry_of (grown m stamp new x old)) new x
  grown_enters room = enter_turn (entry_of (grown m stamp new x old)) new x old (growth_entry stamp old, alone (grown_inside room) (λ q. cc) refl, refl)

-- what a walk gives carries its steps
carries_later : (r : Reading) → carries_steps (later r) ≡ carries_steps r
carries_later (answer k n) = refl
carries_later (refused g n) = refl

reads_carry : (f : Look) {n d : ℕ} {name : List Label} {r : Reading} → Reads f n d name r → carries_steps r ≡ true
reads_carry f (arrives e h) = refl
reads_carry f (enters {r} e h s) = carries_later r ∙ reads_carry f s
reads_carry f (follows {r} e l h s) = carries_later r ∙ reads_carry f s
reads_carry f (stops e l h) = refl
reads_carry f (stands plain p q h) = refl
reads_carry f (nothing plain none) = refl

-- the two laws
pub outside_as_before : OutsideAsBefore
outside_as_before m stamp new x old unused start [] out = refl
outside_as_before m stamp new x old unused start (y ∷ rest) out = ap (λ r. cond (sound_name (y ∷ rest)) r (refused 11 0)) (walk_before m stamp new x old unused rest 8 start y out)

pub inside_one_step_later : InsideOneStepLater
inside_one_step_later m stamp new x old unused differ room labelled [] lo hi = absurd (omega arith)
inside_one_step_later m stamp new x old unused differ room labelled (y ∷ rest) lo hi =
    ap (λ b. cond b (walk (entry_of (grown m stamp new x old)) (y ∷ rest) 8 new x) (refused 11 0)) (sound_longer x (y ∷ rest) labelled lo hi) ∙ go (sound_name (y ∷ rest))
  where
    go : (b : Bool) → cond b (walk (entry_of (grown m stamp new x old)) (y ∷ rest) 8 new x) (refused 11 0) ≡ one_step_later (cond b (walk (entry_of m) rest 8 old y) (refused 11 0))
    go true =
        walk_enters (entry_of (grown m stamp new x old)) (y ∷ rest) 8 new x old (grown_enters m stamp new x old unused room)
        ∙ ap later (walk_before m stamp new x old unused rest 8 old y (λ e. differ (sym e)))
        ∙ sym (cond-true _ _ _ (reads_carry (entry_of m) (walk_reads (entry_of m) rest 8 old y)))
    go false = refl
