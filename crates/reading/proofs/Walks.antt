-- One step of the walk over a name. Assumes nothing.
use Rattle.std.proofs.Common.{◌≡◌, ℕ, zero, suc, ◌+◌, ◌-◌, ◌<◌, ◌≤◌, true, List, [], ◌∷◌, length, get_or, take, drop, sym, refl, ap, ◌∙◌, arith}
use Rattle.std.proofs.lemmas.List.{take_rest}
use Rattle.std.proofs.lemmas.Grind.{common_steps}
use Rattle.std.proofs.lemmas.Bool.{cond-true}
use Rattle.names.specs.declared.label.Label.{Label}
use Rattle.names.specs.Labels.{label}
use Rattle.entries.specs.declared.recipe.Content.TheVariants.{Directory}
use Rattle.reading.specs.declared.lookups.Turn.{Turn}
use Rattle.reading.specs.declared.lookups.Turn.TheVariants.{Enter, Follow, End}
use Rattle.reading.specs.Shown.{Look}
use Rattle.reading.specs.Lookup.{Reading, Reading.answer, Reading.refused, later, content_of, answered, turn_at, by_turn, walk, sound_name, lookup_of}

-- how the walk goes on in a directory, and along a link
abbrev pub entered : Look → List Label → ℕ → ℕ → Reading
entered f [] n e = answer (Directory e) 1
entered f (y ∷ rest) n e = later (walk f rest n e y)

abbrev pub followed : Look → List Label → ℕ → ℕ → Label → Reading
followed f rest zero e l = refused 19 1
followed f rest (suc n) e l = later (walk f rest n e l)

-- the walk takes one of three turns
walk_turn : (f : Look) (rest : List Label) (n d : ℕ) (x : Label) (t : Turn) → t ≡ turn_at f d x → walk f rest n d x ≡ by_turn t (entered f rest n) (followed f rest n) (answered (content_of f d x rest))
walk_turn f [] zero d x t h = grind (arith, common_steps)
walk_turn f [] (suc n) d x t h = grind (arith, common_steps)
walk_turn f (y ∷ rest) zero d x t h = grind (arith, common_steps)
walk_turn f (y ∷ rest) (suc n) d x t h = grind (arith, common_steps)

pub walk_enters : (f : Look) (rest : List Label) (n d : ℕ) (x : Label) (e : ℕ) → Enter e ≡ turn_at f d x → walk f rest n d x ≡ entered f rest n e
walk_enters f rest n d x e h = walk_turn f rest n d x (Enter e) h

pub walk_follows : (f : Look) (rest : List Label) (n d : ℕ) (x : Label) (e : ℕ) (l : Label) → Follow e l ≡ turn_at f d x → walk f rest n d x ≡ followed f rest n e l
walk_follows f rest n d x e l h = walk_turn f rest n d x (Follow e l) h

pub walk_ends : (f : Look) (rest : List Label) (n d : ℕ) (x : Label) → End ≡ turn_at f d x → walk f rest n d x ≡ answered (content_of f d x rest)
walk_ends f rest n d x h = walk_turn f rest n d x End h

-- what a slice pattern `[next, after @ ..]` binds to its second name
abbrev pub after_first : List Label → List Label
after_first xs = take (length xs - 1) (drop 1 xs)

after_first_is : (x : Label) (xs : List Label) → after_first (x ∷ xs) ≡ xs
after_first_is x xs = take_rest (x ∷ xs) 1

pub after_first_length : (xs : List Label) → 1 ≤ length xs → length (after_first xs) + 1 ≡ length xs
after_first_length [] h = absurd (omega arith)
after_first_length (x ∷ xs) h = rw (after_first_is x xs) (omega arith)

-- a directory under the last label, and a link where none may be followed
pub enters_last : (f : Look) (rest : List Label) (n d : ℕ) (x : Label) (e : ℕ) → length rest < 1 → Enter e ≡ turn_at f d x → walk f rest n d x ≡ answer (Directory e) 1
enters_last f [] n d x e short h = walk_enters f [] n d x e h
enters_last f (y ∷ rest) n d x e short h = absurd (omega arith)

pub follows_none : (f : Look) (rest : List Label) (n d : ℕ) (x : Label) (e : ℕ) (l : Label) → n ≡ 0 → Follow e l ≡ turn_at f d x → walk f rest n d x ≡ refused 19 1
follows_none f rest zero d x e l none h = walk_follows f rest zero d x e l h
follows_none f rest (suc n) d x e l none h = absurd (omega arith)

-- a sound name is walked over with eight links to follow
pub lookup_walks : (f : Look) (start : ℕ) (name : List Label) → true ≡ sound_name name → lookup_of f start name ≡ walk f (after_first name) 8 start (get_or name 0 (label 0))
lookup_walks f start [] sound = cc
lookup_walks f start (x ∷ rest) sound = cond-true _ _ _ (sym sound) ∙ ap (λ r. walk f r 8 start x) (sym (after_first_is x rest))

-- a reading with so many steps more
abbrev pub after : ℕ → Reading → Reading
after k (answer c n) = answer c (k + n)
after k (refused g n) = refused g (k + n)

after_none : (r : Reading) → r ≡ after 0 r
after_none r = grind (arith, common_steps)

after_later : (k : ℕ) (r : Reading) → after k (later r) ≡ after (k + 1) r
after_later k r = grind (arith, common_steps)

-- a walk with eight links to follow, under way
module _ (f : Look) (tail : List Label) (start : ℕ) (head : Label) where
  -- after so many steps, each of which took a label or a link, the rest of the walk is from the first label left
  pub record Onward (steps : ℕ) (rest : List Label) (links d : ℕ) (x : Label) : Type 0 where
    pub same : walk f tail 8 start head ≡ after steps (walk f rest links d x)
    pub few : steps + length rest + links ≤ length tail + 8

  pub onward_start : Onward 0 tail 8 start head
  onward_start = record { same = after_none (walk f tail 8 start head); few = omega arith }

  -- a step that enters a directory before other labels, and one that follows a link
  pub onward_enters : (steps : ℕ) (rest : List Label) (links d : ℕ) (x : Label) (e : ℕ) → 1 ≤ length rest → Enter e ≡ turn_at f d x → Onward steps rest links d x → Onward (steps + 1) (after_first rest) links e (get_or rest 0 (label 0))
  onward_enters steps [] links d x e long h o = absurd (omega arith)
  onward_enters steps (y ∷ rest) links d x e long h o =
      let is = after_first_is y rest in
      record {
        same = o.same ∙ ap (after steps) (walk_enters f (y ∷ rest) links d x e h ∙ ap (λ r. later (walk f r links e y)) (sym is)) ∙ after_later steps (walk f (after_first (y ∷ rest)) links e y);
        few = omega (arith, o.few, ap length is);
      }

  pub onward_follows : (steps : ℕ) (rest : List Label) (links d : ℕ) (x : Label) (e : ℕ) (l : Label) → (links ≡ 0 → ⊥) → Follow e l ≡ turn_at f d x → Onward steps rest links d x → Onward (steps + 1) rest (links - 1) e l
  onward_follows steps rest zero d x e l more h o = absurd (more refl)
  onward_follows steps rest (suc n) d x e l more h o =
      let n_is : n ≡ suc n - 1 = omega arith in
      record { same = o.same ∙ ap (after steps) (walk_follows f rest (suc n) d x e l h) ∙ after_later steps (walk f rest n e l) ∙ ap (λ k. after (steps + 1) (walk f rest k e l)) n_is; few = omega (arith, o.few) }

  -- a step that is the last
  pub onward_last : (steps : ℕ) (rest : List Label) (links d : ℕ) (x : Label) (end : Reading) → walk f rest links d x ≡ end → Onward steps rest links d x → after steps end ≡ walk f tail 8 start head
  onward_last steps rest links d x end h o = sym (o.same ∙ ap (after steps) h)
