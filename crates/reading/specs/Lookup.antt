-- Reading a name: the walk over its labels from a directory. Assumes nothing.
use Rattle.std.specs.Prelude.{ℕ, zero, suc, Bool, cond, ◌&&◌, List, [], ◌∷◌, length, Some, None, Ok, Err, Option, Result, nat_le, nat_lt}
use Rattle.std.specs.List.{list_all}
use Rattle.grounds.specs.Grounds.{ground_number}
use Rattle.names.specs.declared.label.Label.{Label}
use Rattle.names.specs.declared.path.Path.{Path}
use Rattle.names.specs.Labels.{label, is_label}
pub use Rattle.names.specs.Paths.{one_label}
use Rattle.entries.specs.declared.recipe.Content.{Content}
use Rattle.entries.specs.declared.recipe.Content.TheVariants.{Absent, Node, Number, Directory, Link}
use Rattle.reading.specs.declared.lookups.Answer.{Answer}
use Rattle.reading.specs.declared.lookups.Refusal.{Refusal}
use Rattle.reading.specs.declared.lookups.Turn.{Turn}
use Rattle.reading.specs.declared.lookups.Turn.TheVariants.{Enter, Follow, End}
use Rattle.reading.specs.Shown.{Look, content_shown}

-- what a lookup answers: a content, or the number of the ground of its refusal; and the steps
pub data Reading : Type 0 where
  answer : Content → ℕ → Reading
  refused : ℕ → ℕ → Reading

-- the answer of the built lookup, as a reading
abbrev pub reading_of : Result Answer Refusal → Reading
reading_of (Ok a) = answer a.content a.steps
reading_of (Err e) = refused (ground_number e.ground) e.steps

-- the steps of a reading
abbrev pub steps_of : Reading → ℕ
steps_of (answer k n) = n
steps_of (refused g n) = n

-- the same reading with one step more
abbrev pub later : Reading → Reading
later (answer k n) = answer k (suc n)
later (refused g n) = refused g (suc n)

-- each is a label
abbrev pub all_labels : List Label → Bool
all_labels name = list_all (λ x. is_label x.number) name

-- 1 to 8, each a label
abbrev pub sound_name : List Label → Bool
sound_name name = nat_lt 0 (length name) && nat_le (length name) 8 && all_labels name

-- the path that the labels form, where they are three or fewer
abbrev pub path_of : ℕ → Label → List Label → Option Path
path_of d x [] = Some (one_label d x)
path_of d x (y ∷ []) = Some (record { directory = d; first = x; second = y; third = label 0 })
path_of d x (y ∷ z ∷ []) = Some (record { directory = d; first = x; second = y; third = z })
path_of d x (y ∷ z ∷ w ∷ more) = None

-- the content that is shown under a path, if there is the path
abbrev pub content_at : Look → Option Path → Option Content
content_at f None = None
content_at f (Some p) = content_shown f p

-- the content that is shown under the path that the labels form
abbrev pub content_of : Look → ℕ → Label → List Label → Option Content
content_of f d x rest = content_at f (path_of d x rest)

-- rule 3 where a content is shown under the labels left, and rule 4 where none is
abbrev pub answered : Option Content → Reading
answered None = refused 18 1
answered (Some k) = answer k 1

-- how a step goes on, by the content that is shown under the first label left
abbrev pub turn_of : Option Content → Turn
turn_of None = End
turn_of (Some Absent) = End
turn_of (Some Node) = End
turn_of (Some (Number n)) = End
turn_of (Some (Directory d)) = Enter d
turn_of (Some (Link d l)) = Follow d l

-- the same, by the directory and the label
abbrev pub turn_at : Look → ℕ → Label → Turn
turn_at f d x = turn_of (content_shown f (one_label d x))

-- one of three, by the turn
abbrev pub by_turn : {X : Type 0} → Turn → (ℕ → X) → (ℕ → Label → X) → X → X
by_turn (Enter d) enter follow end = enter d
by_turn (Follow d l) enter follow end = follow d l
by_turn End enter follow end = end

-- the walk at the first label left, with `rest` after it and so many links to follow; `next` goes on in a directory
abbrev pub through : Look → List Label → (ℕ → ℕ → Reading) → ℕ → ℕ → Label → Reading
through f rest next zero d x = by_turn (turn_at f d x) (λ e. next e zero) (λ e l. refused 19 1) (answered (content_of f d x rest))
through f rest next (suc n) d x = by_turn (turn_at f d x) (λ e. next e (suc n)) (λ e l. later (through f rest next n e l)) (answered (content_of f d x rest))

-- the walk over all the labels left
abbrev pub walk : Look → List Label → ℕ → ℕ → Label → Reading
walk f [] n d x = through f [] (λ e m. answer (Directory e) 1) n d x
walk f (y ∷ rest) n d x = through f (y ∷ rest) (λ e m. later (walk f rest m e y)) n d x

-- a lookup: the walk with eight links to follow, or ground 11 for a name that is not sound
abbrev pub lookup_of : Look → ℕ → List Label → Reading
lookup_of f start [] = refused 11 0
lookup_of f start (x ∷ rest) = cond (sound_name (x ∷ rest)) (walk f rest 8 start x) (refused 11 0)
