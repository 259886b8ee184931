-- The rules of reading a name give each name one reading, and the walk gives it. Assumes nothing.
use Rattle.std.proofs.Common.{◌≡◌, ℕ, zero, suc, List, [], ◌∷◌, Some, None, Option, sym, refl, ap, ◌∙◌, subst}
use Rattle.std.proofs.lemmas.Bool.{cond-true}
use Rattle.std.proofs.lemmas.Option.{same_Some}
use Rattle.names.specs.declared.label.Label.{Label}
use Rattle.names.specs.declared.path.Path.{Path}
use Rattle.entries.specs.declared.recipe.Content.{Content}
use Rattle.entries.specs.declared.recipe.Content.TheVariants.{Absent, Node, Number, Directory, Link}
use Rattle.reading.specs.declared.lookups.Turn.TheVariants.{Enter, Follow, End}
use Rattle.reading.specs.Shown.{Look, content_shown}
use Rattle.reading.specs.Lookup.{Reading, Reading.refused, later, one_label, path_of, content_at, content_of, answered, turn_of, turn_at, walk, lookup_of}
use Rattle.reading.specs.Rules.{Holds, Plain, Reads, Reads.arrives, Reads.enters, Reads.follows, Reads.stops, Reads.stands, Reads.nothing, Exactly}
use Rattle.reading.proofs.Found.{none_when}
use Rattle.reading.proofs.Shows.{holds_shown, shown_holds}
use Rattle.reading.proofs.Walks.{entered, followed, walk_enters, walk_follows, walk_ends}

-- the turn at the first label, by what is shown there
pub enter_turn : (f : Look) (d : ℕ) (x : Label) (e : ℕ) → Holds f (one_label d x) (Directory e) → Enter e ≡ turn_at f d x
enter_turn f d x e h = sym (ap turn_of (holds_shown f (one_label d x) (Directory e) h))

follow_turn : (f : Look) (d : ℕ) (x : Label) (e : ℕ) (l : Label) → Holds f (one_label d x) (Link e l) → Follow e l ≡ turn_at f d x
follow_turn f d x e l h = sym (ap turn_of (holds_shown f (one_label d x) (Link e l) h))

end_turn : (f : Look) (d : ℕ) (x : Label) → Plain f d x → End ≡ turn_at f d x
end_turn f d x plain = go (content_shown f (one_label d x)) refl
  where
    go : (o : Option Content) → content_shown f (one_label d x) ≡ o → End ≡ turn_of o
    go None q = refl
    go (Some Absent) q = refl
    go (Some Node) q = refl
    go (Some (Number n)) q = refl
    go (Some (Directory e)) q = absurd (plain.0 e (shown_holds f (one_label d x) (Directory e) q))
    go (Some (Link e l)) q = absurd (plain.1 e l (shown_holds f (one_label d x) (Link e l) q))

-- nothing is shown under the labels left
nothing_shown : (f : Look) (o : Option Path) → ((p : Path) (k : Content) → o ≡ Some p → Holds f p k → ⊥) → content_at f o ≡ None
nothing_shown f None none = refl
nothing_shown f (Some p) none = none_when (content_shown f p) (λ k q. none p k refl (shown_holds f p k q))

-- the walk over a name; no rule reads a name without a label
abbrev walk_name : Look → ℕ → ℕ → List Label → Reading
walk_name f n d [] = refused 11 0
walk_name f n d (x ∷ rest) = walk f rest n d x

-- a reading by the rules is the walk's
pub reads_walk : (f : Look) {n d : ℕ} {name : List Label} {r : Reading} → Reads f n d name r → walk_name f n d name ≡ r
reads_walk f (arrives {n} {d} {x} e h) = walk_enters f [] n d x e (enter_turn f d x e h)
reads_walk f (enters {n} {d} {x} {y} {rest} {r} e h s) = walk_enters f (y ∷ rest) n d x e (enter_turn f d x e h) ∙ ap later (reads_walk f s)
reads_walk f (follows {n} {d} {x} {rest} {r} e l h s) = walk_follows f rest (suc n) d x e l (follow_turn f d x e l h) ∙ ap later (reads_walk f s)
reads_walk f (stops {d} {x} {rest} e l h) = walk_follows f rest zero d x e l (follow_turn f d x e l h)
reads_walk f (stands {n} {d} {x} {rest} {k} plain p q h) = walk_ends f rest n d x (end_turn f d x plain) ∙ ap (λ o. answered (content_at f o)) q ∙ ap answered (holds_shown f p k h)
reads_walk f (nothing {n} {d} {x} {rest} plain none) = walk_ends f rest n d x (end_turn f d x plain) ∙ ap answered (nothing_shown f (path_of d x rest) none)

-- a turn that ends the walk shows neither a directory nor a link
turn_plain : (f : Look) (d : ℕ) (x : Label) → End ≡ turn_at f d x → Plain f d x
turn_plain f d x t =
    (λ e h. let s = enter_turn f d x e h in cc, λ e l h. let s = follow_turn f d x e l h in cc)

-- and then rule 3 or rule 4 gives the reading
ends_reads : (f : Look) (n d : ℕ) (x : Label) (rest : List Label) → Plain f d x → Reads f n d (x ∷ rest) (answered (content_of f d x rest))
ends_reads f n d x rest plain = at (path_of d x rest) refl
  where
    under : (p : Path) → path_of d x rest ≡ Some p → (o : Option Content) → content_shown f p ≡ o → Reads f n d (x ∷ rest) (answered o)
    under p q None h = nothing plain (λ p' k q' s. let same = same_Some p p' (sym q ∙ q') in let held = holds_shown f p' k s in cc)
    under p q (Some k) h = stands plain p q (shown_holds f p k h)

    at : (o : Option Path) → path_of d x rest ≡ o → Reads f n d (x ∷ rest) (answered (content_at f o))
    at None q = nothing plain (λ p k q' s. cc)
    at (Some p) q = under p q (content_shown f p) refl

-- the walk is a reading by the rules, if it is one in a directory and along a link
turn_reads : (f : Look) (rest : List Label) (n d : ℕ) (x : Label) → ((e : ℕ) → Holds f (one_label d x) (Directory e) → Reads f n d (x ∷ rest) (entered f rest n e)) → ((e : ℕ) (l : Label) → Holds f (one_label d x) (Link e l) → Reads f n d (x ∷ rest) (followed f rest n e l)) → Reads f n d (x ∷ rest) (walk f rest n d x)
turn_reads f rest n d x enter follow = go (content_shown f (one_label d x)) refl
  where
    end : End ≡ turn_at f d x → Reads f n d (x ∷ rest) (walk f rest n d x)
    end t = subst (Reads f n d (x ∷ rest)) (sym (walk_ends f rest n d x t)) (ends_reads f n d x rest (turn_plain f d x t))

    go : (o : Option Content) → content_shown f (one_label d x) ≡ o → Reads f n d (x ∷ rest) (walk f rest n d x)
    go None q = end (sym (ap turn_of q))
    go (Some Absent) q = end (sym (ap turn_of q))
    go (Some Node) q = end (sym (ap turn_of q))
    go (Some (Number m)) q = end (sym (ap turn_of q))
    go (Some (Directory e)) q = subst (Reads f n d (x ∷ rest)) (sym (walk_enters f rest n d x e (sym (ap turn_of q)))) (enter e (shown_holds f (one_label d x) (Directory e) q))
    go (Some (Link e l)) q = subst (Reads f n d (x ∷ rest)) (sym (walk_follows f rest n d x e l (sym (ap turn_of q)))) (follow e l (shown_holds f (one_label d x) (Link e l) q))

-- so it is one with each number of links to follow, and over each name
links_read : (f : Look) (rest : List Label) → ((n d : ℕ) (x : Label) (e : ℕ) → Holds f (one_label d x) (Directory e) → Reads f n d (x ∷ rest) (entered f rest n e)) → (n d : ℕ) (x : Label) → Reads f n d (x ∷ rest) (walk f rest n d x)
links_read f rest enter zero d x = turn_reads f rest zero d x (enter zero d x) (λ e l h. stops e l h)
links_read f rest enter (suc n) d x = turn_reads f rest (suc n) d x (enter (suc n) d x) (λ e l h. follows e l h (links_read f rest enter n e l))

pub walk_reads : (f : Look) (rest : List Label) (n d : ℕ) (x : Label) → Reads f n d (x ∷ rest) (walk f rest n d x)
walk_reads f [] n d x = links_read f [] (λ n d x e h. arrives e h) n d x
walk_reads f (y ∷ rest) n d x = links_read f (y ∷ rest) (λ n d x e h. enters e h (walk_reads f rest n e y)) n d x

-- so the lookup of a sound name answers what the rules give, and nothing else
pub exactly : (f : Look) (start : ℕ) (name : List Label) (r : Reading) → r ≡ lookup_of f start name → Exactly f start name r
exactly f start [] r e sound s = cc
exactly f start (x ∷ rest) r e sound s =
    let w : r ≡ walk f rest 8 start x = e ∙ cond-true _ _ _ sound in
    (λ q. subst (Reads f 8 start (x ∷ rest)) (sym w ∙ q) (walk_reads f rest 8 start x), λ t. w ∙ reads_walk f t)
