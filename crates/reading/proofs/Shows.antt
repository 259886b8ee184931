-- The laws of what is shown, by which alone the other proofs use it. Assumes nothing.
use Rattle.std.proofs.Common.{◌≡◌, ℕ, zero, suc, ◌<◌, ◌≤◌, Bool, true, ◌↔◌, is_some, Some, None, Decides, Option, sym, refl, ap, ◌∙◌, arith}
use Rattle.std.specs.Option.{option_map}
use Rattle.std.proofs.lemmas.Bool.{leb-true, le-leb}
use Rattle.std.proofs.lemmas.Bool.Decides.{nat_tests}
use Rattle.std.proofs.lemmas.Grind.{common_steps}
use Rattle.names.specs.declared.path.Path.{Path}
use Rattle.names.specs.Paths.{parent_of, depth}
use Rattle.entries.specs.declared.recipe.Content.{Content}
use Rattle.entries.specs.declared.recipe.Content.TheVariants.{Absent}
use Rattle.entries.specs.declared.recipe.Recipe.{Recipe}
use Rattle.reading.specs.Shown.{Look, unless_absent, belongs, below, below_path, shown_within, shown_entry, shown, content_shown}
use Rattle.reading.specs.Rules.{Belongs, Shows, Shows.alone, Shows.under, Holds}

-- no path has more than three labels, and one of one label has no parent
depth_most : (p : Path) → depth p ≤ 3
depth_most p = grind (arith, nat_tests)

no_parent : (p : Path) → depth p ≤ 1 → parent_of p ≡ None
no_parent p h = grind (arith, nat_tests)

-- a parent has fewer labels than its path, and the same directory
parent_lower : (p q : Path) → parent_of p ≡ Some q → (depth q < depth p) × (q.directory ≡ p.directory)
parent_lower p q h = grind (arith, nat_tests)

-- what an entry was that is left, without the absent ones and below what is shown above it
present_was : (o : Option Recipe) (e : Recipe) → unless_absent o ≡ Some e → (o ≡ Some e) × (e.content ≡ Absent → ⊥)
present_was None e h = cc
present_was (Some d) e h = grind (arith, common_steps)

-- the test that the code makes says exactly what the rules say of an entry and the one above it
belongs_exactly : (above e : Recipe) → Decides (belongs above e) (Belongs above e)
belongs_exactly above e = (leb-true above.stamp e.stamp, le-leb above.stamp e.stamp)

below_was : (u o : Option Recipe) (e : Recipe) → below u o ≡ Some e → (above : Recipe) × (u ≡ Some above) × Belongs above e × (o ≡ Some e)
below_was None o e h = cc
below_was (Some above) None e h = cc
below_was (Some above) (Some d) e h = (above, refl, grind (arith, nat_tests, common_steps), grind (arith, nat_tests, common_steps))

-- looking at more parents than a path has changes nothing
within_same : (f : Look) (j k : ℕ) (p : Path) → depth p ≤ suc j → depth p ≤ suc k → shown_within j f p ≡ shown_within k f p
within_same f zero zero p a b = refl
within_same f zero (suc k) p a b = sym (ap (λ o. below_path (shown_within k f) o (unless_absent (f p))) (no_parent p a))
within_same f (suc j) zero p a b = ap (λ o. below_path (shown_within j f) o (unless_absent (f p))) (no_parent p b)
within_same f (suc j) (suc k) p a b = go (parent_of p) refl (within_same f j k)
  where
    go : (o : Option Path) → parent_of p ≡ o → ((q : Path) → depth q ≤ suc j → depth q ≤ suc k → shown_within j f q ≡ shown_within k f q) → below_path (shown_within j f) o (unless_absent (f p)) ≡ below_path (shown_within k f) o (unless_absent (f p))
    go None h ih = refl
    go (Some q) h ih = let l = (parent_lower p q h).0 in ap (λ u. below u (unless_absent (f p))) (ih q (omega arith) (omega arith))

-- an entry is shown where it is present and belongs below what its parent shows
pub shown_rule : (f : Look) (p : Path) → shown_entry f p ≡ below_path (shown_entry f) (parent_of p) (unless_absent (f p))
unfolding shown_entry
shown_rule f p = go (parent_of p) refl
  where
    go : (o : Option Path) → parent_of p ≡ o → below_path (shown_within 1 f) o (unless_absent (f p)) ≡ below_path (shown_within 2 f) o (unless_absent (f p))
    go None h = refl
    go (Some q) h = let l = (parent_lower p q h).0 in let m = depth_most p in ap (λ u. below u (unless_absent (f p))) (within_same f 1 2 q (omega arith) (omega arith))

-- what the rules show is what `shown_entry` gives, and no more
pub shows_shown : (f : Look) (p : Path) (e : Recipe) → Shows f p e → shown_entry f p ≡ Some e
shows_shown f p e (alone h live top) = let r = shown_rule f p in grind (arith, common_steps)
shows_shown f p e (under h live q up above s low) = let r = shown_rule f p in let u = shows_shown f q above s in let b = (belongs_exactly above e).1 low in grind (arith, nat_tests, common_steps)

within_shows : (f : Look) (k : ℕ) (p : Path) (e : Recipe) → depth p ≤ suc k → shown_within k f p ≡ Some e → Shows f p e
within_shows f zero p e d h = let w = present_was (f p) e h in alone w.0 w.1 (no_parent p d)
within_shows f (suc k) p e d h = go (parent_of p) refl h (within_shows f k)
  where
    go : (o : Option Path) → parent_of p ≡ o → below_path (shown_within k f) o (unless_absent (f p)) ≡ Some e → ((q : Path) (above : Recipe) → depth q ≤ suc k → shown_within k f q ≡ Some above → Shows f q above) → Shows f p e
    go None t h ih = let w = present_was (f p) e h in alone w.0 w.1 t
    go (Some q) t h ih =
        let u = below_was (shown_within k f q) (unless_absent (f p)) e h in
        let w = present_was (f p) e u.3 in
        let l = (parent_lower p q t).0 in
        under w.0 w.1 q t u.0 (ih q u.0 (omega arith) u.1) u.2

pub shown_shows : (f : Look) (p : Path) (e : Recipe) → shown_entry f p ≡ Some e → Shows f p e
unfolding shown_entry
shown_shows f p e h = within_shows f 2 p e (depth_most p) h

-- the same of contents
pub holds_shown : (f : Look) (p : Path) (k : Content) → Holds f p k → content_shown f p ≡ Some k
holds_shown f p k h = ap (option_map (λ e. e.content)) (shows_shown f p h.0 h.1) ∙ ap Some h.2

pub shown_holds : (f : Look) (p : Path) (k : Content) → content_shown f p ≡ Some k → Holds f p k
shown_holds f p k h = grind (arith, common_steps, shown_shows)

pub content_exactly : (f : Look) (p : Path) (o : Option Content) → o ≡ content_shown f p → (k : Content) → (o ≡ Some k) ↔ Holds f p k
content_exactly f p o e k = (λ q. shown_holds f p k (sym e ∙ q), λ h. e ∙ holds_shown f p k h)

-- whether anything is
pub shown_exactly : (f : Look) (p : Path) (b : Bool) → b ≡ shown f p → (b ≡ true) ↔ ((e : Recipe) × Shows f p e)
shown_exactly f p b q = (λ h. go (shown_entry f p) refl (sym q ∙ h), λ s. q ∙ ap is_some (shows_shown f p s.0 s.1))
  where
    go : (o : Option Recipe) → shown_entry f p ≡ o → is_some o ≡ true → (e : Recipe) × Shows f p e
    go None h t = cc
    go (Some e) h t = (e, shown_shows f p e h)

-- what is shown is held
pub shows_held : (f : Look) (p : Path) (e : Recipe) → Shows f p e → f p ≡ Some e
shows_held f p e (alone h live top) = h
shows_held f p e (under h live q up above s low) = h

-- what two stores hold alike outside a directory they show alike there
shows_outside : (f g : Look) (d : ℕ) → ((p : Path) → (p.directory ≡ d → ⊥) → f p ≡ g p) → (p : Path) (e : Recipe) → (p.directory ≡ d → ⊥) → Shows f p e → Shows g p e
shows_outside f g d same p e out (alone h live top) = alone (sym (same p out) ∙ h) live top
shows_outside f g d same p e out (under h live q up above s low) =
    under (sym (same p out) ∙ h) live q up above (shows_outside f g d same q above (λ x. out (sym (parent_lower p q up).1 ∙ x)) s) low

pub holds_outside : (f g : Look) (d : ℕ) → ((p : Path) → (p.directory ≡ d → ⊥) → f p ≡ g p) → (p : Path) (k : Content) → (p.directory ≡ d → ⊥) → Holds f p k → Holds g p k
holds_outside f g d same p k out h = (h.0, shows_outside f g d same p h.0 out h.1, h.2)
