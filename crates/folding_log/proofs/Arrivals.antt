-- Paths in order of first arrival. Assumes nothing.
use Rattle.std.proofs.Common.{◌≡◌, suc, Bool, true, false, cond, not, ◌||◌, List, [], ◌∷◌, ◌++◌, Some, sym, refl, ap, ◌∙◌}
use mathlib.Core.Bool.{or-false}
use Rattle.std.proofs.lemmas.Bool.{both_ways, and_parts, or_parts, or_from, not-true}
use Rattle.std.specs.Option.{option_map}
use Rattle.names.specs.declared.path.Path.{Path}
use Rattle.names.specs.Paths.{same_path}
use Rattle.names.specs.Same.{same_sym, same_is}
use Rattle.store.specs.Meaning.{among, distinct, place_in}
use Rattle.store.specs.Joins.{among_push}
use Rattle.folding_log.specs.Slots.{with_path, with_paths}

among_swap : (qs : List Path) (p r : Path) → same_path p r ≡ true → among qs p ≡ among qs r
among_swap qs p r h = ap (among qs) (same_is p r h)

among_with_path : (qs : List Path) (q p : Path) → among (with_path qs q) p ≡ (among qs p || same_path q p)
among_with_path qs q p = go (among qs q) refl (same_path q p) refl
  where
    go : (b : Bool) → among qs q ≡ b → (s : Bool) → same_path q p ≡ s → among (cond b qs (qs ++ q ∷ [])) p ≡ (among qs p || s)
    go true h true f = sym (among_swap qs q p f) ∙ h ∙ sym (ap (λ b. b || true) (sym (among_swap qs q p f) ∙ h))
    go true h false f = sym (or-false (among qs p))
    go false h s f = among_push qs q p ∙ ap (λ b. among qs p || b) f

or_again : (a b c : Bool) → ((a || b) || c) ≡ (a || (b || c))
or_again true b c = refl
or_again false b c = refl

pub among_with_paths : (there ps : List Path) (p : Path) → among (with_paths there ps) p ≡ (among there p || among ps p)
among_with_paths there [] p = sym (or-false (among there p))
among_with_paths there (q ∷ ps) p = among_with_paths (with_path there q) ps p ∙ ap (λ b. b || among ps p) (among_with_path there q p) ∙ or_again (among there p) (same_path q p) (among ps p)

pub with_paths_append : (there xs ys : List Path) → with_paths there (xs ++ ys) ≡ with_paths (with_paths there xs) ys
with_paths_append there [] ys = refl
with_paths_append there (x ∷ xs) ys = with_paths_append (with_path there x) xs ys

place_append : (xs ys : List Path) (p : Path) → among xs p ≡ true → place_in (xs ++ ys) p ≡ place_in xs p
place_append [] ys p a = absurd (both_ways false refl a)
place_append (x ∷ xs) ys p a = go (same_path x p) (place_append xs ys p) a
  where
    go : (b : Bool) → (among xs p ≡ true → place_in (xs ++ ys) p ≡ place_in xs p) → (b || among xs p) ≡ true → cond b (Some 0) (option_map suc (place_in (xs ++ ys) p)) ≡ cond b (Some 0) (option_map suc (place_in xs p))
    go true ih a = refl
    go false ih a = ap (option_map suc) (ih a)

pub place_with_path : (xs : List Path) (q p : Path) → among xs p ≡ true → place_in (with_path xs q) p ≡ place_in xs p
place_with_path xs q p a = go (among xs q)
  where
    go : (b : Bool) → place_in (cond b xs (xs ++ q ∷ [])) p ≡ place_in xs p
    go true = refl
    go false = place_append xs (q ∷ []) p a

-- a path that stands keeps its place
pub place_with_paths : (there ps : List Path) (p : Path) → among there p ≡ true → place_in (with_paths there ps) p ≡ place_in there p
place_with_paths there [] p a = refl
place_with_paths there (q ∷ ps) p a = place_with_paths (with_path there q) ps p (among_with_path there q p ∙ ap (λ b. b || same_path q p) a) ∙ place_with_path there q p a

pub distinct_apart : (qs rs : List Path) (p : Path) → distinct (qs ++ p ∷ rs) ≡ true → among qs p ≡ false
distinct_apart [] rs p d = refl
distinct_apart (q ∷ qs) rs p d =
    let parts = and_parts (not (among (qs ++ p ∷ rs) q)) (distinct (qs ++ p ∷ rs)) d in
    or_from _ _ (go qs rs (not-true _ parts.0)) (distinct_apart qs rs p parts.1)
  where
    go : (xs ys : List Path) → among (xs ++ p ∷ ys) q ≡ false → same_path q p ≡ false
    go [] ys h = same_sym q p ∙ (or_parts (same_path p q) (among ys q) h).0
    go (x ∷ xs) ys h = go xs ys (or_parts (same_path x q) (among (xs ++ p ∷ ys) q) h).1
