-- Where a path stands in a list of paths. Assumes nothing.
use Rattle.std.proofs.Common.{◌≡◌, ℕ, zero, suc, ◌<◌, Bool, true, false, cond, not, ◌||◌, List, [], ◌∷◌, ◌++◌, length, get_or, is_some, Some, None, Option, sym, refl, ap, ◌∙◌, subst, le_of_suc-le-suc, not-suc-le-zero, arith}
use Rattle.std.proofs.lemmas.Bool.{cond-true, cond-false, both_ways, and_parts, or_parts, or_right, not-true}
use Rattle.std.specs.Option.{option_map}
use Rattle.names.specs.declared.path.Path.{Path}
use Rattle.names.specs.Paths.{same_path, no_path}
use Rattle.names.specs.Same.{same_is, same_refl}
use Rattle.store.specs.Meaning.{among, distinct, place_in}

-- a path is among them exactly where it has a place
pub among_is : (qs : List Path) (p : Path) → among qs p ≡ is_some (place_in qs p)
among_is [] p = refl
among_is (q ∷ qs) p = go (same_path q p) (place_in qs p) (among_is qs p)
  where
    go : (b : Bool) (o : Option ℕ) → among qs p ≡ is_some o → (b || among qs p) ≡ is_some (cond b (Some 0) (option_map suc o))
    go true o e = refl
    go false None e = e
    go false (Some k) e = e

-- the path stands at place k
pub record Stands (qs : List Path) (p : Path) (k : ℕ) : Type 0 where
  pub low : k < length qs
  pub here : same_path (get_or qs k no_path) p ≡ true

stands_step : (q : Path) (qs : List Path) (p : Path) → ((m : ℕ) → place_in qs p ≡ Some m → Stands qs p m) → (b : Bool) → same_path q p ≡ b → (o : Option ℕ) → place_in qs p ≡ o → (k : ℕ) → cond b (Some 0) (option_map suc o) ≡ Some k → Stands (q ∷ qs) p k
stands_step q qs p ih true h o f k e = let z : k ≡ 0 = cc in subst (λ n. Stands (q ∷ qs) p n) (sym z) (record { low = omega arith; here = h })
stands_step q qs p ih false h None f k e = absurd (both_ways false refl (ap is_some e))
stands_step q qs p ih false h (Some m) f k e =
    let z : k ≡ suc m = cc in
    let s = ih m f in
    subst (λ n. Stands (q ∷ qs) p n) (sym z) (record { low = omega (arith, s.low); here = s.here })

pub place_stands : (qs : List Path) (p : Path) (k : ℕ) → place_in qs p ≡ Some k → Stands qs p k
place_stands [] p k e = absurd (both_ways false refl (ap is_some e))
place_stands (q ∷ qs) p k e = stands_step q qs p (place_stands qs p) (same_path q p) refl (place_in qs p) refl k e

-- an answer that is not some place is none
pub none_is : (o : Option ℕ) → is_some o ≡ false → o ≡ None
none_is None h = refl
none_is (Some k) h = absurd (both_ways true h refl)

-- a new path added at the end stands there
pub place_push : (xs : List Path) (p : Path) → among xs p ≡ false → place_in (xs ++ p ∷ []) p ≡ Some (length xs)
place_push [] p a = cond-true _ _ _ (same_refl p)
place_push (x ∷ xs) p a =
    let apart = or_parts (same_path x p) (among xs p) a in
    cond-false _ _ _ apart.0 ∙ ap (option_map suc) (place_push xs p apart.1)

-- every other path stands where it stood
pub place_push_other : (qs : List Path) (p q : Path) → same_path p q ≡ false → place_in (qs ++ p ∷ []) q ≡ place_in qs q
place_push_other [] p q h = cond-false _ _ _ h
place_push_other (r ∷ qs) p q h = ap (λ o. cond (same_path r q) (Some 0) (option_map suc o)) (place_push_other qs p q h)

-- a path that is read at a place is among them
pub among_here : (qs : List Path) (k : ℕ) → k < length qs → among qs (get_or qs k no_path) ≡ true
among_here [] k lt = absurd (not-suc-le-zero lt)
among_here (q ∷ qs) zero lt = ap (λ b. b || among qs q) (same_refl q)
among_here (q ∷ qs) (suc k) lt = or_right (same_path q (get_or qs k no_path)) (among qs (get_or qs k no_path)) (among_here qs k (le_of_suc-le-suc lt))

-- where no path comes twice, each has its own place
pub place_own : (qs : List Path) (k : ℕ) → distinct qs ≡ true → k < length qs → place_in qs (get_or qs k no_path) ≡ Some k
place_own [] k d lt = absurd (not-suc-le-zero lt)
place_own (q ∷ qs) zero d lt = cond-true _ _ _ (same_refl q)
place_own (q ∷ qs) (suc k) d lt =
    let parts = and_parts (not (among qs q)) (distinct qs) d in
    let p = get_or qs k no_path in
    let apart : same_path q p ≡ false = go (same_path q p) refl (not-true _ parts.0) in
    cond-false _ _ _ apart ∙ ap (option_map suc) (place_own qs k parts.1 (le_of_suc-le-suc lt))
  where
    go : (b : Bool) → same_path q (get_or qs k no_path) ≡ b → among qs q ≡ false → b ≡ false
    go true h a = absurd (both_ways (among qs q) a (ap (among qs) (same_is q (get_or qs k no_path) h) ∙ among_here qs k (le_of_suc-le-suc lt)))
    go false h a = refl
