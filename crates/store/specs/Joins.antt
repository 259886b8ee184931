-- What a join does to the paths of a list of pairs: none comes twice. Assumes nothing.
use Rattle.std.specs.Prelude.{◌≡◌, suc, Bool, true, false, cond, not, ◌||◌, List, [], ◌∷◌, ◌++◌, length, refl}
use Rattle.std.proofs.Common.{ap, ◌∙◌}
use Rattle.std.proofs.Math.Bool.{or-false}
use Rattle.std.proofs.lemmas.Bool.{and_parts, and_from, or_parts, or_from, not-true}
use Rattle.names.specs.declared.path.Path.{Path}
use Rattle.names.specs.Paths.{same_path}
use Rattle.names.specs.Same.{same_sym}
use Rattle.store.specs.Meaning.{paths_of, among, distinct, join_pairs}

or_again : (a b c : Bool) → (a || (b || c)) ≡ ((a || b) || c)
or_again true b c = refl
or_again false b c = refl

-- one path more at the end
pub among_push : (qs : List Path) (r p : Path) → among (qs ++ r ∷ []) p ≡ (among qs p || same_path r p)
among_push [] r p = or-false (same_path r p)
among_push (q ∷ qs) r p = ap (λ b. same_path q p || b) (among_push qs r p) ∙ or_again (same_path q p) (among qs p) (same_path r p)

pub distinct_push : (qs : List Path) (p : Path) → distinct qs ≡ true → among qs p ≡ false → distinct (qs ++ p ∷ []) ≡ true
distinct_push [] p d a = refl
distinct_push (q ∷ qs) p d a =
    let parts = and_parts _ _ d in
    let apart = or_parts (same_path q p) (among qs p) a in
    let ih = distinct_push qs p parts.1 apart.1 in
    let no' : among (qs ++ p ∷ []) q ≡ false = among_push qs p q ∙ or_from _ _ (not-true _ parts.0) (same_sym p q ∙ apart.0) in
    and_from _ _ (ap not no') ih

module _ {K : Type 0} where
  pub length_paths : (ps : List (Path × K)) → length (paths_of ps) ≡ length ps
  length_paths [] = refl
  length_paths (x ∷ xs) = ap suc (length_paths xs)

  -- the paths after a join
  pub join_paths : (join : K → K → K) (ps : List (Path × K)) (p : Path) (e : K) → paths_of (join_pairs join ps p e) ≡ cond (among (paths_of ps) p) (paths_of ps) (paths_of ps ++ p ∷ [])
  join_paths join [] p e = refl
  join_paths join (y ∷ ys) p e = go (same_path y.0 p) (among (paths_of ys) p) (join_paths join ys p e)
    where
      go : (b a : Bool) → paths_of (join_pairs join ys p e) ≡ cond a (paths_of ys) (paths_of ys ++ p ∷ []) → paths_of (cond b ((y.0, join y.1 e) ∷ ys) (y ∷ join_pairs join ys p e)) ≡ cond (b || a) (y.0 ∷ paths_of ys) (y.0 ∷ (paths_of ys ++ p ∷ []))
      go true a ih = refl
      go false true ih = ap (λ zs. y.0 ∷ zs) ih
      go false false ih = ap (λ zs. y.0 ∷ zs) ih

  pub join_distinct : (join : K → K → K) (ps : List (Path × K)) (p : Path) (e : K) → distinct (paths_of ps) ≡ true → distinct (paths_of (join_pairs join ps p e)) ≡ true
  join_distinct join ps p e d = ap distinct (join_paths join ps p e) ∙ go (among (paths_of ps) p) refl
    where
      go : (b : Bool) → among (paths_of ps) p ≡ b → distinct (cond b (paths_of ps) (paths_of ps ++ p ∷ [])) ≡ true
      go true f = d
      go false f = distinct_push (paths_of ps) p d f
