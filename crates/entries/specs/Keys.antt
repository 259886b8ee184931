-- The order of keys is total, and a key belongs to one entry, so the join of recipe entries keeps its laws. Assumes nothing.
use Rattle.std.specs.Prelude.{◌≡◌, ℕ, zero, suc, Bool, true, false, cond, List, [], ◌∷◌, slice_index, refl}
use Rattle.std.proofs.Common.{sym, ap, ◌∙◌, arith}
use Rattle.std.proofs.lemmas.Bool.Decides.{nat_tests}
use Rattle.std.proofs.lemmas.Bool.{cond-true, cond-false, both_ways}
use Rattle.entries.specs.declared.recipe.Content.{Content}
use Rattle.entries.specs.declared.recipe.Content.TheVariants.{Absent, Node, Number, Directory, Link}
use Rattle.entries.specs.declared.recipe.Recipe.{Recipe}
use Rattle.entries.specs.Recipes.{values_of, key, later, join_recipes}

later_asym : (x y : List ℕ) → later x y ≡ true → later y x ≡ false
later_asym [] [] h = refl
later_asym [] (y ∷ ys) h = refl
later_asym (x ∷ xs) [] h = sym h
later_asym (x ∷ xs) (y ∷ ys) h = let ih = later_asym xs ys in grind (arith, nat_tests, ih)

later_tied : (x y : List ℕ) → later x y ≡ false → later y x ≡ false → x ≡ y
later_tied [] [] h k = refl
later_tied [] (y ∷ ys) h k = absurd (both_ways true h refl)
later_tied (x ∷ xs) [] h k = absurd (both_ways true k refl)
later_tied (x ∷ xs) (y ∷ ys) h k =
    let e : x ≡ y = grind (arith, nat_tests) in
    let l : later xs ys ≡ false = grind (arith, nat_tests) in
    let m : later ys xs ≡ false = grind (arith, nat_tests) in
    let t = later_tied xs ys l m in cc

later_trans : (x y z : List ℕ) → later x y ≡ true → later y z ≡ true → later x z ≡ true
later_trans [] [] z h k = k
later_trans [] (y ∷ ys) [] h k = absurd (both_ways false refl k)
later_trans [] (y ∷ ys) (z ∷ zs) h k = refl
later_trans (x ∷ xs) [] z h k = absurd (both_ways false refl h)
later_trans (x ∷ xs) (y ∷ ys) [] h k = k
later_trans (x ∷ xs) (y ∷ ys) (z ∷ zs) h k = let ih = later_trans xs ys zs in grind (arith, nat_tests, ih)

later_not : (x y z : List ℕ) → later x y ≡ false → later y z ≡ false → later x z ≡ false
later_not [] [] z h k = k
later_not [] (y ∷ ys) z h k = absurd (both_ways true h refl)
later_not (x ∷ xs) [] [] h k = refl
later_not (x ∷ xs) [] (z ∷ zs) h k = absurd (both_ways true k refl)
later_not (x ∷ xs) (y ∷ ys) [] h k = refl
later_not (x ∷ xs) (y ∷ ys) (z ∷ zs) h k = let ih = later_not xs ys zs in grind (arith, nat_tests, ih)

-- the content with a mark and values
abbrev build : ℕ → ℕ → ℕ → Content
build zero n l = Absent
build (suc zero) n l = Node
build (suc (suc zero)) n l = Number n
build (suc (suc (suc zero))) n l = Directory n
build (suc (suc (suc (suc m)))) n l = Link n (record { number = l })

built : (c : Content) → build (values_of c).0 (values_of c).1 (values_of c).2 ≡ c
built Absent = refl
built Node = refl
built (Number n) = refl
built (Directory d) = refl
built (Link d l) = refl

-- the entry with a key
abbrev unkey : List ℕ → Recipe
unkey xs = record { stamp = slice_index xs 0; content = build (slice_index xs 1) (slice_index xs 2) (slice_index xs 3) }

unkeyed : (r : Recipe) → unkey (key r) ≡ r
unkeyed r = ap (λ c. record { stamp = r.stamp; content = c }) (built r.content)

key_one : (a b : Recipe) → key a ≡ key b → a ≡ b
key_one a b e = sym (unkeyed a) ∙ ap unkey e ∙ unkeyed b

pub recipes_commute : (a b : Recipe) → join_recipes a b ≡ join_recipes b a
recipes_commute a b = go (later (key a) (key b)) (later (key b) (key a)) refl refl
  where
    go : (s t : Bool) → later (key a) (key b) ≡ s → later (key b) (key a) ≡ t → cond s b a ≡ cond t a b
    go true true p q = absurd (both_ways true (sym q ∙ later_asym (key a) (key b) p) refl)
    go true false p q = refl
    go false true p q = refl
    go false false p q = key_one a b (later_tied (key a) (key b) p q)

pub recipes_associate : (a b c : Recipe) → join_recipes (join_recipes a b) c ≡ join_recipes a (join_recipes b c)
recipes_associate a b c = go (later (key a) (key b)) (later (key b) (key c)) refl refl
  where
    go : (s t : Bool) → later (key a) (key b) ≡ s → later (key b) (key c) ≡ t → join_recipes (cond s b a) c ≡ join_recipes a (cond t c b)
    go true true p q = cond-true _ _ _ q ∙ sym (cond-true _ _ _ (later_trans (key a) (key b) (key c) p q))
    go true false p q = cond-false _ _ _ q ∙ sym (cond-true _ _ _ p)
    go false true p q = refl
    go false false p q = cond-false _ _ _ (later_not (key a) (key b) (key c) p q) ∙ sym (cond-false _ _ _ p)
