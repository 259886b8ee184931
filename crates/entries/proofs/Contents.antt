-- The derived order of contents goes by marks and values, and the greater of two entries is their join. Assumes nothing.
use Rattle.std.proofs.Common.{◌≡◌, ℕ, arith, cond, eqb, ltb, refl, ap, ◌∙◌, List, [], ◌∷◌}
use Rattle.std.proofs.lemmas.Bool.Decides.{nat_tests}
use Rattle.std.specs.declared.cmp.Ordering.{Ordering}
use Rattle.std.specs.declared.cmp.Ordering.TheVariants.{Less, Equal, Greater}
use Rattle.std.specs.Ordering.{ordering_then, nat_cmp, is_lt, ord_max}
use Rattle.std.specs.Cmp.Lexicographic.{slice_cmp}
use Rattle.entries.specs.declared.recipe.Content.{Content}
use Rattle.entries.specs.declared.recipe.Content.TheVariants.{Absent, Node, Number, Directory, Link}
use Rattle.entries.specs.contracts.recipe.ContentOrd.TheImpl.{ghosts as content_order}
use Rattle.entries.specs.contracts.recipe.RecipeOrd.TheImpl.{ghosts as recipe_order}
use Rattle.entries.specs.declared.recipe.Recipe.{Recipe}
use Rattle.entries.specs.Recipes.{values_of, key, later, order_of_entries, join_recipes}
use Rattle.entries.specs.Keys.{recipes_commute}

-- the marks and values of a content, in order
abbrev listed : Content → List ℕ
listed c = (values_of c).0 ∷ (values_of c).1 ∷ (values_of c).2 ∷ []

then_equal : (o : Ordering) → o ≡ ordering_then o Equal
then_equal Less = refl
then_equal Equal = refl
then_equal Greater = refl

pub by_values : (x y : Content) → content_order.cmp x y ≡ slice_cmp nat_cmp (listed x) (listed y)
by_values Absent Absent = refl
by_values Absent Node = refl
by_values Absent (Number m) = refl
by_values Absent (Directory m) = refl
by_values Absent (Link m k) = refl
by_values Node Absent = refl
by_values Node Node = refl
by_values Node (Number m) = refl
by_values Node (Directory m) = refl
by_values Node (Link m k) = refl
by_values (Number n) Absent = refl
by_values (Number n) Node = refl
by_values (Number n) (Number m) = then_equal (nat_cmp n m)
by_values (Number n) (Directory m) = refl
by_values (Number n) (Link m k) = refl
by_values (Directory n) Absent = refl
by_values (Directory n) Node = refl
by_values (Directory n) (Number m) = refl
by_values (Directory n) (Directory m) = then_equal (nat_cmp n m)
by_values (Directory n) (Link m k) = refl
by_values (Link n l) Absent = refl
by_values (Link n l) Node = refl
by_values (Link n l) (Number m) = refl
by_values (Link n l) (Directory m) = refl
by_values (Link n l) (Link m k) = ap (ordering_then (nat_cmp n m)) (then_equal (nat_cmp l.number k.number))

pub by_keys : (a b : Recipe) → recipe_order.cmp a b ≡ order_of_entries a b
by_keys a b = ap (ordering_then (nat_cmp a.stamp b.stamp)) (by_values a.content b.content)

-- a list is the lesser exactly when the other is the later
lesser : (xs ys : List ℕ) → is_lt (slice_cmp nat_cmp xs ys) ≡ later xs ys
lesser [] [] = refl
lesser [] (y ∷ ys) = refl
lesser (x ∷ xs) [] = refl
lesser (x ∷ xs) (y ∷ ys) = go (nat_cmp x y) refl (lesser xs ys)
  where
    go : (o : Ordering) → nat_cmp x y ≡ o → is_lt (slice_cmp nat_cmp xs ys) ≡ later xs ys → is_lt (ordering_then o (slice_cmp nat_cmp xs ys)) ≡ cond (eqb x y) (later xs ys) (ltb x y)
    go Less e ih = grind (arith, nat_tests)
    go Equal e ih = grind (arith, nat_tests)
    go Greater e ih = grind (arith, nat_tests)

-- the greater of two entries is their join
pub greater_is_join : (a b : Recipe) → ord_max recipe_order.cmp a b ≡ join_recipes a b
greater_is_join a b = ap (λ l. cond l a b) (ap is_lt (by_keys b a) ∙ lesser (key b) (key a)) ∙ recipes_commute b a
