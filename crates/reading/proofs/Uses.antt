-- Which pairs use a directory: the test, pair by pair, and what it tells. Assumes nothing.
use Rattle.std.proofs.Common.{◌≡◌, ℕ, Bool, false, ◌||◌, ◌↔◌, List, [], ◌∷◌, map, sym, refl, ap, ◌∙◌, arith}
use Rattle.std.specs.List.{list_any, range_with_len}
use Rattle.std.proofs.lemmas.Bool.Decides.{nat_tests}
use Rattle.names.specs.declared.path.Path.{Path}
use Rattle.entries.specs.declared.recipe.Content.{Content}
use Rattle.entries.specs.declared.recipe.Content.TheVariants.{Absent, Node, Number, Directory, Link}
use Rattle.entries.specs.declared.recipe.Recipe.{Recipe}
use Rattle.entries.specs.Recipes.{blank_recipe}
use Rattle.store.specs.Meaning.{Meaning, count_of, path_at, entry_at}
use Rattle.reading.proofs.Found.{pairs_at_places}
use Rattle.reading.specs.Growth.{names_directory, uses, used_in, Elsewhere, Unused}

-- some pair of a store uses the directory where one at some place does
list_any-map : {X Y : Type 0} (p : Y → Bool) (f : X → Y) (xs : List X) → list_any p (map f xs) ≡ list_any (λ x. p (f x)) xs
list_any-map p f [] = refl
list_any-map p f (x ∷ xs) = ap (λ b. p (f x) || b) (list_any-map p f xs)

pub used_at_places : (d : ℕ) (m : Meaning Recipe) → list_any (λ i. uses d (path_at m i, entry_at blank_recipe m i)) (range_with_len 0 (count_of m)) ≡ used_in d m.pairs
used_at_places d m = sym (ap (list_any (uses d)) (pairs_at_places blank_recipe m) ∙ list_any-map (uses d) _ (range_with_len 0 (count_of m)))

-- a content does not name the directory, and a pair does not use it
elsewhere : (d : ℕ) (k : Content) → (names_directory d k ≡ false) ↔ Elsewhere d k
elsewhere d Absent = grind (arith, nat_tests)
elsewhere d Node = grind (arith, nat_tests)
elsewhere d (Number n) = grind (arith, nat_tests)
elsewhere d (Directory e) = grind (arith, nat_tests)
elsewhere d (Link e l) = grind (arith, nat_tests)

unused_pair : (d : ℕ) (x : Path × Recipe) → (uses d x ≡ false) ↔ ((x.0.directory ≡ d → ⊥) × Elsewhere d x.1.content)
unused_pair d x = grind (arith, nat_tests, elsewhere d x.1.content)

-- and so no pair of a list does
unused : (d : ℕ) (xs : List (Path × Recipe)) → (used_in d xs ≡ false) ↔ Unused d xs
unused d [] = (λ _. tt, λ _. refl)
unused d (x ∷ xs) = grind (arith, nat_tests, unused_pair d x, unused d xs)

pub unused_exactly : (d : ℕ) (xs : List (Path × Recipe)) (r : Bool) → r ≡ used_in d xs → (r ≡ false) ↔ Unused d xs
unused_exactly d xs r e = (λ q. (unused d xs).0 (sym e ∙ q), λ u. e ∙ (unused d xs).1 u)
