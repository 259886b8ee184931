-- A recipe entry: what its content says, the key that its join compares, and its soundness. Assumes nothing.
use Rattle.std.specs.Prelude.{ℕ, ◌^◌, Bool, true, false, cond, ◌&&◌, List, [], ◌∷◌, ◌==◌, nat_lt}
use Rattle.std.specs.declared.cmp.Ordering.{Ordering}
use Rattle.std.specs.Ordering.{nat_cmp}
use Rattle.std.specs.Cmp.Lexicographic.{slice_cmp}
use Rattle.entries.specs.declared.recipe.Content.{Content}
use Rattle.entries.specs.declared.recipe.Content.TheVariants.{Absent, Node, Number, Directory, Link}
use Rattle.entries.specs.declared.recipe.Recipe.{Recipe}
use Rattle.names.specs.Labels.{is_label}

-- a content by its mark, its number or directory, and the number of its label; a missing field counts as 0
abbrev pub values_of : Content → ℕ × ℕ × ℕ
values_of Absent = (0, 0, 0)
values_of Node = (1, 0, 0)
values_of (Number n) = (2, n, 0)
values_of (Directory d) = (3, d, 0)
values_of (Link d l) = (4, d, l.number)

-- what a join compares, in this order
abbrev pub key : Recipe → List ℕ
key r = r.stamp ∷ (values_of r.content).0 ∷ (values_of r.content).1 ∷ (values_of r.content).2 ∷ []

-- the second list is the greater, by the first number in which the two differ
abbrev pub later : List ℕ → List ℕ → Bool
later [] [] = false
later [] (y ∷ ys) = true
later (x ∷ xs) [] = false
later (x ∷ xs) (y ∷ ys) = cond (x == y) (later xs ys) (nat_lt x y)

-- how two entries compare: by their keys, number by number
abbrev pub order_of_entries : Recipe → Recipe → Ordering
order_of_entries a b = slice_cmp nat_cmp (key a) (key b)

-- the blank entry: absent, stamped 0
abbrev pub blank_recipe : Recipe
blank_recipe = record { stamp = 0; content = Absent }

-- the greater of the two by their keys
abbrev pub join_recipes : Recipe → Recipe → Recipe
join_recipes a b = cond (later (key a) (key b)) b a

-- the stamp of an entry
abbrev pub stamp_of : Recipe → ℕ
stamp_of r = r.stamp

-- a link's label is a label
abbrev pub sound_content : Content → Bool
sound_content Absent = true
sound_content Node = true
sound_content (Number n) = true
sound_content (Directory d) = true
sound_content (Link d l) = is_label l.number

-- the stamp is below its limit, and a link has a label
abbrev pub sound_recipe : Recipe → Bool
sound_recipe r = nat_lt r.stamp (2 ^ 40) && sound_content r.content
