-- The labels of the parts of a text, read one after another. Assumes nothing.
use Rattle.std.proofs.Common.{◌≡◌, ℕ, zero, suc, ◌<◌, ◌≤◌, cond, List, [], ◌∷◌, ◌++◌, length, get_or, Some, None, Option, sym, refl, ap, ◌∙◌, arith}
use Rattle.std.proofs.lemmas.Bool.{le-leb, lt-leb}
use Rattle.std.proofs.lemmas.Iterator.Adapters.{option_map_id}
use Rattle.std.specs.Option.{option_map, IfSome}
use Rattle.names.specs.Labels.{read_label}
use Rattle.names.specs.declared.label.Label.{Label}
use Rattle.lines.specs.Fields.{◌then◌}
use Rattle.lines.specs.Names.{all_labels, at_most}

-- one label before the others
abbrev one_before : Option Label → Option (List Label) → Option (List Label)
one_before o ls = o then (λ l. option_map (λ ms. l ∷ ms) ls)

-- some labels before the others
abbrev some_before : Option (List Label) → Option (List Label) → Option (List Label)
some_before ls ms = ls then (λ xs. option_map (λ ys. xs ++ ys) ms)

all_labels-append : (parts more : List (List ℕ)) → all_labels (parts ++ more) ≡ some_before (all_labels parts) (all_labels more)
all_labels-append [] more = sym (option_map_id (all_labels more))
all_labels-append (part ∷ parts) more = ap (one_before (read_label part)) (all_labels-append parts more) ∙ regrouped (read_label part) (all_labels parts) (all_labels more)
  where
    regrouped : (o : Option Label) (ls ms : Option (List Label)) → one_before o (some_before ls ms) ≡ some_before (one_before o ls) ms
    regrouped None ls ms = refl
    regrouped (Some l) None ms = refl
    regrouped (Some l) (Some ls) None = refl
    regrouped (Some l) (Some ls) (Some ms) = refl

all_labels-length : (parts : List (List ℕ)) → IfSome (all_labels parts) (λ ls. length ls ≡ length parts)
all_labels-length [] = refl
all_labels-length (part ∷ parts) = go (read_label part) (all_labels parts) (all_labels-length parts)
  where
    go : (o : Option Label) (ls : Option (List Label)) → IfSome ls (λ ms. length ms ≡ length parts) → IfSome (one_before o ls) (λ ms. length ms ≡ suc (length parts))
    go None ls h = tt
    go (Some l) None h = tt
    go (Some l) (Some ls) h = ap suc h

-- one part more, and it is the text of a label
pub one_more : (parts : List (List ℕ)) (part : List ℕ) (ls : List Label) (l : Label) → all_labels parts ≡ Some ls → Some l ≡ read_label part → all_labels (parts ++ part ∷ []) ≡ Some (ls ++ l ∷ [])
one_more parts part ls l h is = all_labels-append parts (part ∷ []) ∙ ap (λ o. some_before o (all_labels (part ∷ []))) h ∙ ap (λ o. some_before (Some ls) (one_before o (Some []))) (sym is)

-- a part that is not the text of a label
pub bad_part : (parts : List (List ℕ)) (i : ℕ) (part : List ℕ) → i < length parts → part ≡ get_or parts i part → None ≡ read_label part → all_labels parts ≡ None
bad_part [] i part low is none = absurd (omega (arith, low))
bad_part (first ∷ parts) zero part low is none = ap (λ o. one_before o (all_labels parts)) (ap read_label (sym is) ∙ sym none)
bad_part (first ∷ parts) (suc i) part low is none = ap (one_before (read_label first)) (bad_part parts i part (omega (arith, low)) is none) ∙ go (read_label first)
  where
    go : (o : Option Label) → one_before o None ≡ None
    go None = refl
    go (Some l) = refl

-- more parts than the limit
pub too_many : (parts : List (List ℕ)) (limit : ℕ) → limit < length parts → (all_labels parts then at_most limit) ≡ None
too_many parts limit over = go (all_labels parts) (all_labels-length parts)
  where
    go : (o : Option (List Label)) → IfSome o (λ ls. length ls ≡ length parts) → (o then at_most limit) ≡ None
    go None h = refl
    go (Some ls) h = ap (λ t. cond t (Some ls) None) (lt-leb (length ls) limit (omega (arith, h, over)))

-- all are labels, and not more than the limit
pub all_read : (parts : List (List ℕ)) (limit : ℕ) (ls : List Label) → all_labels parts ≡ Some ls → length ls ≤ limit → (all_labels parts then at_most limit) ≡ Some ls
all_read parts limit ls h few = ap (λ o. o then at_most limit) h ∙ ap (λ t. cond t (Some ls) None) (le-leb (length ls) limit few)
