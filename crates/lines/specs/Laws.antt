-- Lines in plain words: when fields, numbers, labels and lines are read. Assumes nothing.
use Rattle.std.specs.Prelude.{◌≡◌, ℕ, ◌^◌, ◌<◌, ◌≤◌, ◌↔◌, List, [], ◌∷◌, ◌++◌, length, Some, codes, decimal, ◌≢◌}
use Rattle.names.specs.Labels.{read_label}
use Rattle.names.specs.declared.label.Label.{Label}
use Rattle.lines.specs.Asked.{Asked, asked_form, asked_by}
use Rattle.lines.specs.Fields.{field_values}
use Rattle.lines.specs.Names.{joined_labels}
use Rattle.lines.specs.Numbers.{read_number}

-- no byte is a space
abbrev pub NoSpace : List ℕ → Type 0
NoSpace [] = Unit {0}
NoSpace (b ∷ bs) = (b ≢ 32) × NoSpace bs

-- the text is, for each key in order, one space, the key, `=` and its value, which has no space; and nothing more
abbrev pub InOrder : List (List ℕ) → List (List ℕ) → List ℕ → Type 0
InOrder [] [] text = text ≡ []
InOrder [] (value ∷ values) text = ⊥
InOrder (key ∷ keys) [] text = ⊥
InOrder (key ∷ keys) (value ∷ values) text =
    NoSpace value × ((rest : List ℕ) × (text ≡ codes " " ++ (key ++ (codes "=" ++ (value ++ rest)))) × InOrder keys values rest)

-- the values of fields are read exactly from the text in which they stand in order
abbrev pub FieldsInOrder : Type 0
FieldsInOrder = (keys values : List (List ℕ)) (text : List ℕ) → (field_values keys text ≡ Some values) ↔ InOrder keys values text

-- a line asks for something exactly when it is `op=`, a letter, and fields of which the letter's form asks for it
abbrev pub LettersPick : Type 0
LettersPick = (line : List ℕ) (asked : Asked) → (asked_by line ≡ Some asked) ↔ ((form : ℕ) × ((fields : List ℕ) × (line ≡ codes "op=" ++ (form ∷ fields)) × (asked_form form fields ≡ Some asked)))

-- a text reads to a number exactly when it is the number in decimal, and the number is below 2^32
abbrev pub NumbersInDecimal : Type 0
NumbersInDecimal = (text : List ℕ) (n : ℕ) → (read_number text ≡ Some n) ↔ ((text ≡ decimal n) × (n < 2 ^ 32))

-- the labels stand in the text in order, joined by slashes: one at least
abbrev pub Joined : List Label → List ℕ → Type 0
Joined [] text = ⊥
Joined (l ∷ []) text = read_label text ≡ Some l
Joined (l ∷ (m ∷ ls)) text = (first : List ℕ) × ((rest : List ℕ) × (text ≡ first ++ (codes "/" ++ rest)) × (read_label first ≡ Some l) × Joined (m ∷ ls) rest)

-- labels are read exactly from the text that joins them by slashes, and only up to the limit
abbrev pub LabelsJoined : Type 0
LabelsJoined = (limit : ℕ) (text : List ℕ) (ls : List Label) → (joined_labels limit text ≡ Some ls) ↔ (Joined ls text × (length ls ≤ limit))
