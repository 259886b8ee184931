-- The fields of a line: where they stand, and their values. Assumes nothing.
use Rattle.std.specs.Prelude.{ℕ, suc, ◌+◌, Bool, cond, List, [], ◌∷◌, ◌++◌, length, take, drop, Some, None, codes, Option, ◌==◌}
use Rattle.std.specs.List.{starts_with}
use Rattle.std.specs.Option.{option_map, option_and_then}

infixl 20 ◌then◌
-- goes on with what is there; none where there is nothing
abbrev pub ◌then◌ : {A B : Type 0} → Option A → (A → Option B) → Option B
◌then◌ o f = option_and_then f o

-- how many bytes come before the first one sought; all of them where it does not occur
abbrev pub before_byte : ℕ → List ℕ → ℕ
before_byte sought [] = 0
before_byte sought (b ∷ bs) = cond (b == sought) 0 (suc (before_byte sought bs))

-- the text begins with the front
abbrev pub begins : List ℕ → List ℕ → Bool
begins front bs = starts_with ◌==◌ bs front

-- what stands before the value of a field: one space, the field's key, and the sign `=`
abbrev pub front_of : List ℕ → List ℕ
front_of key = codes " " ++ (key ++ codes "=")

-- the value, which runs to the next space or to the end, and what follows it
abbrev pub value_and_rest : List ℕ → List ℕ × List ℕ
value_and_rest bs = (take (before_byte 32 bs) bs, drop (before_byte 32 bs) bs)

-- the value after the front, and what follows the value; none where the text does not begin with the front
abbrev pub after_front : List ℕ → List ℕ → Option (List ℕ × List ℕ)
after_front front bs = cond (begins front bs) (Some (value_and_rest (drop (length front) bs))) None

-- something, where no byte is left
abbrev pub when_empty : {A : Type 0} → List ℕ → A → Option A
when_empty bs x = cond (length bs == 0) (Some x) None

-- the value after the front, where nothing follows the value
abbrev pub last_after_front : List ℕ → List ℕ → Option (List ℕ)
last_after_front front bs = after_front front bs then (λ f. when_empty f.1 f.0)

-- the values of the fields with these keys, where the text is these fields in order and nothing more
abbrev pub field_values : List (List ℕ) → List ℕ → Option (List (List ℕ))
field_values [] bs = when_empty bs []
field_values (key ∷ keys) bs = after_front (front_of key) bs then (λ f. option_map (λ vs. f.0 ∷ vs) (field_values keys f.1))

-- what stands at a place of a line, given as a start and a length, and what follows it
abbrev pub cut_at : List ℕ → ℕ × ℕ → List ℕ × List ℕ
cut_at line place = (take place.1 (drop place.0 line), drop (place.0 + place.1) line)
