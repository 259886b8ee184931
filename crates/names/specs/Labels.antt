-- What a label is: as the bytes of its text, and as the number that it is kept as. Assumes nothing.
use Rattle.std.specs.Prelude.{ℕ, zero, suc, ◌+◌, ◌*◌, ◌/◌, ◌%◌, Bool, true, false, cond, ◌&&◌, ◌||◌, List, [], ◌∷◌, length, Some, None, codes, Option, ◌==◌, nat_le, nat_lt}
use Rattle.std.specs.List.{list_all}
use Rattle.std.specs.Option.{unwrap_or}
use Rattle.names.specs.declared.label.Label.{Label}

-- the label that is kept as a number
abbrev pub label : ℕ → Label
label n = record { number = n }

-- a to z, 0 to 9 and the hyphen
abbrev pub label_byte : ℕ → Bool
label_byte b = (nat_le 97 b && nat_le b 122) || (nat_le 48 b && nat_le b 57) || b == 45

-- the same, shut: a proof opens it where it has to
unfoldable pub legal : ℕ → Bool
legal b = label_byte b

-- each byte is legal
abbrev pub all_legal : List ℕ → Bool
all_legal bs = list_all legal bs

-- 1 to 8
abbrev pub label_length : ℕ → Bool
label_length n = nat_lt 0 n && nat_le n 8

-- 1 to 8 legal bytes
abbrev pub label_text : List ℕ → Bool
label_text bs = label_length (length bs) && all_legal bs

-- n, then k bytes of the text, the first highest, and zeros where it has no more
abbrev pub packed : ℕ → ℕ → List ℕ → ℕ
packed n zero bs = n
packed n (suc k) [] = packed (n * 256) k []
packed n (suc k) (b ∷ bs) = packed (n * 256 + b) k bs

-- the label that a text reads to
abbrev pub read_label : List ℕ → Option Label
read_label bs = cond (label_text bs) (Some (label (packed 0 8 bs))) None

-- the label that a text reads to, and no label where it reads to none
abbrev pub label_or_none : List ℕ → Label
label_or_none bs = unwrap_or (read_label bs) (label 0)

-- a label was read, and it is the one that is kept as a number
abbrev pub is_read : Option Label → ℕ → Bool
is_read None n = false
is_read (Some l) n = l.number == n

-- the eight bytes of a number, the highest first
abbrev pub eight : ℕ → List ℕ
eight n = (n / 72057594037927936 % 256) ∷ (n / 281474976710656 % 256) ∷ (n / 1099511627776 % 256) ∷ (n / 4294967296 % 256) ∷ (n / 16777216 % 256) ∷ (n / 65536 % 256) ∷ (n / 256 % 256) ∷ (n % 256) ∷ []

-- legal bytes, then zeros alone; the flag says whether the zeros have begun
abbrev pub padded : Bool → List ℕ → Bool
padded ended [] = true
padded true (b ∷ bs) = b == 0 && padded true bs
padded false (b ∷ bs) = cond (b == 0) (padded true bs) (legal b && padded false bs)

-- the number's bytes are one legal byte or more, then zeros
unfoldable pub is_label : ℕ → Bool
is_label n = legal (n / 72057594037927936 % 256) && padded false (eight n)

-- the bytes before the first zero
abbrev pub until_zero : List ℕ → List ℕ
until_zero [] = []
until_zero (b ∷ bs) = cond (b == 0) [] (b ∷ until_zero bs)

-- the text that a number stands for: its eight bytes up to the first zero
abbrev pub text_of : ℕ → List ℕ
text_of n = until_zero (eight n)

-- how a number is shown: a label as its text, and any other number as `?`
abbrev pub shown_label : ℕ → List ℕ
shown_label n = cond (is_label n) (text_of n) (codes "?")
