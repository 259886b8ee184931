-- What a post says: its content as a text. Assumes nothing.
use Rattle.std.specs.Prelude.{ℕ, ◌+◌, cond, List, [], ◌∷◌, take, drop, Some, None, codes, Option, ◌==◌, slice_index, position}
use Prim.Native.String.{String}
use Rattle.entries.specs.declared.recipe.Content.{Content}
use Rattle.entries.specs.declared.recipe.Content.TheVariants.{Absent, Node, Number, Directory, Link}
use Rattle.std.specs.Option.{option_map}
use Rattle.lines.specs.Fields.{◌then◌, when_empty}
use Rattle.names.specs.Labels.{label_or_none}
use Rattle.lines.specs.Numbers.{read_number}

-- the byte of a letter
abbrev pub byte : String → ℕ
byte letter = slice_index (codes letter) 0

-- a link whose colon stands after so many bytes: the directory as a number before it, and the label, which is all that follows it
abbrev pub link_at : List ℕ → ℕ → Option Content
link_at bs colon = read_number (take colon bs) then (λ directory. Some (Link directory (label_or_none (drop (colon + 1) bs))))

-- a link, split at its first colon
abbrev pub link_in : List ℕ → Option Content
link_in bs = position (λ b. b == byte ":") bs then link_at bs

-- the content of a letter and the text after it
abbrev pub content_by : ℕ → List ℕ → Option Content
content_by letter bs =
    cond (letter == byte "a") (when_empty bs Absent)
    (cond (letter == byte "t") (when_empty bs Node)
    (cond (letter == byte "n") (option_map Number (read_number bs))
    (cond (letter == byte "d") (option_map Directory (read_number bs))
    (cond (letter == byte "l") (link_in bs) None))))

-- the content that a text says; none where it is of none of the five forms
abbrev pub content_in : List ℕ → Option Content
content_in [] = None
content_in (letter ∷ bs) = content_by letter bs
