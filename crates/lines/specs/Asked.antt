-- What a line asks for. Assumes nothing.
use Rattle.std.specs.Prelude.{ℕ, cond, List, [], ◌∷◌, drop, Some, None, codes, Option, ◌==◌, slice_index_or}
use Rattle.entries.specs.declared.recipe.Recipe.{Recipe}
use Rattle.names.specs.Stamps.{stamp_at}
use Rattle.names.specs.declared.label.Label.{Label}
use Rattle.names.specs.declared.path.Path.{Path}
use Rattle.std.specs.Option.{option_map}
use Rattle.lines.specs.Fields.{◌then◌, begins, when_empty, field_values}
use Rattle.lines.specs.Names.{labels_in, path_in, name_labels}
use Rattle.names.specs.Labels.{label_or_none}
use Rattle.lines.specs.Numbers.{read_number}
use Rattle.lines.specs.Says.{byte, content_in}
use Rattle.lines.specs.declared.request.Request.{Request}
use Rattle.lines.specs.declared.request.Request.TheVariants.{Post, Grow, Lookup, Mail, Hand, Lose, Collect, Confirm, Begin, Press, Spread, Close, Abandon}

-- what a line asks for, by its values
pub data Asked : Type 0 where
  -- copy, path, entry
  post : ℕ → Path → Recipe → Asked
  -- copy, stamp, new directory, label, old directory
  grow : ℕ → ℕ → ℕ → Label → ℕ → Asked
  -- copy, directory to start in, labels of the name
  lookup : ℕ → ℕ → List Label → Asked
  -- from, to, place
  mail : ℕ → ℕ → ℕ → Asked
  -- each with the number of a letter
  hand : ℕ → Asked
  lose : ℕ → Asked
  collect : ℕ → Asked
  confirm : ℕ → Asked
  -- copy, time
  begin : ℕ → ℕ → Asked
  press : Asked
  spread : Asked
  close : Asked
  abandon : Asked

-- a request by its values
abbrev pub of_request : Request → Asked
of_request (Post copy path entry) = post copy path entry
of_request (Grow copy stamp new label old) = grow copy stamp new label old
of_request (Lookup copy start name) = lookup copy start (name_labels name)
of_request (Mail from to place) = mail from to place
of_request (Hand letter) = hand letter
of_request (Lose letter) = lose letter
of_request (Collect letter) = collect letter
of_request (Confirm letter) = confirm letter
of_request (Begin copy time) = begin copy time
of_request Press = press
of_request Spread = spread
of_request Close = close
of_request Abandon = abandon

-- the value at a place of a list of values
abbrev pub value : List (List ℕ) → ℕ → List ℕ
value values k = slice_index_or values k []

-- a post, from the values of its fields
abbrev pub post_from : List ℕ → List ℕ → List ℕ → List ℕ → List ℕ → Option Asked
post_from copy time dir path says =
    read_number copy then (λ c. read_number time then (λ t. read_number dir then (λ d. content_in says then (λ content.
    Some (post c (path_in d path) (record { stamp = stamp_at t c; content = content }))))))

-- a growth, from the values of its fields
abbrev pub grow_from : List ℕ → List ℕ → List ℕ → List ℕ → List ℕ → Option Asked
grow_from copy time new label old =
    read_number copy then (λ c. read_number time then (λ t. read_number new then (λ n. read_number old then (λ o.
    Some (grow c (stamp_at t c) n (label_or_none label) o)))))

-- a lookup, from the values of its fields
abbrev pub lookup_from : List ℕ → List ℕ → List ℕ → Option Asked
lookup_from copy start name = read_number copy then (λ c. read_number start then (λ d. Some (lookup c d (labels_in 8 name))))

-- a mail, from the values of its fields
abbrev pub mail_from : List ℕ → List ℕ → List ℕ → Option Asked
mail_from from to place = read_number from then (λ f. read_number to then (λ t. read_number place then (λ p. Some (mail f t p))))

-- the begin of a sweep, from the values of its fields
abbrev pub begin_from : List ℕ → List ℕ → Option Asked
begin_from copy time = read_number copy then (λ c. read_number time then (λ t. Some (begin c t)))

-- a post, from the fields of its line
abbrev pub asked_post : List ℕ → Option Asked
asked_post fields = field_values (codes "copy" ∷ codes "time" ∷ codes "dir" ∷ codes "path" ∷ codes "says" ∷ []) fields then (λ vs. post_from (value vs 0) (value vs 1) (value vs 2) (value vs 3) (value vs 4))

-- a growth, from the fields of its line
abbrev pub asked_grow : List ℕ → Option Asked
asked_grow fields = field_values (codes "copy" ∷ codes "time" ∷ codes "new" ∷ codes "label" ∷ codes "old" ∷ []) fields then (λ vs. grow_from (value vs 0) (value vs 1) (value vs 2) (value vs 3) (value vs 4))

-- a lookup, from the fields of its line
abbrev pub asked_lookup : List ℕ → Option Asked
asked_lookup fields = field_values (codes "copy" ∷ codes "start" ∷ codes "name" ∷ []) fields then (λ vs. lookup_from (value vs 0) (value vs 1) (value vs 2))

-- a mail, from the fields of its line
abbrev pub asked_mail : List ℕ → Option Asked
asked_mail fields = field_values (codes "from" ∷ codes "to" ∷ codes "place" ∷ []) fields then (λ vs. mail_from (value vs 0) (value vs 1) (value vs 2))

-- the begin of a sweep, from the fields of its line
abbrev pub asked_begin : List ℕ → Option Asked
asked_begin fields = field_values (codes "copy" ∷ codes "time" ∷ []) fields then (λ vs. begin_from (value vs 0) (value vs 1))

-- the number of a letter, where that is the only field
abbrev pub letter_number : List ℕ → Option ℕ
letter_number fields = field_values (codes "letter" ∷ []) fields then (λ vs. read_number (value vs 0))

-- what a form's letter asks for with the fields after it
abbrev pub asked_form : ℕ → List ℕ → Option Asked
asked_form form fields =
    cond (form == byte "p") (asked_post fields)
    (cond (form == byte "g") (asked_grow fields)
    (cond (form == byte "l") (asked_lookup fields)
    (cond (form == byte "m") (asked_mail fields)
    (cond (form == byte "h") (option_map hand (letter_number fields))
    (cond (form == byte "x") (option_map lose (letter_number fields))
    (cond (form == byte "c") (option_map collect (letter_number fields))
    (cond (form == byte "k") (option_map confirm (letter_number fields))
    (cond (form == byte "b") (asked_begin fields)
    (cond (form == byte "s") (when_empty fields press)
    (cond (form == byte "u") (when_empty fields spread)
    (cond (form == byte "f") (when_empty fields close)
    (cond (form == byte "z") (when_empty fields abandon) None))))))))))))

-- what follows the `op=` of a line: the form's letter, and then the fields
abbrev pub asked_after : List ℕ → Option Asked
asked_after [] = None
asked_after (form ∷ fields) = asked_form form fields

-- what a line asks for; none where it is not of one of the forms
abbrev pub asked_by : List ℕ → Option Asked
asked_by line = cond (begins (codes "op=") line) (asked_after (drop 3 line)) None
