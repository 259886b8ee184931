-- The labels, names and paths of a line. Assumes nothing.
use Rattle.std.specs.Prelude.{ℕ, cond, List, [], ◌∷◌, length, take, Some, None, Option, ◌==◌, nat_le, slice_index_or}
use Rattle.names.specs.Labels.{label, read_label}
use Rattle.names.specs.declared.label.Label.{Label}
use Rattle.names.specs.declared.path.Path.{Path}
use Rattle.std.specs.List.{slice_split}
use Rattle.std.specs.Option.{option_map, unwrap_or}
use Rattle.lines.specs.Fields.{◌then◌}
use Rattle.lines.specs.declared.name.Name.{Name}

-- the parts of a text between its slashes: one more than there are slashes
abbrev pub parts_of : List ℕ → List (List ℕ)
parts_of bs = slice_split (λ b. b == 47) bs

-- the label of each part, where each is the text of a label
abbrev pub all_labels : List (List ℕ) → Option (List Label)
all_labels [] = Some []
all_labels (part ∷ parts) = read_label part then (λ l. option_map (λ ls. l ∷ ls) (all_labels parts))

-- none where there are more labels than the limit
abbrev pub at_most : ℕ → List Label → Option (List Label)
at_most limit ls = cond (nat_le (length ls) limit) (Some ls) None

-- the labels of a text that joins 1 to limit of them by slashes; none for a text of another form
abbrev pub joined_labels : ℕ → List ℕ → Option (List Label)
joined_labels limit bs = all_labels (parts_of bs) then at_most limit

-- the same, with no labels for a text of bad form
abbrev pub labels_in : ℕ → List ℕ → List Label
labels_in limit bs = unwrap_or (joined_labels limit bs) []

-- the path of the labels in a directory; with no label where the text is of bad form
abbrev pub path_in : ℕ → List ℕ → Path
path_in directory bs =
    let ls = labels_in 3 bs in
    record { directory = directory; first = slice_index_or ls 0 (label 0); second = slice_index_or ls 1 (label 0); third = slice_index_or ls 2 (label 0) }

-- the labels that a name stands for
abbrev pub name_labels : Name → List Label
name_labels name = take name.count name.labels
