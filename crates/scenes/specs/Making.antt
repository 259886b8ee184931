-- The names and entries of the scenes. Assumes nothing.
use Rattle.std.specs.Prelude.{ℕ, List}
use Rattle.names.specs.declared.path.Path.{Path}
use Rattle.names.specs.Labels.{label, label_or_none}
use Rattle.names.specs.Stamps.{stamp_at}
use Rattle.entries.specs.declared.recipe.Content.{Content}
use Rattle.entries.specs.declared.recipe.Recipe.{Recipe}

-- the path of one or two labels; the second is not used where its text is no label's
abbrev pub path_of : ℕ → List ℕ → List ℕ → Path
path_of directory recipe value = record { directory = directory; first = label_or_none recipe; second = label_or_none value; third = label 0 }

-- an entry with the stamp that a server makes at a time
abbrev pub said_at : ℕ → ℕ → Content → Recipe
said_at time server content = record { stamp = stamp_at time server; content = content }
