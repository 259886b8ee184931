-- When an entry is shown. Assumes nothing.
use Rattle.std.specs.Prelude.{ℕ, zero, suc, Bool, true, false, cond, is_some, Some, None, Option, nat_le}
use Rattle.std.specs.Option.{option_map}
use Rattle.names.specs.declared.path.Path.{Path}
use Rattle.names.specs.Paths.{parent_of}
use Rattle.entries.specs.declared.recipe.Content.{Content}
use Rattle.entries.specs.declared.recipe.Content.TheVariants.{Absent, Node, Number, Directory, Link}
use Rattle.entries.specs.declared.recipe.Recipe.{Recipe}

-- an entry for each path, if it has one: what a store holds, or what is shown of it
abbrev pub Look : Type 0
Look = Path → Option Recipe

-- the content says that the path is withdrawn
abbrev pub is_absent : Content → Bool
is_absent Absent = true
is_absent Node = false
is_absent (Number n) = false
is_absent (Directory d) = false
is_absent (Link d l) = false

-- the entry, unless it is absent
abbrev pub unless_absent : Option Recipe → Option Recipe
unless_absent None = None
unless_absent (Some e) = cond (is_absent e.content) None (Some e)

-- an entry belongs below the one that is shown above it: that one is not stamped higher
abbrev pub belongs : Recipe → Recipe → Bool
belongs above e = nat_le above.stamp e.stamp

-- what is shown of an entry, by what is shown above it
abbrev pub below : Option Recipe → Option Recipe → Option Recipe
below None e = None
below (Some above) None = None
below (Some above) (Some e) = cond (belongs above e) (Some e) None

-- the same, by the path above it and what is shown there; without such a path the entry is shown
abbrev pub below_path : Look → Option Path → Option Recipe → Option Recipe
below_path shown_at None e = e
below_path shown_at (Some q) e = below (shown_at q) e

-- the entry of a path where it is shown, for paths with at most so many paths above them
abbrev pub shown_within : ℕ → Look → Look
shown_within zero f p = unless_absent (f p)
shown_within (suc k) f p = below_path (shown_within k f) (parent_of p) (unless_absent (f p))

-- the entry of a path where it is shown; no path has more than two above it
unfoldable pub shown_entry : Look → Look
shown_entry f p = shown_within 2 f p

-- whether an entry is shown under the path
abbrev pub shown : Look → Path → Bool
shown f p = is_some (shown_entry f p)

-- the content of the entry that is shown under the path
abbrev pub content_shown : Look → Path → Option Content
content_shown f p = option_map (λ e. e.content) (shown_entry f p)
