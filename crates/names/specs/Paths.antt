-- What paths are: soundness, equality, order, parents, and how they are shown. Assumes nothing.
use Rattle.std.specs.Prelude.{◌≡◌, ℕ, ◌+◌, Bool, true, cond, ◌&&◌, List, [], ◌++◌, Some, None, codes, decimal, Option, ◌==◌}
use Rattle.std.specs.declared.cmp.Ordering.{Ordering}
use Rattle.std.specs.Ordering.{ordering_then, nat_cmp}
use Rattle.names.specs.declared.label.Label.{Label}
use Rattle.names.specs.declared.path.Path.{Path}
use Rattle.names.specs.Labels.{label, is_label, shown_label}

-- directory 0 with no label
abbrev pub no_path : Path
no_path = record { directory = 0; first = label 0; second = label 0; third = label 0 }

-- the path of one label
abbrev pub one_label : ℕ → Label → Path
one_label directory l = record { directory = directory; first = l; second = label 0; third = label 0 }

-- one to three labels, the unused ones last and 0
abbrev pub sound_path : Path → Bool
sound_path p =
    is_label p.first.number
    && cond (p.second.number == 0) (p.third.number == 0) (is_label p.second.number && cond (p.third.number == 0) true (is_label p.third.number))

-- the directory and the labels are the same
abbrev pub same_path : Path → Path → Bool
same_path p q = p.directory == q.directory && p.first.number == q.first.number && p.second.number == q.second.number && p.third.number == q.third.number

-- by directory, then by each label as a number
abbrev pub order_of : Path → Path → Ordering
order_of p q =
    ordering_then (nat_cmp p.directory q.directory) (ordering_then (nat_cmp p.first.number q.first.number) (ordering_then (nat_cmp p.second.number q.second.number) (nat_cmp p.third.number q.third.number)))

-- the path without its last label, if it has another
abbrev pub parent_of : Path → Option Path
parent_of p =
    cond (p.third.number == 0)
    (cond (p.second.number == 0) None (Some (record { directory = p.directory; first = p.first; second = label 0; third = p.third })))
    (Some (record { directory = p.directory; first = p.first; second = p.second; third = label 0 }))

-- how many labels a sound path has
abbrev pub depth : Path → ℕ
depth p = cond (p.third.number == 0) (cond (p.second.number == 0) 1 2) 3

-- what a parent q keeps of its path p: the directory and the first label; and of a sound path, soundness with one label fewer
pub record Above (q p : Path) : Type 0 where
  pub directory : q.directory ≡ p.directory
  pub first : q.first ≡ p.first
  pub sound : sound_path p ≡ true → sound_path q ≡ true
  pub fewer : sound_path p ≡ true → depth q + 1 ≡ depth p

-- a slash and a label, or nothing where the label is not used
abbrev pub shown_after : Label → List ℕ
shown_after l = cond (l.number == 0) [] (codes "/" ++ shown_label l.number)

-- the directory, a colon and the first label
abbrev pub shown_start : Path → List ℕ
shown_start p = decimal p.directory ++ (codes ":" ++ shown_label p.first.number)

-- how a path is shown: the directory, a colon, and the labels with slashes between them
abbrev pub shown_path : Path → List ℕ
shown_path p = shown_start p ++ shown_after p.second ++ shown_after p.third
