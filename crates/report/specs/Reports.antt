-- How a report is written. Assumes nothing.
use Rattle.std.specs.Prelude.{ℕ, List, ◌++◌, Ok, Err, Result, codes, decimal}
use Rattle.std.specs.Result.{result_unwrap_or}
use Rattle.grounds.specs.Grounds.{by_number}
use Rattle.names.specs.Labels.{shown_label}
use Rattle.entries.specs.declared.recipe.Content.{Content}
use Rattle.entries.specs.declared.recipe.Content.TheVariants.{Absent, Node, Number, Directory, Link}
use Rattle.report.specs.declared.finding.Finding.{Finding}
use Rattle.report.specs.declared.finding.Gained.{Gained}
use Rattle.report.specs.declared.finding.Gained.TheVariants as gained
use Rattle.report.specs.declared.finding.Outcome.{Outcome}

-- a content in the letters that a line says it with
abbrev pub shown_says : Content → List ℕ
shown_says Absent = codes "a"
shown_says Node = codes "t"
shown_says (Number n) = codes "n" ++ decimal n
shown_says (Directory d) = codes "d" ++ decimal d
shown_says (Link d l) = codes "l" ++ (decimal d ++ (codes ":" ++ shown_label l.number))

-- what a line got: a hyphen, more, done, `s` and the stamp, or the content
abbrev pub shown_gained : Gained → List ℕ
shown_gained gained.Nothing = codes "-"
shown_gained gained.More = codes "more"
shown_gained gained.Done = codes "done"
shown_gained (gained.Stamp s) = codes "s" ++ decimal s
shown_gained (gained.Content k) = shown_says k

-- what a line came to, as the machine says it: what it got or the number of the ground of its refusal, and the steps
pub record Found : Type 0 where
  pub outcome : Result Gained ℕ
  pub steps : ℕ

-- an outcome, its ground by number
abbrev pub found_of : Outcome → Found
found_of x = record { outcome = by_number x.answer; steps = x.steps }

-- the number of the ground; 0 where there is none
abbrev pub code_of : Result Gained ℕ → ℕ
code_of (Ok x) = 0
code_of (Err g) = g

-- what the report has of it: the ground or 0, the steps, and what was got, nothing where the line was refused
abbrev pub finding_of : Found → Finding
finding_of f = record { code = code_of f.outcome; steps = f.steps; gained = result_unwrap_or f.outcome gained.Nothing }

-- the end of a line: what was got, and byte 10
abbrev pub got_part : Finding → List ℕ
got_part x = codes " got=" ++ (shown_gained x.gained ++ codes "\n")

-- a line of the report: its number, the ground or 0, the steps, and what was got
abbrev pub report_line : ℕ → Finding → List ℕ
report_line n x = codes "no=" ++ (decimal n ++ (codes " code=" ++ (decimal x.code ++ (codes " count=" ++ (decimal x.steps ++ got_part x)))))
