-- The replay: from the bytes of an input to the bytes of its report. Assumes nothing.
use Rattle.std.specs.Prelude.{◌≡◌, ℕ, suc, ◌-◌, Bool, cond, List, [], ◌∷◌, ◌++◌, length, Some, None, Ok, Err, Option, Result, ◌==◌, nat_lt, slice_index_or}
use Rattle.std.specs.List.{onto_first}
use Rattle.entries.specs.declared.recipe.Recipe.{Recipe}
use Rattle.store.specs.Meaning.{Meaning, empty_store}
use Rattle.reading.specs.Lookup.{Reading, Reading.answer as read, Reading.refused as not_read}
use Rattle.letters.specs.declared.letter.Letter.{Letter}
use Rattle.letters.specs.Mail.{Mail as Letters}
use Rattle.machine.specs.States.{State, first_ground}
use Rattle.machine.specs.Sweeps.{Sweep, ended}
use Rattle.machine.specs.Worlds.{Got, nothing, more, done, stamped, step, opened}
use Rattle.ring.specs.Openings.{open_grounds}
use Rattle.ring.specs.Recipes.{recipes, lookup_at}
use Rattle.service.specs.declared.call.Call.TheVariants.{Post, Mail, Hand, Lose, Begin, Press, Collect, Spread, Confirm, Close, Abandon}
use Rattle.service.specs.declared.recipe_call.RecipeCall.{RecipeCall}
use Rattle.service.specs.declared.recipe_call.RecipeCall.TheVariants.{Ring, Grow}
use Rattle.service.specs.Calls.{world_of, seen, is_going}
use Rattle.service.specs.RecipeCalls.{of_recipe_call}
use Rattle.lines.specs.Asked.{Asked, post, grow, lookup, mail, hand, lose, collect, confirm, begin, press, spread, close, abandon, asked_by}
use Rattle.report.specs.declared.finding.Gained.{Gained}
use Rattle.report.specs.declared.finding.Gained.TheVariants as gained
use Rattle.report.specs.Reports.{Found, finding_of, report_line}

-- what a refused line comes to: its ground, and no steps
abbrev pub refused : ℕ → Found
refused g = record { outcome = Err g; steps = 0 }

-- what a call got, as the report has it
abbrev pub gained_of : Got → Gained
gained_of nothing = gained.Nothing
gained_of more = gained.More
gained_of done = gained.Done
gained_of (stamped s) = gained.Stamp s

-- what a call comes to, by its answer, without steps
abbrev pub of_answer : Result Got ℕ → Found
of_answer (Ok got) = record { outcome = Ok (gained_of got); steps = 0 }
of_answer (Err g) = refused g

-- what a lookup comes to: its content or ground, and its steps
abbrev pub of_reading : Reading → Found
of_reading (read k n) = record { outcome = Ok (gained.Content k); steps = n }
of_reading (not_read g n) = record { outcome = Err g; steps = n }

-- the number of the sweep that was begun last
abbrev pub latest : List Sweep → ℕ
latest sweeps = length sweeps - 1

-- a sweep is held: the one begun last has not ended
abbrev pub is_held : List Sweep → Bool
is_held sweeps = is_going (slice_index_or sweeps (latest sweeps) ended)

-- what a line leads to: a call, or what is found without one
pub data Move : Type 0 where
  makes : RecipeCall → Move
  finds : Found → Move

-- the move for what a line asks; a lookup makes no call, nor does a begin while a sweep is held, which is refused with 2
abbrev pub move_for : State Recipe × List Sweep → Asked → Move
move_for x (post c p e) = makes (Ring (Post c p e))
move_for x (grow c stamp new l old) = makes (Grow c stamp new l old)
move_for x (lookup c start name) = finds (of_reading (lookup_at x.0 c start name))
move_for x (mail from to place) = makes (Ring (Mail from to place))
move_for x (hand letter) = makes (Ring (Hand letter))
move_for x (lose letter) = makes (Ring (Lose letter))
move_for x (collect letter) = makes (Ring (Collect (latest x.1) letter))
move_for x (confirm letter) = makes (Ring (Confirm (latest x.1) letter))
move_for x (begin c time) = cond (is_held x.1) (finds (refused 2)) (makes (Ring (Begin c time)))
move_for x press = makes (Ring (Press (latest x.1)))
move_for x spread = makes (Ring (Spread (latest x.1)))
move_for x close = makes (Ring (Close (latest x.1)))
move_for x abandon = makes (Ring (Abandon (latest x.1)))

-- the move of a line; one of bad form is refused with 1
abbrev pub move_of : State Recipe × List Sweep → Option Asked → Move
move_of x None = finds (refused 1)
move_of x (Some a) = move_for x a

-- what a move comes to, and the ring and the sweeps after it: a call does its step on the plain machine
abbrev pub moved : State Recipe × List Sweep → Move → Found × (State Recipe × List Sweep)
moved x (makes c) = let r = seen (step recipes (of_recipe_call c) (world_of x)) in (of_answer r.0, r.1)
moved x (finds f) = (f, x)

-- what a line comes to, and the ring and the sweeps after it
abbrev pub replied : State Recipe × List Sweep → Option Asked → Found × (State Recipe × List Sweep)
replied x a = moved x (move_of x a)

-- the lines of an input: each ends with byte 10, the last perhaps not
abbrev pub lines_of : List ℕ → List (List ℕ)
lines_of [] = []
lines_of (b ∷ bs) = cond (b == 10) ([] ∷ lines_of bs) (onto_first b (lines_of bs))

-- the report of the lines from a number on, and the ring and the sweeps after them
abbrev pub replayed : ℕ → State Recipe × List Sweep → List (List ℕ) → List ℕ × (State Recipe × List Sweep)
replayed n x [] = ([], x)
replayed n x (line ∷ lines) =
    let f = replied x (asked_by line) in let r = replayed (suc n) f.1 lines in (report_line n (finding_of f.0) ++ r.0, r.1)

-- nothing stood against the opening, and the text is the report of the input on the ring just opened
abbrev pub OpensTo : List (Meaning Recipe) → Letters (Letter Recipe) → List ℕ → List ℕ → Type 0
OpensTo ms bag input text = (first_ground (open_grounds ms bag) ≡ None) × (text ≡ (replayed 1 ((opened ms bag.places).ring, []) (lines_of input)).0)

-- the ring of the replay before its first line: three empty stores of 64 places, and a bag of 64
abbrev pub stores : List (Meaning Recipe)
stores = empty_store 64 ∷ empty_store 64 ∷ empty_store 64 ∷ []

-- no sweep is under way
abbrev pub at_first : State Recipe × List Sweep
at_first = ((opened stores 64).ring, [])

-- the report of an input of at most 60,000 bytes, and of a longer one a single line
abbrev pub report_of : List ℕ → List ℕ
report_of input = cond (nat_lt 60000 (length input)) (report_line 0 (finding_of (refused 1))) (replayed 1 at_first (lines_of input)).0
