-- The edge cases of the rules: what the definitions that the contracts cite give, and what is due. Assumes nothing.
use Rattle.std.specs.Prelude.{◌≡◌, ℕ, zero, suc, Bool, true, false, List, [], ◌∷◌, Some, None, Ok, Err, codes, Option, Result}
use Rattle.std.specs.Option.{unwrap_or}
use Rattle.names.specs.declared.label.Label.{Label}
use Rattle.names.specs.declared.path.Path.{Path}
use Rattle.names.specs.Labels.{label, read_label}
use Rattle.names.specs.Paths.{no_path}
use Rattle.entries.specs.declared.recipe.Content.{Content}
use Rattle.entries.specs.declared.recipe.Content.TheVariants.{Node, Number, Link}
use Rattle.entries.specs.declared.recipe.Recipe.{Recipe}
use Rattle.entries.specs.Recipes.{join_recipes, blank_recipe}
use Rattle.lent.specs.Held.{held_in}
use Rattle.store.specs.Meaning.{Meaning, empty_store, join_answer, join_of}
use Rattle.store.specs.Laws.{entry_of}
use Rattle.table.specs.Slots as table
use Rattle.folding_log.specs.declared.slot.LogSlot.{LogSlot}
use Rattle.folding_log.specs.Logs as log
use Rattle.reading.specs.Shown.{shown}
use Rattle.reading.specs.Lookup.{Reading, Reading.answer, Reading.refused, one_label}
use Rattle.machine.specs.States.{State, store_of, floor_of}
use Rattle.machine.specs.Posts.{post}
use Rattle.machine.specs.Sweeps.{begin}
use Rattle.machine.specs.Worlds.{opened}
use Rattle.ring.specs.Recipes.{recipes, lookup_at}

-- what a case can come to
pub data Outcome : Type 0 where
  -- what a text reads to: a label, or none
  reads : Option Label → Outcome
  -- a call is accepted, or refused with the ground of that number
  accepted : Outcome
  refused_with : ℕ → Outcome
  -- a copy's floor
  floor : ℕ → Outcome
  -- what a store means
  means : Meaning Recipe → Outcome
  -- the answer of a store's join, and the store after it
  leaves : Result (Unit {0}) ℕ → Meaning Recipe → Outcome
  -- whether an entry is shown
  shows : Bool → Outcome
  -- the answer of a lookup, with its steps
  finds : Reading → Outcome

-- a case: what the definitions give, and what is due
abbrev pub Case : Type 0
Case = Outcome × Outcome

-- each case gives what is due
abbrev pub AllHold : List Case → Type 0
AllHold [] = Unit {0}
AllHold (c ∷ cs) = (c.0 ≡ c.1) × AllHold cs

-- Names and entries.

-- the label that a text reads to, and the unused one for a text that reads to none
abbrev pub label_of : List ℕ → Label
label_of text = unwrap_or (read_label text) (label 0)

-- the path in directory 1 of one label with that text
abbrev pub path_in_1 : List ℕ → Path
path_in_1 text = one_label 1 (label_of text)

-- the path rye
abbrev pub rye : Path
rye = path_in_1 (codes "rye")

-- the path rye/turns
abbrev pub rye_turns : Path
rye_turns = record { directory = 1; first = label_of (codes "rye"); second = label_of (codes "turns"); third = label 0 }

-- an entry with that stamp that says a content
abbrev pub said_at : ℕ → Content → Recipe
said_at stamp content = record { stamp = stamp; content = content }

-- an entry with that stamp that says no more than that the path is there
abbrev pub node_at : ℕ → Recipe
node_at stamp = said_at stamp Node

-- Rings.

-- a ring of three copies just opened
abbrev pub fresh : State Recipe
fresh = (opened (empty_store 16 ∷ empty_store 16 ∷ empty_store 16 ∷ []) 8).ring

-- that ring after a begin at copy 0 with time 5
abbrev pub begun : State Recipe
begun = (begin fresh 0 5).1

-- how a call ends
abbrev pub ends : {A S : Type 0} → Result A ℕ × S → Outcome
ends (Ok a, s) = accepted
ends (Err g, s) = refused_with g

-- a ring after posts at copy 0
abbrev pub after : State Recipe → List (Path × Recipe) → State Recipe
after s [] = s
after s (x ∷ xs) = after (post recipes s 0 x.0 x.1).1 xs

-- whether rye/turns is shown at copy 0 after those posts
abbrev pub turns_shown : List (Path × Recipe) → Outcome
turns_shown xs = shows (shown (entry_of (store_of (after fresh xs) 0)) rye_turns)

-- the lookup of rye at copy 0 from directory 1 after those posts
abbrev pub rye_found : List (Path × Recipe) → Outcome
rye_found xs = finds (lookup_at (after fresh xs) 0 1 (label_of (codes "rye") ∷ []))

-- an entry under rye in a directory
abbrev pub rye_in : ℕ → Content → Path × Recipe
rye_in d content = (one_label d (label_of (codes "rye")), said_at 1280 content)

-- a link from rye in one directory to rye in another
abbrev pub rye_link : ℕ → ℕ → Path × Recipe
rye_link d e = rye_in d (Link e (label_of (codes "rye")))

-- so many links, each from a directory to the next, and then the number 640
abbrev pub links : ℕ → ℕ → List (Path × Recipe)
links d zero = rye_in d (Number 640) ∷ []
links d (suc n) = rye_link d (suc d) ∷ links (suc d) n

-- Stores.

-- a join under a path: its answer, and the store after it
abbrev pub join_in : Meaning Recipe → Path → Recipe → Outcome
join_in m p e = leaves (join_answer m p) (join_of join_recipes m p e)

-- a table of one slot, of which the first n are used, with an entry of that stamp under rye
abbrev pub table_of_one : ℕ → ℕ → Meaning Recipe
table_of_one n stamp = table.slots_meaning (held_in n (record { path = rye; entry = node_at stamp } ∷ []))

-- a slot of a log with an entry of that stamp under rye
abbrev pub taken : ℕ → LogSlot Recipe
taken stamp = record { path = rye; entry = node_at stamp; place = 0 }

-- a slot of a log that has not been used
abbrev pub free : LogSlot Recipe
free = record { path = no_path; entry = blank_recipe; place = 0 }

-- a log of two slots, of which the first n are used
abbrev pub log_of_two : ℕ → LogSlot Recipe → LogSlot Recipe → Meaning Recipe
log_of_two n a b = log.slots_meaning join_recipes (held_in n (a ∷ b ∷ []))

-- the edge cases in the order of the rules, each with what is due
abbrev pub edge_cases : List Case
edge_cases =
    -- the label rye is its bytes, the first highest
    (reads (read_label (codes "rye")), reads (Some (label 0x7279_6500_0000_0000)))
    -- eight bytes are a label
    ∷ (reads (read_label (codes "baguette")), reads (Some (label 0x6261_6775_6574_7465)))
    ∷ (ends (post recipes fresh 0 (path_in_1 (codes "baguette")) (node_at 1280)), accepted)
    -- nine are none, and what they read to is refused with 11
    ∷ (reads (read_label (codes "sourdough")), reads None)
    ∷ (ends (post recipes fresh 0 (path_in_1 (codes "sourdough")) (node_at 1280)), refused_with 11)
    ∷ (finds (lookup_at fresh 0 1 (label_of (codes "sourdough") ∷ [])), finds (refused 11 0))
    -- a post stamped at the floor is accepted, and one with an earlier time is refused with 14
    ∷ (floor (floor_of begun 0), floor 1280)
    ∷ (ends (post recipes begun 0 rye (node_at 1280)), accepted)
    ∷ (ends (post recipes begun 0 rye (node_at 1024)), refused_with 14)
    -- on a ring just opened begin with time 0 is refused with 14 at copy 0, and accepted at copy 1
    ∷ (ends (begin fresh 0 0), refused_with 14)
    ∷ (ends (begin fresh 1 0), accepted)
    -- a table of one slot has one place; when it holds rye it refuses rye/turns with 16, and still joins rye
    ∷ (means (table_of_one 0 0), means (empty_store 1))
    ∷ (join_in (table_of_one 0 0) rye (node_at 1280), leaves (Ok tt) (table_of_one 1 1280))
    ∷ (join_in (table_of_one 1 1280) rye_turns (node_at 1536), leaves (Err 16) (table_of_one 1 1280))
    ∷ (join_in (table_of_one 1 1280) rye (node_at 1536), leaves (Ok tt) (table_of_one 1 1536))
    -- a log of two slots has one place, and takes rye three times in a row, the second time with the greatest stamp
    ∷ (means (log_of_two 0 free free), means (empty_store 1))
    ∷ (join_in (log_of_two 0 free free) rye (node_at 1280), leaves (Ok tt) (log_of_two 1 (taken 1280) free))
    ∷ (join_in (log_of_two 1 (taken 1280) free) rye (node_at 1792), leaves (Ok tt) (log_of_two 2 (taken 1280) (taken 1792)))
    -- its slots are used up then: they fold to one, and the third entry comes after that
    ∷ (means (log_of_two 2 (taken 1280) (taken 1792)), means (log_of_two 1 (taken 1792) free))
    ∷ (join_in (log_of_two 2 (taken 1280) (taken 1792)) rye (node_at 1536), leaves (Ok tt) (log_of_two 2 (taken 1792) (taken 1536)))
    -- it then holds the join of the three, and refuses rye/turns
    ∷ (means (log_of_two 2 (taken 1792) (taken 1536)), means (record { pairs = (rye, node_at 1792) ∷ []; places = 1 }))
    ∷ (join_in (log_of_two 2 (taken 1792) (taken 1536)) rye_turns (node_at 2048), leaves (Err 16) (log_of_two 2 (taken 1792) (taken 1536)))
    -- rye/turns is shown below an older rye, hidden when rye is rewritten, and shown when it is rewritten itself
    ∷ (turns_shown ((rye, node_at 1280) ∷ (rye_turns, node_at 1536) ∷ []), shows true)
    ∷ (turns_shown ((rye, node_at 1280) ∷ (rye_turns, node_at 1536) ∷ (rye, node_at 1792) ∷ []), shows false)
    ∷ (turns_shown ((rye, node_at 1280) ∷ (rye_turns, node_at 1536) ∷ (rye, node_at 1792) ∷ (rye_turns, node_at 2048) ∷ []), shows true)
    -- eight links and then a number answer in nine steps
    ∷ (rye_found (links 1 8), finds (answer (Number 640) 9))
    -- nine links, and a link to itself, are refused with 19 after nine steps
    ∷ (rye_found (links 1 9), finds (refused 19 9))
    ∷ (rye_found (rye_link 1 1 ∷ []), finds (refused 19 9))
    ∷ []
