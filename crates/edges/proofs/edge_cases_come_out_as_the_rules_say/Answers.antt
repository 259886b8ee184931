-- Each case computes to what is due.
use Rattle.std.proofs.Common.{◌≡◌, List, [], ◌∷◌, map, refl, ap}
use Rattle.names.specs.Labels.{legal, is_label}
use Rattle.store.specs.Meaning.{empty_store, count_of, holds, full_for, join_of}
use Rattle.store.specs.Laws.{entry_of}
use Rattle.reading.specs.Shown.{shown_entry}
use Rattle.edges.specs.Edges.{Outcome, Case, AllHold, edge_cases}
use Rattle.edges.proofs.edge_cases_come_out_as_the_rules_say.Goals as goal

-- the first of a list, or another in place of it
abbrev first : Outcome → List Outcome → Outcome
first x [] = x
first x (y ∷ ys) = y

-- a list without its first
abbrev rest : List Outcome → List Outcome
rest [] = []
rest (y ∷ ys) = ys

-- where the lists of what is given and of what is due are one, each case holds
all_hold : (cs : List Case) → map (λ c. c.0) cs ≡ map (λ c. c.1) cs → AllHold cs
all_hold [] e = tt
all_hold (c ∷ cs) e = (ap (first c.0) e, all_hold cs (ap rest e))

pub returns : goal.returns
unfolding legal is_label empty_store count_of holds full_for join_of entry_of shown_entry
returns c = all_hold edge_cases refl
