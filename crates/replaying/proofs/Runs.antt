-- A replay as a run of the calls that its lines make, on a ring that opens. Assumes nothing.
use Rattle.std.proofs.Common.{◌≡◌, ℕ, suc, List, [], ◌∷◌, map, is_some, None, Ok, Err, Result, refl, ap, ◌∙◌, MatchResult}
use Rattle.std.proofs.lemmas.Bool.{both_ways}
use Rattle.entries.specs.declared.recipe.Recipe.{Recipe}
use Rattle.store.specs.Meaning.{Meaning, empty_store, count_of}
use Rattle.letters.specs.declared.letter.Letter.{Letter}
use Rattle.letters.specs.Mail.{Mail}
use Rattle.machine.specs.States.{State, first_ground}
use Rattle.machine.specs.Sweeps.{Sweep}
use Rattle.machine.specs.Worlds.{opened}
use Rattle.ring.specs.Openings.{open_grounds}
use Rattle.runs.specs.Runs.{runs_from, NotMade}
use Rattle.service.specs.declared.call.Trouble.{Trouble}
use Rattle.service.specs.declared.call.Trouble.TheVariants.{Refused, NoMemory}
use Rattle.runs.proofs.Follows.{runs_run}
use Rattle.runs.proofs.Kept.{promise}
use Rattle.runs.proofs.Opens.{fresh, recipe_laws}
use Rattle.lines.specs.Asked.{asked_by}
use Rattle.replaying.specs.Replays.{of_answer, Move, makes, finds, move_of, moved, lines_of, replayed, OpensTo, stores, at_first}
use Rattle.replaying.specs.Covered.{with_call, calls_of, with_finding, findings_of, Covered}

-- the lines leave what the run of their calls leaves
calls_run : (n : ℕ) (x : State Recipe × List Sweep) (lines : List (List ℕ)) → (replayed n x lines).1 ≡ (runs_from x (calls_of x lines)).1
calls_run n x [] = refl
calls_run n x (line ∷ lines) = go (move_of x (asked_by line)) (λ y. calls_run (suc n) y lines)
  where
    go : (m : Move) → ((y : State Recipe × List Sweep) → (replayed (suc n) y lines).1 ≡ (runs_from y (calls_of y lines)).1) → (replayed (suc n) (moved x m).1 lines).1 ≡ (runs_from x (with_call m (calls_of (moved x m).1 lines))).1
    go (makes c) after = after (moved x (makes c)).1
    go (finds f) after = after x

-- and they come to what it answers
calls_answered : (x : State Recipe × List Sweep) (lines : List (List ℕ)) → findings_of x lines ≡ map of_answer (runs_from x (calls_of x lines)).0
calls_answered x [] = refl
calls_answered x (line ∷ lines) = go (move_of x (asked_by line)) (λ y. calls_answered y lines)
  where
    go : (m : Move) → ((y : State Recipe × List Sweep) → findings_of y lines ≡ map of_answer (runs_from y (calls_of y lines)).0) → with_finding m (moved x m).0 (findings_of (moved x m).1 lines) ≡ map of_answer (runs_from x (with_call m (calls_of (moved x m).1 lines))).0
    go (makes c) after = ap (λ fs. (moved x (makes c)).0 ∷ fs) (after (moved x (makes c)).1)
    go (finds f) after = after x

-- the bag of a replay at first
abbrev pub no_letters : Mail (Letter Recipe)
no_letters = record { letters = []; places = 64 }

-- nothing stands against the opening
opens : first_ground (open_grounds stores no_letters) ≡ None
unfolding empty_store count_of
opens = refl

pub covered : (input : List ℕ) → Covered input
covered input =
    let calls = calls_of at_first (lines_of input) in
    let left = calls_run 1 at_first (lines_of input) in
    let ran = runs_run calls (opened stores 64) in
    record {
      answered = calls_answered at_first (lines_of input) ∙ ap (λ r. map of_answer r.0) ran;
      ring = ap (λ (r : State Recipe × List Sweep). r.0) left ∙ ap (λ r. r.1.0) ran;
      sweeps = ap (λ (r : State Recipe × List Sweep). r.1) left ∙ ap (λ r. r.1.1) ran;
      promise = promise recipe_laws stores 64 calls (fresh stores no_letters opens);
    }

module _ {S : Type 0} (text : S → List ℕ) where
  -- a replay over the stores and the bag of the program is its report, or memory ran out
  pub on_its_ring : (ms : List (Meaning Recipe)) (bag : Mail (Letter Recipe)) → ms ≡ stores → bag ≡ no_letters → (input : List ℕ) (r : Result S Trouble) → MatchResult r (λ s. OpensTo ms bag input (text s)) (NotMade ms bag) → MatchResult r (λ s. text s ≡ (replayed 1 at_first (lines_of input)).0) (λ e. e ≡ NoMemory)
  on_its_ring ms bag a b input (Ok s) h = h.1 ∙ ap (λ (m : List (Meaning Recipe)). (replayed 1 ((opened m bag.places).ring, []) (lines_of input)).0) a ∙ ap (λ (g : Mail (Letter Recipe)). (replayed 1 ((opened stores g.places).ring, []) (lines_of input)).0) b
  on_its_ring ms bag a b input (Err NoMemory) h = refl
  on_its_ring ms bag a b input (Err (Refused g)) h =
      let none : first_ground (open_grounds ms bag) ≡ None = ap (λ (m : List (Meaning Recipe)). first_ground (open_grounds m bag)) a ∙ ap (λ (l : Mail (Letter Recipe)). first_ground (open_grounds stores l)) b ∙ opens in
      absurd (both_ways (is_some (first_ground (open_grounds ms bag))) (ap is_some none) (ap is_some h))
