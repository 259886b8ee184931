-- The worlds that the example passes through. Assumes nothing.
use Rattle.std.proofs.Common.{◌≡◌, ℕ, zero, suc, List, [], ◌∷◌, take, drop, replicate, Some, None, refl, ap, ◌∙◌}
use Rattle.names.specs.Labels.{legal, is_label}
use Rattle.names.specs.Stamps.{stamp_at}
use Rattle.entries.specs.declared.recipe.Recipe.{Recipe}
use Rattle.store.specs.Meaning.{Meaning, empty_store, count_of, holds, path_at, entry_at, full_for, join_of}
use Rattle.heads.specs.declared.Head.{Head}
use Rattle.heads.specs.Heads.{new_head}
use Rattle.letters.specs.declared.letter.Letter.{Letter}
use Rattle.letters.specs.declared.letter.Tag.{Tag}
use Rattle.letters.specs.declared.letter.Tag.TheVariants.{Raise, Counted, Fetch, Entry, Put, Stored, Swept, Noted}
use Rattle.machine.specs.Kinds.{Kind}
use Rattle.machine.specs.Posts.{plain}
use Rattle.machine.specs.Sweeps.{Sweep, collecting, collected, spreading, finished}
use Rattle.machine.specs.Worlds.{Call, World, run}
use Rattle.agreement.specs.Example.{recipes, rye, says, calls, start, end}

-- the first calls of a list lead to a world, and the others go on from there
run_from : {K : Type 0} (k : Kind K) (n : ℕ) (xs : List (Call K)) (w v : World K) → run k (take n xs) w ≡ v → run k xs w ≡ run k (drop n xs) v
run_from k zero xs w v e = ap (run k xs) e
run_from k (suc n) [] w v e = e
run_from k (suc n) (x ∷ xs) w v e = run_from k n xs _ v e

-- a letter under the sweep's stamp that carries nothing
abbrev bare : Tag → ℕ → ℕ → ℕ → Letter Recipe
bare t from to n = plain recipes t from to (stamp_at 6 0) 0 n

-- one that carries the entry of copy 1
abbrev carrying : Tag → ℕ → ℕ → Letter Recipe
carrying t from to =
    record { tag = t; sender = from; addressee = to; stamp = stamp_at 6 0; place = 0; count = 0; path = rye; entry = says 1 3 }

-- the letters of the sweep in order of sending
abbrev letters : List (Letter Recipe)
letters =
    bare Raise 0 1 0
    ∷ bare Counted 1 0 1
    ∷ bare Counted 1 0 1
    ∷ bare Fetch 0 1 0
    ∷ carrying Entry 1 0
    ∷ bare Raise 0 2 0
    ∷ bare Counted 2 0 0
    ∷ carrying Put 0 1
    ∷ bare Stored 1 0 0
    ∷ bare Stored 1 0 0
    ∷ bare Swept 0 1 0
    ∷ bare Noted 1 0 0
    ∷ carrying Put 0 2
    ∷ bare Stored 2 0 0
    ∷ bare Swept 0 2 0
    ∷ bare Noted 2 0 0
    ∷ []

-- a store that holds one entry under the path
abbrev holding : Recipe → Meaning Recipe
holding e = record { pairs = (rye, e) ∷ []; places = 4 }

-- a head with its floor at the sweep's stamp
abbrev risen : Head
risen = record { floor = stamp_at 6 0; sweep = 0 }

-- a head with its sweep stamp there too
abbrev told : Head
told = record { floor = stamp_at 6 0; sweep = stamp_at 6 0 }

-- a world by the heads and stores of the three copies, how many letters of the sweep were sent, and the sweeps
abbrev world : Head → Head → Head → Meaning Recipe → Meaning Recipe → Meaning Recipe → ℕ → List Sweep → World Recipe
world h₀ h₁ h₂ m₀ m₁ m₂ n sws =
    record {
      ring = record {
        copies = 3;
        heads = h₀ ∷ h₁ ∷ h₂ ∷ replicate 5 new_head;
        stores = m₀ ∷ m₁ ∷ m₂ ∷ [];
        bag = record { letters = take n letters; places = 32 };
      };
      sweeps = sws;
      updates = record { copy = 1; path = rye; entry = says 1 3 } ∷ record { copy = 0; path = rye; entry = says 0 7 } ∷ [];
    }

-- after both posts, and the letter sent and lost
abbrev posted : World Recipe
posted = world new_head new_head new_head (holding (says 0 7)) (holding (says 1 3)) (empty_store 4) 0 []

-- home knows the count of copy 1
abbrev counted : World Recipe
counted = world risen risen new_head (holding (says 0 7)) (holding (says 1 3)) (empty_store 4) 3 (collecting (stamp_at 6 0) 0 1 (Some 1) 0 ∷ [])

-- home has the entry of copy 1
abbrev fetched : World Recipe
fetched = world risen risen new_head (holding (says 1 3)) (holding (says 1 3)) (empty_store 4) 5 (collecting (stamp_at 6 0) 0 2 None 0 ∷ [])

-- copy 2 has given nothing: all is collected
abbrev gathered : World Recipe
gathered = world risen risen risen (holding (says 1 3)) (holding (says 1 3)) (empty_store 4) 7 (collected (stamp_at 6 0) 0 ∷ [])

-- copy 1 has the joined entry
abbrev stored_one : World Recipe
stored_one = world told risen risen (holding (says 1 3)) (holding (says 1 3)) (empty_store 4) 10 (spreading (stamp_at 6 0) 0 1 1 1 ∷ [])

-- copy 1 has noted the sweep
abbrev noted_one : World Recipe
noted_one = world told told risen (holding (says 1 3)) (holding (says 1 3)) (empty_store 4) 12 (spreading (stamp_at 6 0) 0 2 1 0 ∷ [])

-- copy 2 has the joined entry
abbrev stored_two : World Recipe
stored_two = world told told risen (holding (says 1 3)) (holding (says 1 3)) (holding (says 1 3)) 14 (spreading (stamp_at 6 0) 0 2 1 1 ∷ [])

-- copy 2 has noted the sweep: it is finished
abbrev pub last : World Recipe
last = world told told told (holding (says 1 3)) (holding (says 1 3)) (holding (says 1 3)) 16 (finished (stamp_at 6 0) 0 ∷ [])

-- the calls lead from each of these worlds to the next
pub end_is : end ≡ last
unfolding legal is_label empty_store count_of holds path_at entry_at full_for join_of
end_is =
    run_from recipes 4 calls start posted refl
    ∙ run_from recipes 5 (drop 4 calls) posted counted refl
    ∙ run_from recipes 3 (drop 9 calls) counted fetched refl
    ∙ run_from recipes 3 (drop 12 calls) fetched gathered refl
    ∙ run_from recipes 5 (drop 15 calls) gathered stored_one refl
    ∙ run_from recipes 3 (drop 20 calls) stored_one noted_one refl
    ∙ run_from recipes 3 (drop 23 calls) noted_one stored_two refl
    ∙ run_from recipes 3 (drop 26 calls) stored_two last refl
