-- What is checked before a ring is made. Assumes nothing.
use Rattle.std.specs.Prelude.{ℕ, Bool, not, ◌&&◌, ◌||◌, List, [], ◌∷◌, length, replicate, Some, None, Ok, Err, Option, Result, ◌==◌, nat_le}
use Rattle.std.specs.List.{list_any}
use Rattle.grounds.specs.Grounds.{ground_number}
use Rattle.store.specs.Meaning.{Meaning, count_of}
use Rattle.store.specs.declared.bank.Bank.{Ghosts as Banks}
use Rattle.letters.specs.declared.bag.Bag.{Ghosts as Bags}
use Rattle.letters.specs.declared.letter.Letter.{Letter}
use Rattle.letters.specs.Mail.{Mail, emptied}
use Rattle.heads.specs.Heads.{new_head}
use Rattle.machine.specs.States.{State, Grounds, first_ground}
use Rattle.ring.specs.declared.opening.Opening.{Opening}
use Rattle.ring.specs.declared.opening.NotOpened.{NotOpened}

-- one of the stores passes
abbrev pub some_store : {K : Type 0} → (Meaning K → Bool) → List (Meaning K) → Bool
some_store f ms = list_any f ms

-- not 1 to so many
abbrev pub outside : ℕ → ℕ → Bool
outside most n = not (nat_le 1 n && nat_le n most)

-- a store with too few or too many places
abbrev pub bad_places : {K : Type 0} → Meaning K → Bool
bad_places m = outside 4096 m.places

-- a store that holds a pair
abbrev pub not_empty : {K : Type 0} → Meaning K → Bool
not_empty m = not (count_of m == 0)

-- 2 to 8 copies, places within their limits, and empty stores
abbrev pub open_grounds : {K : Type 0} → List (Meaning K) → Mail (Letter K) → Grounds
open_grounds stores bag =
    (not (nat_le 2 (length stores) && nat_le (length stores) 8), 3)
    ∷ (some_store bad_places stores || outside 1024 bag.places, 4)
    ∷ (some_store not_empty stores, 5)
    ∷ []

-- the number of copies, or a ground; stores and bag stay as they are
abbrev pub open_answer : Option ℕ → ℕ → Result ℕ ℕ
open_answer None n = Ok n
open_answer (Some g) n = Err g

-- a check: the number of copies or the first ground, and stores and bag as they were
abbrev pub open_check : {K : Type 0} → List (Meaning K) → Mail (Letter K) → Result ℕ ℕ × (List (Meaning K) × Mail (Letter K))
open_check stores bag = (open_answer (first_ground (open_grounds stores bag)) (length stores), (stores, bag))

-- the same, of the built check
abbrev pub checked_by : {K B G : Type 0} → Banks B K → Bags G (Letter K) → Result (Opening K B G) (NotOpened B G) → Result ℕ ℕ × (List (Meaning K) × Mail (Letter K))
checked_by b g (Ok o) = (Ok o.copies, (b.meanings o.stores, g.mail o.bag))
checked_by b g (Err e) = (Err (ground_number e.ground), (b.meanings e.stores, g.mail e.bag))

-- a ring just made: all heads at 0, and the bag emptied
abbrev pub made_of : {K B G : Type 0} → Banks B K → Bags G (Letter K) → Opening K B G → State K
made_of b g o = record { copies = o.copies; heads = replicate 8 new_head; stores = b.meanings o.stores; bag = emptied (g.mail o.bag) }
