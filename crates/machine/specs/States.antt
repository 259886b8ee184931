-- The state of a ring in plain lists, the changes that calls are made of, and how a call is refused. Assumes nothing.
use Rattle.std.specs.Prelude.{ℕ, ◌+◌, Bool, cond, not, List, [], ◌∷◌, Some, None, Ok, Err, Option, Result, ◌==◌, nat_lt, slice_index_or, slice_set}
use Rattle.names.specs.declared.path.Path.{Path}
use Rattle.store.specs.Meaning.{Meaning, no_store, join_of}
use Rattle.heads.specs.declared.Head.{Head}
use Rattle.heads.specs.Heads.{new_head, floor_lifted, sweep_lifted}
use Rattle.letters.specs.declared.letter.Letter.{Letter}
use Rattle.letters.specs.Mail.{Mail, sent}
use Rattle.machine.specs.Kinds.{Kind}

-- how many copies there are, the head and the store of each by its number, and the bag
pub record State (K : Type 0) : Type 0 where
  pub copies : ℕ
  pub heads : List Head
  pub stores : List (Meaning K)
  pub bag : Mail (Letter K)

-- the store of a copy
abbrev pub store_of : {K : Type 0} → State K → ℕ → Meaning K
store_of s c = slice_index_or s.stores c no_store

-- the floor of a copy
abbrev pub floor_of : {K : Type 0} → State K → ℕ → ℕ
floor_of s c = (slice_index_or s.heads c new_head).floor

-- the sweep stamp of a copy
abbrev pub sweep_of : {K : Type 0} → State K → ℕ → ℕ
sweep_of s c = (slice_index_or s.heads c new_head).sweep

-- the copy that follows in the round: the next number, and 0 after the last
abbrev pub next_copy : ℕ → ℕ → ℕ
next_copy n c = cond (c + 1 == n) 0 (c + 1)

-- the state with another store of one copy
abbrev pub with_store : {K : Type 0} → State K → ℕ → Meaning K → State K
with_store s c m = record { copies = s.copies; heads = s.heads; stores = slice_set s.stores c m; bag = s.bag }

-- the state with other heads
abbrev pub with_heads : {K : Type 0} → State K → List Head → State K
with_heads s hs = record { copies = s.copies; heads = hs; stores = s.stores; bag = s.bag }

-- the state with another bag
abbrev pub with_bag : {K : Type 0} → State K → Mail (Letter K) → State K
with_bag s b = record { copies = s.copies; heads = s.heads; stores = s.stores; bag = b }

-- an entry joined under a path at a copy
abbrev pub joined_at : {K : Type 0} → Kind K → State K → ℕ → Path → K → State K
joined_at k s c p e = with_store s c (join_of k.join (store_of s c) p e)

-- the floor of a copy lifted to a stamp if it was lower
abbrev pub floor_at : {K : Type 0} → State K → ℕ → ℕ → State K
floor_at s c stamp = with_heads s (floor_lifted s.heads c stamp)

-- the sweep stamp of a copy lifted to a stamp if it was lower
abbrev pub sweep_at : {K : Type 0} → State K → ℕ → ℕ → State K
sweep_at s c stamp = with_heads s (sweep_lifted s.heads c stamp)

-- a letter put at the end of the bag
abbrev pub letter_sent : {K : Type 0} → State K → Letter K → State K
letter_sent s l = with_bag s (sent s.bag l)

-- the grounds of a call, in order: whether each fits, and its number
abbrev pub Grounds : Type 0
Grounds = List (Bool × ℕ)

-- the first ground that fits
abbrev pub first_ground : Grounds → Option ℕ
first_ground [] = None
first_ground (g ∷ gs) = cond g.0 (Some g.1) (first_ground gs)

-- the answer and the state by the first ground, if there is one
abbrev pub decided : {A S : Type 0} → Option ℕ → S → A × S → Result A ℕ × S
decided (Some g) before done = (Err g, before)
decided None before done = (Ok done.0, done.1)

-- a refused call answers its first ground and changes nothing; else it answers and changes as `done` says
abbrev pub settled : {A S : Type 0} → Grounds → S → A × S → Result A ℕ × S
settled gs before done = decided (first_ground gs) before done

-- the ring has no such copy
abbrev pub no_copy : {K : Type 0} → State K → ℕ → Bool
no_copy s c = not (nat_lt c s.copies)
