-- A list of calls on a ring and its sweeps, as data, and what it does. Assumes nothing.
use Rattle.std.specs.Prelude.{ℕ, List, [], ◌∷◌, ◌++◌, length, replicate, Result, slice_index_or, slice_set}
use Rattle.names.specs.declared.path.Path.{Path}
use Rattle.names.specs.Stamps.{stamp_at}
use Rattle.store.specs.Meaning.{Meaning}
use Rattle.heads.specs.Heads.{new_head}
use Rattle.letters.specs.Mail.{letter_at, lost}
use Rattle.letters.specs.declared.letter.Tag.TheVariants.{News}
use Rattle.machine.specs.Kinds.{Kind}
use Rattle.machine.specs.States.{State, Grounds, store_of, floor_at, with_bag, letter_sent, settled}
use Rattle.machine.specs.Posts.{laden, posting_grounds, posted, mail_grounds, hand_grounds, after_hand, lose_grounds}
use Rattle.machine.specs.Sweeps.{Sweep, collecting, collected, spreading, finished, ended, begin_grounds, begun, press_grounds, pressed, collect_grounds, after_collect, spread_grounds, after_spread, confirm_grounds, after_confirm, close_grounds, abandon_grounds, stamp_of}

-- the calls; a letter goes by its number in the bag, a sweep by its number among the accepted begins
pub data Call (K : Type 0) : Type 0 where
  -- updates at a copy, all or none, and the grounds of the call's own
  posts : ℕ → List (Path × K) → (State K → Grounds) → Call K
  mail : ℕ → ℕ → ℕ → Call K
  hand : ℕ → Call K
  lose : ℕ → Call K
  begin : ℕ → ℕ → Call K
  press : ℕ → Call K
  collect : ℕ → ℕ → Call K
  spread : ℕ → Call K
  confirm : ℕ → ℕ → Call K
  close : ℕ → Call K
  abandon : ℕ → Call K

-- what an accepted call answers besides: more or done for collect and confirm, its stamp for close
pub data Got : Type 0 where
  nothing : Got
  more : Got
  done : Got
  stamped : ℕ → Got

-- an accepted update
pub record Update (K : Type 0) : Type 0 where
  pub copy : ℕ
  pub path : Path
  pub entry : K

-- the ring, the sweeps in the order of their begins, and the updates accepted so far, the newest first
pub record World (K : Type 0) : Type 0 where
  pub ring : State K
  pub sweeps : List Sweep
  pub updates : List (Update K)

-- the sweep of a number; a number past them is as one that has ended
abbrev pub sweep_number : {K : Type 0} → World K → ℕ → Sweep
sweep_number w j = slice_index_or w.sweeps j ended

-- the world with another ring
abbrev pub with_ring : {K : Type 0} → World K → State K → World K
with_ring w s = record { ring = s; sweeps = w.sweeps; updates = w.updates }

-- the world with another sweep of that number, and another ring
abbrev pub with_sweep : {K : Type 0} → World K → ℕ → Sweep × State K → World K
with_sweep w j x = record { ring = x.1; sweeps = slice_set w.sweeps j x.0; updates = w.updates }

-- the updates of a posting, added to those before
abbrev pub recorded : {K : Type 0} → ℕ → List (Path × K) → List (Update K) → List (Update K)
recorded c [] us = us
recorded c (x ∷ xs) us = recorded c xs (record { copy = c; path = x.0; entry = x.1 } ∷ us)

-- whether a sweep that a reply moved on is through with its round
abbrev pub how_far : Sweep → Got
how_far (collecting stamp home in_hand count place) = more
how_far (collected stamp home) = done
how_far (spreading stamp home in_hand count place) = more
how_far (finished stamp home) = done
how_far ended = nothing

-- a call's grounds, and what it answers and leaves if none fits
abbrev pub doing : {K : Type 0} → Kind K → Call K → World K → Grounds × (Got × World K)
doing k (posts c xs own) w =
    (posting_grounds k w.ring c xs (own w.ring), (nothing, record { ring = posted k w.ring c xs; sweeps = w.sweeps; updates = recorded c xs w.updates }))
doing k (mail from to place) w =
    (mail_grounds w.ring from to place, (nothing, with_ring w (letter_sent w.ring (laden k News from to 0 0 (store_of w.ring from) place))))
doing k (hand i) w =
    let found = letter_at w.ring.bag.letters i in (hand_grounds w.ring found, (nothing, with_ring w (after_hand k w.ring found)))
doing k (lose i) w = (lose_grounds w.ring i, (nothing, with_ring w (with_bag w.ring (lost w.ring.bag i))))
doing k (begin c time) w =
    (begin_grounds w.ring c time, (nothing, record { ring = floor_at w.ring c (stamp_at time c); sweeps = w.sweeps ++ begun w.ring c time ∷ []; updates = w.updates }))
doing k (press j) w =
    (press_grounds w.ring (sweep_number w j), (nothing, with_sweep w j (sweep_number w j, pressed k w.ring (sweep_number w j))))
doing k (collect j i) w =
    let found = letter_at w.ring.bag.letters i in
    let after = after_collect k w.ring (sweep_number w j) found in
    (collect_grounds w.ring (sweep_number w j) found, (how_far after.0, with_sweep w j after))
doing k (spread j) w = (spread_grounds w.ring (sweep_number w j), (nothing, with_sweep w j (after_spread w.ring (sweep_number w j))))
doing k (confirm j i) w =
    let found = letter_at w.ring.bag.letters i in
    let after = after_confirm w.ring (sweep_number w j) in
    (confirm_grounds w.ring (sweep_number w j) found, (how_far after, with_sweep w j (after, w.ring)))
doing k (close j) w = (close_grounds (sweep_number w j), (stamped (stamp_of (sweep_number w j)), with_sweep w j (ended, w.ring)))
doing k (abandon j) w = (abandon_grounds (sweep_number w j), (nothing, with_sweep w j (ended, w.ring)))

-- one call: its answer, and the world after it
abbrev pub step : {K : Type 0} → Kind K → Call K → World K → Result Got ℕ × World K
step k x w = settled (doing k x w).0 w (doing k x w).1

-- a list of calls, one after another
abbrev pub run : {K : Type 0} → Kind K → List (Call K) → World K → World K
run k [] w = w
run k (x ∷ xs) w = run k xs (step k x w).1

-- what each of them answers
abbrev pub answers : {K : Type 0} → Kind K → List (Call K) → World K → List (Result Got ℕ)
answers k [] w = []
answers k (x ∷ xs) w = (step k x w).0 ∷ answers k xs (step k x w).1

-- a ring just opened over these stores, with room for so many letters
abbrev pub opened : {K : Type 0} → List (Meaning K) → ℕ → World K
opened stores room =
    record { ring = record { copies = length stores; heads = replicate 8 new_head; stores = stores; bag = record { letters = []; places = room } }; sweeps = []; updates = [] }
