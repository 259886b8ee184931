-- Sweeps as plain values, and the calls on them. Assumes nothing.
use Rattle.std.specs.Prelude.{ℕ, ◌+◌, Bool, true, false, cond, not, ◌&&◌, ◌||◌, [], ◌∷◌, Some, None, Option, Result, ◌==◌, nat_le, nat_lt}
use Rattle.names.specs.Stamps.{stamp_at}
use Rattle.store.specs.Meaning.{count_of, full_for}
use Rattle.letters.specs.declared.letter.Letter.{Letter}
use Rattle.letters.specs.declared.letter.Tag.{Tag}
use Rattle.letters.specs.declared.letter.Tag.TheVariants.{News, Raise, Counted, Fetch, Entry, Put, Stored, Swept, Noted}
use Rattle.letters.specs.Mail.{letter_at, is_full}
use Rattle.machine.specs.Kinds.{Kind}
use Rattle.machine.specs.States.{State, Grounds, store_of, floor_of, next_copy, joined_at, floor_at, sweep_at, letter_sent, first_ground, settled, no_copy}
use Rattle.machine.specs.Posts.{plain, laden}

-- a sweep in each of its states: its stamp, home, copy in hand, count (of the copy in hand, if it is known) and place
pub data Sweep : Type 0 where
  collecting : ℕ → ℕ → ℕ → Option ℕ → ℕ → Sweep
  collected : ℕ → ℕ → Sweep
  spreading : ℕ → ℕ → ℕ → ℕ → ℕ → Sweep
  finished : ℕ → ℕ → Sweep
  ended : Sweep

-- a call on a sweep that is not in the state needed
abbrev pub wrong_state : Grounds
wrong_state = (true, 2) ∷ []

-- begin makes a sweep's stamp at a copy, its home, and starts the round
abbrev pub begin_grounds : {K : Type 0} → State K → ℕ → ℕ → Grounds
begin_grounds s c time = (no_copy s c, 6) ∷ (nat_le (stamp_at time c) (floor_of s c), 14) ∷ []

-- the sweep that an accepted begin gives
abbrev pub begun : {K : Type 0} → State K → ℕ → ℕ → Sweep
begun s c time = collecting (stamp_at time c) c (next_copy s.copies c) None 0

-- its step
abbrev pub begin : {K : Type 0} → State K → ℕ → ℕ → Result Sweep ℕ × State K
begin s c time = settled (begin_grounds s c time) s (begun s c time, floor_at s c (stamp_at time c))

-- press sends, from home to the copy in hand, what the sweep wants next
abbrev pub asking : {K : Type 0} → Kind K → ℕ → ℕ → ℕ → Option ℕ → ℕ → Letter K
asking k stamp home in_hand None place = plain k Raise home in_hand stamp 0 0
asking k stamp home in_hand (Some n) place = plain k Fetch home in_hand stamp place 0

-- put of the place with what lies there at home, or swept when all places were put
abbrev pub telling : {K : Type 0} → Kind K → State K → ℕ → ℕ → ℕ → ℕ → ℕ → Letter K
telling k s stamp home in_hand count place =
    cond (place == count) (plain k Swept home in_hand stamp 0 0) (laden k Put home in_hand stamp place (store_of s home) place)

-- the grounds of press
abbrev pub press_grounds : {K : Type 0} → State K → Sweep → Grounds
press_grounds s (collecting stamp home in_hand count place) = (no_copy s home || no_copy s in_hand, 6) ∷ (is_full s.bag, 17) ∷ []
press_grounds s (spreading stamp home in_hand count place) =
    (no_copy s home || no_copy s in_hand, 6)
    ∷ (not (place == count) && not (nat_lt place (count_of (store_of s home))), 10)
    ∷ (is_full s.bag, 17)
    ∷ []
press_grounds s (collected stamp home) = wrong_state
press_grounds s (finished stamp home) = wrong_state
press_grounds s ended = wrong_state

-- the state after an accepted press
abbrev pub pressed : {K : Type 0} → Kind K → State K → Sweep → State K
pressed k s (collecting stamp home in_hand count place) = letter_sent s (asking k stamp home in_hand count place)
pressed k s (spreading stamp home in_hand count place) = letter_sent s (telling k s stamp home in_hand count place)
pressed k s (collected stamp home) = s
pressed k s (finished stamp home) = s
pressed k s ended = s

-- its step
abbrev pub press : {K : Type 0} → Kind K → State K → Sweep → Result (Unit {0}) ℕ × State K
press k s w = settled (press_grounds s w) s (tt, pressed k s w)

-- the tag counted
abbrev pub is_counted : Tag → Bool
is_counted News = false
is_counted Raise = false
is_counted Counted = true
is_counted Fetch = false
is_counted Entry = false
is_counted Put = false
is_counted Stored = false
is_counted Swept = false
is_counted Noted = false

-- the tag entry
abbrev pub is_entry : Tag → Bool
is_entry News = false
is_entry Raise = false
is_entry Counted = false
is_entry Fetch = false
is_entry Entry = true
is_entry Put = false
is_entry Stored = false
is_entry Swept = false
is_entry Noted = false

-- the tag stored
abbrev pub is_stored : Tag → Bool
is_stored News = false
is_stored Raise = false
is_stored Counted = false
is_stored Fetch = false
is_stored Entry = false
is_stored Put = false
is_stored Stored = true
is_stored Swept = false
is_stored Noted = false

-- the tag noted
abbrev pub is_noted : Tag → Bool
is_noted News = false
is_noted Raise = false
is_noted Counted = false
is_noted Fetch = false
is_noted Entry = false
is_noted Put = false
is_noted Stored = false
is_noted Swept = false
is_noted Noted = true

-- a letter to home from the copy in hand under the sweep's stamp
abbrev pub is_reply : {K : Type 0} → ℕ → ℕ → ℕ → Letter K → Bool
is_reply stamp home in_hand l = l.addressee == home && (l.sender == in_hand && l.stamp == stamp)

-- counted while the count is unknown, then entry with the awaited place
abbrev pub wanted_entry : {K : Type 0} → Option ℕ → ℕ → Letter K → Bool
wanted_entry None place l = is_counted l.tag
wanted_entry (Some n) place l = is_entry l.tag && l.place == place

-- stored with the awaited place, or noted when the place equals the count
abbrev pub wanted_note : {K : Type 0} → ℕ → ℕ → Letter K → Bool
wanted_note count place l = cond (place == count) (is_noted l.tag) (is_stored l.tag && l.place == place)

-- when the place has come to the count the next copy follows, its count unknown, and after the last the sweep is collected
abbrev pub went_on : ℕ → ℕ → ℕ → ℕ → ℕ → ℕ → Sweep
went_on n stamp home in_hand count place =
    cond (place == count)
    (cond (next_copy n in_hand == home) (collected stamp home) (collecting stamp home (next_copy n in_hand) None 0))
    (collecting stamp home in_hand (Some count) place)

-- an entry is joined at home, for which there may be no place
abbrev pub joining_grounds : {K : Type 0} → State K → ℕ → Option ℕ → Letter K → Grounds
joining_grounds s home None l = []
joining_grounds s home (Some n) l = (full_for (store_of s home) l.path, 16) ∷ []

-- the grounds against the letter of that number, if there is one
abbrev pub reply_grounds : {K : Type 0} → State K → ℕ → ℕ → ℕ → Option ℕ → ℕ → Option (Letter K) → Grounds
reply_grounds s stamp home in_hand count place None = (true, 8) ∷ []
reply_grounds s stamp home in_hand count place (Some l) =
    (not (is_reply stamp home in_hand l && wanted_entry count place l), 9) ∷ joining_grounds s home count l

-- collect reads the awaited reply, which stays in the bag
abbrev pub collect_grounds : {K : Type 0} → State K → Sweep → Option (Letter K) → Grounds
collect_grounds s (collecting stamp home in_hand count place) found =
    (no_copy s home || no_copy s in_hand, 6) ∷ reply_grounds s stamp home in_hand count place found
collect_grounds s (collected stamp home) found = wrong_state
collect_grounds s (spreading stamp home in_hand count place) found = wrong_state
collect_grounds s (finished stamp home) found = wrong_state
collect_grounds s ended found = wrong_state

-- counted sets the count; an entry is joined at home and the place goes up
abbrev pub read_reply : {K : Type 0} → Kind K → State K → ℕ → ℕ → ℕ → Option ℕ → ℕ → Letter K → Sweep × State K
read_reply k s stamp home in_hand None place l = (went_on s.copies stamp home in_hand l.count 0, s)
read_reply k s stamp home in_hand (Some n) place l = (went_on s.copies stamp home in_hand n (place + 1), joined_at k s home l.path l.entry)

-- sweep and state after an accepted collect
abbrev pub after_collect : {K : Type 0} → Kind K → State K → Sweep → Option (Letter K) → Sweep × State K
after_collect k s (collecting stamp home in_hand count place) None = (collecting stamp home in_hand count place, s)
after_collect k s (collecting stamp home in_hand count place) (Some l) = read_reply k s stamp home in_hand count place l
after_collect k s (collected stamp home) found = (collected stamp home, s)
after_collect k s (spreading stamp home in_hand count place) found = (spreading stamp home in_hand count place, s)
after_collect k s (finished stamp home) found = (finished stamp home, s)
after_collect k s ended found = (ended, s)

-- the ground with what was before, or what comes after
abbrev pub turned : {A : Type 0} → Option ℕ → A → A → Option ℕ × A
turned (Some g) before after = (Some g, before)
turned None before after = (None, after)

-- a refused call on a sweep gives its ground, and sweep and state as they were
abbrev pub moved : {A : Type 0} → Grounds → A → A → Option ℕ × A
moved gs before after = turned (first_ground gs) before after

-- its step
abbrev pub collect : {K : Type 0} → Kind K → State K → Sweep → ℕ → Option ℕ × (Sweep × State K)
collect k s w i =
    moved (collect_grounds s w (letter_at s.bag.letters i)) (w, s) (after_collect k s w (letter_at s.bag.letters i))

-- spread lifts home's sweep stamp and starts the round again, with home's count for the whole of it
abbrev pub spread_grounds : {K : Type 0} → State K → Sweep → Grounds
spread_grounds s (collecting stamp home in_hand count place) = wrong_state
spread_grounds s (collected stamp home) = (no_copy s home, 6) ∷ []
spread_grounds s (spreading stamp home in_hand count place) = wrong_state
spread_grounds s (finished stamp home) = wrong_state
spread_grounds s ended = wrong_state

-- sweep and state after an accepted spread
abbrev pub after_spread : {K : Type 0} → State K → Sweep → Sweep × State K
after_spread s (collecting stamp home in_hand count place) = (collecting stamp home in_hand count place, s)
after_spread s (collected stamp home) =
    (spreading stamp home (next_copy s.copies home) (count_of (store_of s home)) 0, sweep_at s home stamp)
after_spread s (spreading stamp home in_hand count place) = (spreading stamp home in_hand count place, s)
after_spread s (finished stamp home) = (finished stamp home, s)
after_spread s ended = (ended, s)

-- its step
abbrev pub spread : {K : Type 0} → State K → Sweep → Option ℕ × (Sweep × State K)
spread s w = moved (spread_grounds s w) (w, s) (after_spread s w)

-- the grounds against the letter of that number, if there is one
abbrev pub note_grounds : {K : Type 0} → ℕ → ℕ → ℕ → ℕ → ℕ → Option (Letter K) → Grounds
note_grounds stamp home in_hand count place None = (true, 8) ∷ []
note_grounds stamp home in_hand count place (Some l) = (not (is_reply stamp home in_hand l && wanted_note count place l), 9) ∷ []

-- confirm reads the awaited reply, which stays in the bag
abbrev pub confirm_grounds : {K : Type 0} → State K → Sweep → Option (Letter K) → Grounds
confirm_grounds s (collecting stamp home in_hand count place) found = wrong_state
confirm_grounds s (collected stamp home) found = wrong_state
confirm_grounds s (spreading stamp home in_hand count place) found =
    (no_copy s home || no_copy s in_hand, 6) ∷ note_grounds stamp home in_hand count place found
confirm_grounds s (finished stamp home) found = wrong_state
confirm_grounds s ended found = wrong_state

-- stored raises the place; noted gives the next copy, and after the last the sweep is finished
abbrev pub noted_on : ℕ → ℕ → ℕ → ℕ → ℕ → ℕ → Sweep
noted_on n stamp home in_hand count place =
    cond (place == count)
    (cond (next_copy n in_hand == home) (finished stamp home) (spreading stamp home (next_copy n in_hand) count 0))
    (spreading stamp home in_hand count (place + 1))

-- the sweep after an accepted confirm
abbrev pub after_confirm : {K : Type 0} → State K → Sweep → Sweep
after_confirm s (collecting stamp home in_hand count place) = collecting stamp home in_hand count place
after_confirm s (collected stamp home) = collected stamp home
after_confirm s (spreading stamp home in_hand count place) = noted_on s.copies stamp home in_hand count place
after_confirm s (finished stamp home) = finished stamp home
after_confirm s ended = ended

-- its step
abbrev pub confirm : {K : Type 0} → State K → Sweep → ℕ → Option ℕ × (Sweep × State K)
confirm s w i = moved (confirm_grounds s w (letter_at s.bag.letters i)) (w, s) (after_confirm s w, s)

-- close ends a finished sweep
abbrev pub close_grounds : Sweep → Grounds
close_grounds (collecting stamp home in_hand count place) = wrong_state
close_grounds (collected stamp home) = wrong_state
close_grounds (spreading stamp home in_hand count place) = wrong_state
close_grounds (finished stamp home) = []
close_grounds ended = wrong_state

-- abandon ends any other
abbrev pub abandon_grounds : Sweep → Grounds
abandon_grounds (collecting stamp home in_hand count place) = []
abandon_grounds (collected stamp home) = []
abandon_grounds (spreading stamp home in_hand count place) = []
abandon_grounds (finished stamp home) = wrong_state
abandon_grounds ended = wrong_state

-- the stamp of a sweep
abbrev pub stamp_of : Sweep → ℕ
stamp_of (collecting stamp home in_hand count place) = stamp
stamp_of (collected stamp home) = stamp
stamp_of (spreading stamp home in_hand count place) = stamp
stamp_of (finished stamp home) = stamp
stamp_of ended = 0
