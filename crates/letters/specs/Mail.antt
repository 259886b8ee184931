-- What a bag means, its questions and its changes. Assumes nothing.
use Rattle.std.specs.Prelude.{ℕ, zero, suc, Bool, cond, List, [], ◌∷◌, ◌++◌, length, Some, None, Ok, Err, Option, Result, nat_le, nat_lt}

-- the letters of a bag in order of sending, and for how many there is room
pub record Mail (L : Type 0) : Type 0 where
  pub letters : List L
  pub places : ℕ

-- the letter of a number, counted from 0, if there is one
abbrev pub letter_at : {L : Type 0} → List L → ℕ → Option L
letter_at [] i = None
letter_at (x ∷ xs) zero = Some x
letter_at (x ∷ xs) (suc i) = letter_at xs i

-- the letters without the one of a number; later ones move up
abbrev pub without : {L : Type 0} → List L → ℕ → List L
without [] i = []
without (x ∷ xs) zero = xs
without (x ∷ xs) (suc i) = x ∷ without xs i

-- there is no room for another letter
abbrev pub is_full : {L : Type 0} → Mail L → Bool
is_full m = nat_le m.places (length m.letters)

-- ground 17 where there is no room
abbrev pub send_answer : {L : Type 0} → Mail L → Result (Unit {0}) ℕ
send_answer m = cond (is_full m) (Err 17) (Ok tt)

-- the bag after a letter was sent: it stands last, if there was room
abbrev pub sent : {L : Type 0} → Mail L → L → Mail L
sent m x = cond (is_full m) m (record { letters = m.letters ++ x ∷ []; places = m.places })

-- ground 8 where there is no such letter
abbrev pub lose_answer : {L : Type 0} → Mail L → ℕ → Result (Unit {0}) ℕ
lose_answer m i = cond (nat_lt i (length m.letters)) (Ok tt) (Err 8)

-- the bag after a letter was lost: the others keep their order
abbrev pub lost : {L : Type 0} → Mail L → ℕ → Mail L
lost m i = record { letters = without m.letters i; places = m.places }

-- the bag with its letters taken out
abbrev pub emptied : {L : Type 0} → Mail L → Mail L
emptied m = record { letters = []; places = m.places }
