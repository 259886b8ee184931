-- The lines of an input in plain words. Assumes nothing.
use Rattle.std.specs.Prelude.{◌≡◌, ℕ, ◌⊎◌, List, [], ◌∷◌, ◌++◌, ◌≢◌, All}
use Rattle.replaying.specs.Replays.{lines_of}

-- the lines one after another, each ended by byte 10
abbrev pub ended : List (List ℕ) → List ℕ
ended [] = []
ended (line ∷ lines) = line ++ (10 ∷ ended lines)

-- the lines have no byte 10, and each ended by it they are the input, or the input with its last line ended
pub record IsItsLines (input : List ℕ) : Type 0 where
  pub lines : All (All (λ b. b ≢ 10)) (lines_of input)
  pub whole : (ended (lines_of input) ≡ input) ⊎ (ended (lines_of input) ≡ input ++ (10 ∷ []))

-- the line without the byte 10 at its end, if it has one there
abbrev pub IsUnended : List ℕ → List ℕ → Type 0
IsUnended line bare = (line ≡ bare ++ (10 ∷ [])) ⊎ ((bare ≡ line) × ((front : List ℕ) → line ≢ front ++ (10 ∷ [])))
