-- A line asks for something exactly when its letter's form does, of the fields behind it. Assumes nothing.
use Rattle.std.proofs.Common.{◌≡◌, ℕ, Bool, true, false, cond, List, [], ◌∷◌, ◌++◌, drop, Some, None, codes, refl, ap, ◌∙◌, arith}
use Rattle.lines.specs.Fields.{begins}
use Rattle.lines.specs.Asked.{Asked, asked_form, asked_after, asked_by}
use Rattle.lines.specs.Laws.{LettersPick}
use Rattle.lines.proofs.Fronts.{front_begins}

-- what follows `op=` asks for something only where a letter comes first
letter_first : (line rest : List ℕ) (asked : Asked) → line ≡ codes "op=" ++ rest → asked_after rest ≡ Some asked → (form : ℕ) × ((fields : List ℕ) × (line ≡ codes "op=" ++ (form ∷ fields)) × (asked_form form fields ≡ Some asked))
letter_first line [] asked is h = let z : ◌≡◌ {A = ℕ} 0 1 = cc in absurd (omega arith)
letter_first line (form ∷ fields) asked is h = (form, (fields, is, h))

pub letters_pick : LettersPick
letters_pick line asked = (go (begins (codes "op=") line) refl, λ p. ap asked_by p.1.1 ∙ p.1.2)
  where
    go : (t : Bool) → begins (codes "op=") line ≡ t → cond t (asked_after (drop 3 line)) None ≡ Some asked → (form : ℕ) × ((fields : List ℕ) × (line ≡ codes "op=" ++ (form ∷ fields)) × (asked_form form fields ≡ Some asked))
    go true op h = letter_first line (drop 3 line) asked (front_begins (codes "op=") line op) h
    go false op h = let z : ◌≡◌ {A = ℕ} 0 1 = cc in absurd (omega arith)
