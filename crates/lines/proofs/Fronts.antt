-- A text begins with a front exactly when it is the front and what follows it. Assumes nothing.
use Rattle.std.proofs.Common.{◌≡◌, ℕ, true, cond, List, ◌++◌, length, take, drop, Some, None, sym, refl, ap, ◌∙◌}
use Rattle.std.proofs.lemmas.Bool.Decides.{Decides-eqb}
use Rattle.std.proofs.lemmas.Slice.Eq.{starts_is}
use Rattle.std.proofs.lemmas.List.{drop-drop, drop_at}
use Rattle.lines.specs.Fields.{before_byte, begins, value_and_rest, after_front, cut_at}

pub begins_front : (front rest : List ℕ) → begins front (front ++ rest) ≡ true
begins_front front rest = (starts_is Decides-eqb (front ++ rest) front _ refl).1 rest refl

pub front_begins : (front bs : List ℕ) → begins front bs ≡ true → bs ≡ front ++ drop (length front) bs
front_begins front bs h = (starts_is Decides-eqb bs front _ refl).0 h

-- the place of the value after a front
pub value_place : (front text value : List ℕ) (n : ℕ) → text ≡ front ++ value → n ≡ before_byte 32 value → Some (cut_at text (length front, n)) ≡ after_front front text
value_place front text value n is e =
    let start = length front in
    let h : begins front text ≡ true = ap (begins front) is ∙ begins_front front value in
    let rest : value ≡ drop start text = sym (ap (drop start) is ∙ drop_at front value start refl) in
    sym (
    ap (λ t. cond t (Some (value_and_rest (drop start text))) None) h
    ∙ ap (λ k. Some (take k (drop start text), drop k (drop start text))) (sym (e ∙ ap (before_byte 32) rest))
    ∙ ap (λ bs. Some (take n (drop start text), bs)) (drop-drop n start text)
    )
