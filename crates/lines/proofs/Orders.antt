-- The values of fields are read exactly from the text in which they stand in order. Assumes nothing.
use Rattle.std.proofs.Common.{◌≡◌, ℕ, suc, Bool, true, false, cond, eqb, List, [], ◌∷◌, ◌++◌, length, take, drop, Some, None, codes, Option, sym, refl, ap, ◌∙◌, subst, append_assoc, arith}
use Rattle.std.proofs.lemmas.List.{take_at, drop_at, take-append-drop}
use Rattle.std.proofs.lemmas.Bool.{eqb-false, ne_eqb, both_ways}
use Rattle.std.specs.Option.{option_map}
use Rattle.lines.specs.Fields.{◌then◌, before_byte, begins, front_of, value_and_rest, after_front, when_empty, field_values}
use Rattle.lines.specs.Laws.{NoSpace, InOrder, FieldsInOrder}
use Rattle.lines.proofs.Fronts.{begins_front, front_begins}

-- what stands before the first space has none
no_space_before : (bs : List ℕ) → NoSpace (take (before_byte 32 bs) bs)
no_space_before [] = tt
no_space_before (b ∷ bs) = go (eqb b 32) refl (no_space_before bs)
  where
    go : (t : Bool) → eqb b 32 ≡ t → NoSpace (take (before_byte 32 bs) bs) → NoSpace (take (cond t 0 (suc (before_byte 32 bs))) (b ∷ bs))
    go true h before = tt
    go false h before = (eqb-false b 32 h, before)

-- a value with no space runs to the next space
value_ends : (value rest : List ℕ) → NoSpace value → before_byte 32 rest ≡ 0 → before_byte 32 (value ++ rest) ≡ length value
value_ends [] rest no' h = h
value_ends (b ∷ value) rest no' h = ap (λ t. cond t 0 (suc (before_byte 32 (value ++ rest)))) (ne_eqb b 32 no'.0) ∙ ap suc (value_ends value rest no'.1 h)

-- after a value stands a space, or nothing
space_next : (keys values : List (List ℕ)) (rest : List ℕ) → InOrder keys values rest → before_byte 32 rest ≡ 0
space_next [] [] rest h = ap (before_byte 32) h
space_next [] (v ∷ vs) rest h = absurd h
space_next (k ∷ ks) [] rest h = absurd h
space_next (k ∷ ks) (v ∷ vs) rest h = ap (before_byte 32) h.1.1

-- the front of a key, a value and a rest, taken together or one by one
regrouped : (key value rest : List ℕ) → front_of key ++ (value ++ rest) ≡ codes " " ++ (key ++ (codes "=" ++ (value ++ rest)))
regrouped key value rest = ap (λ bs. 32 ∷ bs) (append_assoc key (61 ∷ []) (value ++ rest))

-- a field that stands at the front is read
field_read : (key value rest : List ℕ) → NoSpace value → before_byte 32 rest ≡ 0 → after_front (front_of key) (front_of key ++ (value ++ rest)) ≡ Some (value, rest)
field_read key value rest no' next =
    let all = value ++ rest in
    let behind : drop (length (front_of key)) (front_of key ++ all) ≡ all = drop_at (front_of key) all (length (front_of key)) refl in
    let n : before_byte 32 all ≡ length value = value_ends value rest no' next in
    ap (λ t. cond t (Some (value_and_rest (drop (length (front_of key)) (front_of key ++ all)))) None) (begins_front (front_of key) all)
    ∙ ap (λ bs. Some (value_and_rest bs)) behind
    ∙ ap (λ k. Some (take k all, drop k all)) n
    ∙ ap (λ v. Some (v, drop (length value) all)) (take_at value rest (length value) refl)
    ∙ ap (λ r. Some (value, r)) (drop_at value rest (length value) refl)

read_in_order : (keys values : List (List ℕ)) (text : List ℕ) → InOrder keys values text → field_values keys text ≡ Some values
read_in_order [] [] text h = ap (λ bs. when_empty bs []) h
read_in_order [] (v ∷ vs) text h = absurd h
read_in_order (k ∷ ks) [] text h = absurd h
read_in_order (k ∷ ks) (v ∷ vs) text h =
    let rest = h.1.0 in
    let is : text ≡ front_of k ++ (v ++ rest) = h.1.1 ∙ sym (regrouped k v rest) in
    ap (field_values (k ∷ ks)) is
    ∙ ap (λ o. o then (λ f. option_map (λ vs. f.0 ∷ vs) (field_values ks f.1))) (field_read k v rest h.0 (space_next ks vs rest h.1.2))
    ∙ ap (option_map (λ vs. v ∷ vs)) (read_in_order ks vs rest h.1.2)

-- one field and then the others
field_in_order : (key : List ℕ) (keys values : List (List ℕ)) (value rest text : List ℕ) (o : Option (List (List ℕ))) → text ≡ front_of key ++ (value ++ rest) → NoSpace value → ((vs : List (List ℕ)) → o ≡ Some vs → InOrder keys vs rest) → option_map (λ vs. value ∷ vs) o ≡ Some values → InOrder (key ∷ keys) values text
field_in_order key keys values value rest text None is no' more h = let z : ◌≡◌ {A = ℕ} 0 1 = cc in absurd (omega arith)
field_in_order key keys values value rest text (Some vs) is no' more h =
    let e : value ∷ vs ≡ values = cc in
    subst (λ xs. InOrder (key ∷ keys) xs text) e (no', (rest, is ∙ regrouped key value rest, more vs refl))

-- a text that is not empty has no values of no fields
no_values : (t : Bool) (values : List (List ℕ)) → t ≡ false → cond t (Some []) None ≡ Some values → ⊥
no_values true values e h = both_ways true e refl
no_values false values e h = let z : ◌≡◌ {A = ℕ} 0 1 = cc in omega arith

in_order_read : (keys values : List (List ℕ)) (text : List ℕ) → field_values keys text ≡ Some values → InOrder keys values text
in_order_read [] values [] h = let e : [] ≡ values = cc in subst (λ vs. InOrder [] vs []) e refl
in_order_read [] values (b ∷ bs) h = absurd (no_values _ values (ne_eqb (length (b ∷ bs)) 0 (λ e. omega (arith, e))) h)
in_order_read (k ∷ ks) values text h = go (begins (front_of k) text) refl h (λ vs. in_order_read ks vs (value_and_rest (drop (length (front_of k)) text)).1)
  where
    go : (t : Bool) → begins (front_of k) text ≡ t → (cond t (Some (value_and_rest (drop (length (front_of k)) text))) None then (λ f. option_map (λ vs. f.0 ∷ vs) (field_values ks f.1))) ≡ Some values → ((vs : List (List ℕ)) → field_values ks (value_and_rest (drop (length (front_of k)) text)).1 ≡ Some vs → InOrder ks vs (value_and_rest (drop (length (front_of k)) text)).1) → InOrder (k ∷ ks) values text
    go true begun h more =
        let tail = drop (length (front_of k)) text in
        let n = before_byte 32 tail in
        field_in_order k ks values (take n tail) (drop n tail) text (field_values ks (drop n tail))
        (front_begins (front_of k) text begun ∙ ap (λ bs. front_of k ++ bs) (sym (take-append-drop n tail))) (no_space_before tail) more h
    go false begun h more = let z : ◌≡◌ {A = ℕ} 0 1 = cc in absurd (omega arith)

pub fields_in_order : FieldsInOrder
fields_in_order keys values text = (in_order_read keys values text, read_in_order keys values text)
