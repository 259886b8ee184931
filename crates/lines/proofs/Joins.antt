-- Labels are read exactly from the text that joins them by slashes. Assumes nothing.
use Rattle.std.proofs.Common.{◌≡◌, ℕ, ◌+◌, ◌≤◌, Bool, true, false, cond, eqb, leb, List, [], ◌∷◌, ◌++◌, length, Some, None, Option, sym, refl, ap, ◌∙◌, subst, arith}
use Rattle.std.proofs.lemmas.Bool.{ne_eqb, leb-true, le-leb, and_parts, both_ways}
use Rattle.names.specs.Labels.{label, legal, all_legal, label_text, packed, read_label}
use Rattle.names.specs.declared.label.Label.{Label}
use Rattle.std.specs.List.{All, join_with_byte, count_by}
use Rattle.std.proofs.lemmas.List.Elements.{All-nil, All-cons}
use Rattle.std.proofs.lemmas.List.Splits.{slice_split_none, slice_split_at, length-slice_split, join_with_byte-slice_split}
use Rattle.std.specs.Option.{option_map}
use Rattle.lines.specs.Fields.{◌then◌}
use Rattle.lines.specs.Laws.{Joined, LabelsJoined}
use Rattle.lines.specs.Names.{parts_of, all_labels, at_most}

-- no byte is a slash
abbrev NoSlash : List ℕ → Type 0
NoSlash bs = All (λ b. eqb b 47 ≡ false) bs

slash_illegal : legal 47 ≡ false
unfolding legal
slash_illegal = refl

legal_no_slash : (bs : List ℕ) → all_legal bs ≡ true → NoSlash bs
legal_no_slash [] h = All-nil (λ x. eqb x 47 ≡ false)
legal_no_slash (b ∷ bs) h =
    let p : (legal b ≡ true) × (all_legal bs ≡ true) = and_parts _ _ h in
    All-cons (λ x. eqb x 47 ≡ false) b bs (ne_eqb b 47 (λ e. both_ways (legal b) (ap legal e ∙ slash_illegal) p.0)) (legal_no_slash bs p.1)

-- the text of a label has no slash
label_no_slash : (bs : List ℕ) (l : Label) → read_label bs ≡ Some l → NoSlash bs
label_no_slash bs l h = go (label_text bs) refl h
  where
    go : (t : Bool) → label_text bs ≡ t → cond t (Some (label (packed 0 8 bs))) None ≡ Some l → NoSlash bs
    go true e h = legal_no_slash bs (and_parts _ _ e).1
    go false e h = let z : ◌≡◌ {A = ℕ} 0 1 = cc in absurd (omega arith)

joined_read : (ls : List Label) (text : List ℕ) → Joined ls text → all_labels (parts_of text) ≡ Some ls
joined_read [] text h = absurd h
joined_read (l ∷ []) text h = ap all_labels (slice_split_none _ text (label_no_slash text l h)) ∙ ap (λ o. o then (λ x. Some (x ∷ []))) h
joined_read (l ∷ (m ∷ ls)) text h =
    let first = h.0 in
    let rest = h.1.0 in
    let read = h.1.2 in
    ap (λ bs. all_labels (parts_of bs)) h.1.1
    ∙ ap all_labels (slice_split_at _ first 47 rest (label_no_slash first l read) refl)
    ∙ ap (λ o. o then (λ x. option_map (λ xs. x ∷ xs) (all_labels (parts_of rest)))) read
    ∙ ap (option_map (λ xs. l ∷ xs)) (joined_read (m ∷ ls) rest h.1.3)

-- labels read from parts are joined in the text of the parts
parts_joined : (part : List ℕ) (parts : List (List ℕ)) (ls : List Label) → all_labels (part ∷ parts) ≡ Some ls → Joined ls (join_with_byte 47 (part ∷ parts))
parts_joined part [] ls h = go (read_label part) refl h
  where
    go : (o : Option Label) → read_label part ≡ o → (o then (λ l. Some (l ∷ []))) ≡ Some ls → Joined ls part
    go None e h = let z : ◌≡◌ {A = ℕ} 0 1 = cc in absurd (omega arith)
    go (Some l) e h = let is : l ∷ [] ≡ ls = cc in subst (λ xs. Joined xs part) is e
parts_joined part (next ∷ parts) ls h = go (read_label part) refl (all_labels (next ∷ parts)) refl h (parts_joined next parts)
  where
    text : List ℕ
    text = join_with_byte 47 (next ∷ parts)

    more : (l : Label) (xs : List Label) → read_label part ≡ Some l → Joined xs text → Joined (l ∷ xs) (part ++ (47 ∷ text))
    more l [] e h = absurd h
    more l (m ∷ xs) e h = (part, (text, refl, e, h))

    go : (o : Option Label) → read_label part ≡ o → (p : Option (List Label)) → all_labels (next ∷ parts) ≡ p → (o then (λ l. option_map (λ xs. l ∷ xs) (all_labels (next ∷ parts)))) ≡ Some ls → ((xs : List Label) → all_labels (next ∷ parts) ≡ Some xs → Joined xs text) → Joined ls (part ++ (47 ∷ text))
    go None e p f h ih = let z : ◌≡◌ {A = ℕ} 0 1 = cc in absurd (omega arith)
    go (Some l) e None f h ih = let z : ◌≡◌ {A = ℕ} 0 1 = let g : None ≡ Some ls = sym (ap (option_map (λ xs. l ∷ xs)) f) ∙ h in cc in absurd (omega arith)
    go (Some l) e (Some xs) f h ih =
        let g : Some (l ∷ xs) ≡ Some ls = sym (ap (option_map (λ ys. l ∷ ys)) f) ∙ h in
        let is : l ∷ xs ≡ ls = cc in
        subst (λ ys. Joined ys (part ++ (47 ∷ text))) is (more l xs e (ih xs f))

read_joined : (ls : List Label) (text : List ℕ) → all_labels (parts_of text) ≡ Some ls → Joined ls text
read_joined ls text h = go (parts_of text) h (length-slice_split _ text) (join_with_byte-slice_split 47 text)
  where
    go : (parts : List (List ℕ)) → all_labels parts ≡ Some ls → length parts ≡ count_by (λ b. eqb b 47) text + 1 → join_with_byte 47 parts ≡ text → Joined ls text
    go [] h some is = absurd (omega arith)
    go (part ∷ parts) h some is = subst (Joined ls) is (parts_joined part parts ls h)

pub labels_joined : LabelsJoined
labels_joined limit text ls = (there (all_labels (parts_of text)) refl, λ h. ap (λ o. o then at_most limit) (joined_read ls text h.0) ∙ ap (λ t. cond t (Some ls) None) (le-leb _ _ h.1))
  where
    few : (xs : List Label) (t : Bool) → leb (length xs) limit ≡ t → cond t (Some xs) None ≡ Some ls → all_labels (parts_of text) ≡ Some xs → Joined ls text × (length ls ≤ limit)
    few xs true e h read =
        let is : xs ≡ ls = cc in
        let low = leb-true (length xs) limit e in
        (read_joined ls text (read ∙ ap Some is), subst (λ ys. length ys ≤ limit) is low)
    few xs false e h read = let z : ◌≡◌ {A = ℕ} 0 1 = cc in absurd (omega arith)

    there : (o : Option (List Label)) → all_labels (parts_of text) ≡ o → (all_labels (parts_of text) then at_most limit) ≡ Some ls → Joined ls text × (length ls ≤ limit)
    there None e h = let z : ◌≡◌ {A = ℕ} 0 1 = let g : None ≡ Some ls = sym (ap (λ o. o then at_most limit) e) ∙ h in cc in absurd (omega arith)
    there (Some xs) e h = few xs (leb (length xs) limit) refl (sym (ap (λ o. o then at_most limit) e) ∙ h) e
