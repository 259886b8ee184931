-- What is known of a call that no ground refuses. Assumes nothing.
use Rattle.std.proofs.Common.{◌≡◌, ℕ, ◌<◌, Bool, true, false, cond, ◌&&◌, ◌||◌, ltb, List, [], ◌∷◌, ◌++◌, Some, None, Option, sym, refl, ap, ◌∙◌}
use Rattle.std.specs.List.{AllByRecursion}
use Rattle.std.proofs.lemmas.Bool.{false≢true, ltb-true, not-false, or_parts}
use Rattle.names.specs.declared.path.Path.{Path}
use Rattle.store.specs.Meaning.{Meaning, full_for, join_of}
use Rattle.letters.specs.declared.letter.Tag.{Tag}
use Rattle.letters.specs.declared.letter.Tag.TheVariants.{News, Raise, Counted, Fetch, Entry, Put, Stored, Swept, Noted}
use Rattle.machine.specs.Kinds.{Kind}
use Rattle.machine.specs.States.{State, Grounds, first_ground, decided, settled, no_copy}
use Rattle.machine.specs.Posts.{some_more, some_of, fills_more, fills}
use Rattle.machine.specs.Sweeps.{is_counted, is_entry, is_stored, is_noted}
use Rattle.agreement.proofs.Tables.{never_both}

-- none of the grounds fits
abbrev pub Passed : Grounds → Type 0
Passed [] = Unit {0}
Passed (g ∷ gs) = (g.0 ≡ false) × Passed gs

-- where there is no first ground, none fits
pub none_fits : (gs : Grounds) → first_ground gs ≡ None → Passed gs
none_fits [] h = tt
none_fits (g ∷ gs) h = go (none_fits gs) g.0 refl h
  where
    go : (first_ground gs ≡ None → Passed gs) → (b : Bool) → g.0 ≡ b → cond b (Some g.1) (first_ground gs) ≡ None → Passed (g ∷ gs)
    go later true e h = absurd (never_both _ g.1 h refl)
    go later false e h = (e, later h)

-- what holds before a call, and after it if no ground fits, holds of what the call leaves
pub settled_keeps : {A S : Type 0} (P : S → Type 0) (gs : Grounds) (before : S) (done : A × S) → P before → (Passed gs → P done.1) → P (settled gs before done).1
settled_keeps {A} {S} P gs before done old new = go (first_ground gs) refl
  where
    go : (o : Option ℕ) → first_ground gs ≡ o → P (decided o before done).1
    go (Some g) e = old
    go None e = new (none_fits gs e)

-- the later grounds pass where all do
pub passed_later : (gs hs : Grounds) → Passed (gs ++ hs) → Passed hs
passed_later [] hs h = h
passed_later (g ∷ gs) hs h = passed_later gs hs h.1

-- the ring has the copy
pub has_copy : {K : Type 0} (s : State K) (c : ℕ) → no_copy s c ≡ false → c < s.copies
has_copy s c h = ltb-true c s.copies (not-false (ltb c s.copies) h)

-- where no element passes a test, nor did one before, each fails it
some_more_none : {A : Type 0} (f : A → Bool) (b : Bool) (xs : List A) → some_more f b xs ≡ false → (b ≡ false) × AllByRecursion (λ x. f x ≡ false) xs
some_more_none f b [] h = (h, tt)
some_more_none f b (x ∷ xs) h =
    let r = some_more_none f (b || f x) xs h in
    let o = or_parts b (f x) r.0 in
    (o.0, (o.1, r.1))

-- where no element passes a test, each fails it
pub some_of_none : {A : Type 0} (f : A → Bool) (xs : List A) → some_of f xs ≡ false → AllByRecursion (λ x. f x ≡ false) xs
some_of_none f [] h = tt
some_of_none f (x ∷ xs) h = some_more_none f (f x) xs h

-- each update, joined one after another, finds room in the store
abbrev pub Roomy : {K : Type 0} → Kind K → Meaning K → List (Path × K) → Type 0
Roomy k m [] = Unit {0}
Roomy k m (x ∷ xs) = (full_for m x.0 ≡ false) × Roomy k (join_of k.join m x.0 x.1) xs

-- where no update finds the store full, nor did one before, each finds room
fills_more_none : {K : Type 0} (k : Kind K) (b : Bool) (m : Meaning K) (xs : List (Path × K)) → fills_more k b m xs ≡ false → (b ≡ false) × Roomy k m xs
fills_more_none k b m [] h = (h, tt)
fills_more_none k b m (x ∷ xs) h =
    let r = fills_more_none k (b || full_for m x.0) (join_of k.join m x.0 x.1) xs h in
    let o = or_parts b (full_for m x.0) r.0 in
    (o.0, (o.1, r.1))

-- where no update finds the store full, each finds room
pub fills_none : {K : Type 0} (k : Kind K) (m : Meaning K) (xs : List (Path × K)) → fills k m xs ≡ false → Roomy k m xs
fills_none k m [] h = tt
fills_none k m (x ∷ xs) h = fills_more_none k (full_for m x.0) (join_of k.join m x.0 x.1) xs h

-- what holds of every tag
by_tag : (P : Tag → Type 0) → P News → P Raise → P Counted → P Fetch → P Entry → P Put → P Stored → P Swept → P Noted → (t : Tag) → P t
by_tag P a b c d e f g h i News = a
by_tag P a b c d e f g h i Raise = b
by_tag P a b c d e f g h i Counted = c
by_tag P a b c d e f g h i Fetch = d
by_tag P a b c d e f g h i Entry = e
by_tag P a b c d e f g h i Put = f
by_tag P a b c d e f g h i Stored = g
by_tag P a b c d e f g h i Swept = h
by_tag P a b c d e f g h i Noted = i

-- a test that fails
no : {A : Type 0} → false ≡ true → A
no h = absurd (false≢true h)

-- a letter that passes as counted is so tagged
pub tag_counted : (t : Tag) → is_counted t ≡ true → t ≡ Counted
tag_counted = by_tag (λ t. is_counted t ≡ true → t ≡ Counted) no no (λ _. refl) no no no no no no

-- as an entry
pub tag_entry : (t : Tag) → is_entry t ≡ true → t ≡ Entry
tag_entry = by_tag (λ t. is_entry t ≡ true → t ≡ Entry) no no no no (λ _. refl) no no no no

-- as stored
pub tag_stored : (t : Tag) → is_stored t ≡ true → t ≡ Stored
tag_stored = by_tag (λ t. is_stored t ≡ true → t ≡ Stored) no no no no no no (λ _. refl) no no

-- as noted
pub tag_noted : (t : Tag) → is_noted t ≡ true → t ≡ Noted
tag_noted = by_tag (λ t. is_noted t ≡ true → t ≡ Noted) no no no no no no no no (λ _. refl)

-- of two tests that do not both pass, the second fails where the first passes
pub and_second : (x y : Bool) → x ≡ true → (x && y) ≡ false → y ≡ false
and_second x y h f = ap (λ b. b && y) (sym h) ∙ f
