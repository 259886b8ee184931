-- What a store has of an entry, and what a join adds to a store, from the laws of stores. Assumes nothing.
use Rattle.std.proofs.Common.{◌≡◌, ℕ, ◌<◌, Bool, true, false, get_or, set, Some, None, Option, unwrap_or, sym, refl, ap, ◌∙◌, subst}
use Rattle.std.proofs.lemmas.List.{set-get_or}
use Rattle.names.specs.declared.path.Path.{Path}
use Rattle.names.specs.Paths.{same_path}
use Rattle.names.specs.Same.{same_is}
use Rattle.store.specs.Meaning.{Meaning, Sound, count_of, holds, place_of, path_at, entry_at, full_for, join_of}
use Rattle.store.specs.Laws.{entry_of, onto}
use Rattle.store.proofs.Pairs.{held_among, held_not_full, join_held, entry_here, join_taken, join_refused}
use Rattle.store.proofs.Kept.{found_at_its_place, holds_old_join_new, others_stay, found_is_held, held_is_found}
use Rattle.machine.specs.Kinds.{Kind, Laws}

-- at a place stands one path
pub one_path : {K : Type 0} (blank : K) (m : Meaning K) (p q : Path) (i : ℕ) → place_of m p ≡ Some i → place_of m q ≡ Some i → p ≡ q
one_path blank m p q i f g = sym (found_is_held blank m p i f).1 ∙ (found_is_held blank m q i g).1

-- what lies at a place is held under the path there
pub entry_there : {K : Type 0} (blank : K) (m : Meaning K) (i : ℕ) → Sound m → i < count_of m → entry_of m (path_at m i) ≡ Some (entry_at blank m i)
entry_there blank m i ok l = (found_is_held blank m (path_at m i) i (held_is_found blank m i ok l)).2

-- what a join leaves of a path: what it had, or at an accepted join's own path the place it had, or the end, and old join new
join_cases : {K : Type 0} (join : K → K → K) (m : Meaning K) (p : Path) (e : K) (q : Path) (P : Option ℕ → Option K → Type 0) → P (place_of m q) (entry_of m q) → (full_for m p ≡ false → q ≡ p → P (Some (unwrap_or (place_of m p) (count_of m))) (Some (onto join (entry_of m p) e))) → P (place_of (join_of join m p e) q) (entry_of (join_of join m p e) q)
join_cases {K} join m p e q P before here = by_room (full_for m p) refl
  where
    both : (n : Meaning K) (r : Path) (i : Option ℕ) (a : Option K) → place_of n r ≡ i → entry_of n r ≡ a → P i a → P (place_of n r) (entry_of n r)
    both n r i a f g h = subst (λ o. P o (entry_of n r)) (sym f) (subst (P i) (sym g) h)

    by_path : full_for m p ≡ false → (b : Bool) → same_path p q ≡ b → P (place_of (join_of join m p e) q) (entry_of (join_of join m p e) q)
    by_path n true s =
        let r = sym (same_is p q s) in
        both _ q _ _ (ap (place_of (join_of join m p e)) r ∙ found_at_its_place join m p e n) (ap (entry_of (join_of join m p e)) r ∙ holds_old_join_new join m p e n) (here n r)
    by_path n false s =
        let stay = others_stay join m p e q s in
        both _ q _ _ stay.0 stay.1 before

    by_room : (b : Bool) → full_for m p ≡ b → P (place_of (join_of join m p e) q) (entry_of (join_of join m p e) q)
    by_room true n = subst (λ x. P (place_of x q) (entry_of x q)) (sym (join_refused join m p e n)) before
    by_room false n = by_path n (same_path p q) refl

module _ {K : Type 0} (k : Kind K) where
  -- the first entry has all that the second says
  abbrev pub Covers : K → K → Type 0
  Covers a b = k.join a b ≡ a

  -- a store holds the path with an entry that covers e
  pub record Present (m : Meaning K) (p : Path) (e : K) : Type 0 where
    pub place : ℕ
    pub lies : place_of m p ≡ Some place
    pub held : K
    pub is : entry_of m p ≡ Some held
    pub covered : Covers held e

  -- the second store keeps each path of the first at its place, with an entry that covers the old one
  pub record Extends (m n : Meaning K) : Type 0 where
    pub lies : (p : Path) (i : ℕ) → place_of m p ≡ Some i → place_of n p ≡ Some i
    pub held : (p : Path) (a : K) → entry_of m p ≡ Some a → (b : K) × (entry_of n p ≡ Some b) × Covers b a

module _ {K : Type 0} (k : Kind K) (laws : Laws k) where
  -- an entry covers itself
  pub covers_self : (a : K) → Covers k a a
  covers_self a = laws.idempotent a

  -- and what is covered by what it covers
  pub covers_trans : (a b c : K) → Covers k a b → Covers k b c → Covers k a c
  covers_trans a b c p q = cc (laws.associative a b c)

  -- what covers two entries covers their join
  pub covers_join : (a b c : K) → Covers k a b → Covers k a c → Covers k a (k.join b c)
  covers_join a b c p q = cc (laws.associative a b c)

  -- a join covers its second entry
  pub covers_right : (a b : K) → Covers k (k.join a b) b
  covers_right a b = cc (laws.associative a b b, laws.idempotent b)

  -- and its first
  pub covers_left : (a b : K) → Covers k (k.join a b) a
  covers_left a b = cc (laws.associative a b a, laws.commutative b a, laws.associative a a b, laws.idempotent a)

  -- two entries that cover each other are equal
  pub covers_both : (a b : K) → Covers k a b → Covers k b a → a ≡ b
  covers_both a b p q = cc (laws.commutative a b)

  -- a store extends itself
  pub extends_self : (m : Meaning K) → Extends k m m
  extends_self m = record { lies = λ p i f. f; held = λ p a f. (a, f, covers_self a) }

  -- what is present stays so where a store is extended
  pub present_on : (m n : Meaning K) (p : Path) (e : K) → Extends k m n → Present k m p e → Present k n p e
  present_on m n p e ext h =
      let g = ext.held p h.held h.is in
      record { place = h.place; lies = ext.lies p h.place h.lies; held = g.0; is = g.1; covered = covers_trans _ _ _ g.2 h.covered }

  -- where an entry is present, so is what it covers
  pub present_less : (m : Meaning K) (p : Path) (e f : K) → Covers k e f → Present k m p e → Present k m p f
  present_less m p e f c h =
      record { place = h.place; lies = h.lies; held = h.held; is = h.is; covered = covers_trans _ _ _ h.covered c }

  -- an entry that is present is covered by the one that is held
  pub covered_there : (m : Meaning K) (p : Path) (e a : K) → entry_of m p ≡ Some a → Present k m p e → Covers k a e
  covered_there m p e a f h =
      let z : h.held ≡ a = cc h.is in
      subst (λ x. Covers k x e) z h.covered

  -- an accepted join makes its entry present
  pub present_join : (m : Meaning K) (p : Path) (e : K) → full_for m p ≡ false → Present k (join_of k.join m p e) p e
  present_join m p e n =
      record { place = unwrap_or (place_of m p) (count_of m); lies = found_at_its_place k.join m p e n; held = onto k.join (entry_of m p) e; is = holds_old_join_new k.join m p e n; covered = over (entry_of m p) }
    where
      over : (o : Option K) → Covers k (onto k.join o e) e
      over None = covers_self e
      over (Some a) = covers_right a e

  -- a join extends the store
  pub extends_join : (m : Meaning K) (p : Path) (e : K) → Extends k m (join_of k.join m p e)
  extends_join m p e =
      record {
        lies = λ q i f. join_cases k.join m p e q (λ o _. o ≡ Some i) f (λ _ s. ap (λ o. Some (unwrap_or o (count_of m))) (ap (place_of m) (sym s) ∙ f));
        held = λ q a f. join_cases k.join m p e q (λ _ o. (b : K) × (o ≡ Some b) × Covers k b a) (a, f, covers_self a) (λ _ s. (k.join a e, ap (λ o. Some (onto k.join o e)) (ap (entry_of m) (sym s) ∙ f), covers_left a e));
      }

  -- what holds of each held entry and of the new one, and is kept by joins, holds of each held entry after a join
  pub each_join : (Q : Path → K → Type 0) → ((p : Path) (a b : K) → Q p a → Q p b → Q p (k.join a b)) → (m : Meaning K) (p : Path) (e : K) → Q p e → ((q : Path) (a : K) → entry_of m q ≡ Some a → Q q a) → (q : Path) (a : K) → entry_of (join_of k.join m p e) q ≡ Some a → Q q a
  each_join Q both m p e new old q =
      join_cases k.join m p e q (λ _ o. (a : K) → o ≡ Some a → Q q a) (old q) (λ _ s a f. let z : onto k.join (entry_of m p) e ≡ a = cc in subst (λ r. Q r a) (sym s) (subst (Q p) z (with_old (entry_of m p) refl)))
    where
      with_old : (o : Option K) → entry_of m p ≡ o → Q p (onto k.join o e)
      with_old None g = new
      with_old (Some x) g = both p x e (old p x g) new

  -- what is present is held
  pub present_held : (m : Meaning K) (p : Path) (e : K) → Present k m p e → holds m p ≡ true
  unfolding holds place_of
  present_held m p e h = held_among m.pairs p h.place (sym h.lies)

  -- and joining it again changes nothing
  pub present_again : (m : Meaning K) (p : Path) (e : K) → Present k m p e → join_of k.join m p e ≡ m
  unfolding place_of entry_at count_of
  present_again m p e h =
      join_taken k.join m p e (held_not_full m p h.place (sym h.lies))
      ∙ ap (λ ps. record { pairs = ps; places = m.places }) (join_held k.join m.pairs p e h.place (p, e) h.lies ∙ ap (λ y. set m.pairs h.place ((get_or m.pairs h.place (p, e)).0, y)) same ∙ set-get_or m.pairs h.place (p, e))
    where
      same : k.join (get_or m.pairs h.place (p, e)).1 e ≡ (get_or m.pairs h.place (p, e)).1
      same =
          let f = found_is_held e m p h.place h.lies in
          cc (h.is, h.covered, f.2, entry_here e m.pairs h.place (p, e) f.0)
