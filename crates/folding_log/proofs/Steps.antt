-- What each call of a log rests on: one more slot, and the slots so far. Assumes nothing.
use Rattle.std.proofs.Common.{◌≡◌, ℕ, zero, suc, ◌+◌, ◌/◌, ◌<◌, ◌≤◌, Bool, true, false, cond, ◌||◌, eqb, ◌⊎◌, List, [], ◌∷◌, ◌++◌, map, length, get_or, take, drop, is_some, Some, None, Option, unwrap_or, sym, refl, ap, ◌∙◌, subst, inl, inr, ⊎_elim, arith}
use Rattle.std.proofs.Math.Seq.{take-length}
use Rattle.std.proofs.lemmas.Bool.{cond-true, cond-false, both_ways, and_parts, or_right, eqb-true, eqb-false, eq-eqb, cases_lt}
use Rattle.std.proofs.lemmas.List.{take-append-drop, take_more, get_or_past, length_push, map_push, map-append}
use Rattle.std.specs.List.{filter, find, fold}
use Rattle.std.specs.Option.{option_map}
use Rattle.names.specs.declared.path.Path.{Path}
use Rattle.names.specs.Paths.{same_path, no_path}
use Rattle.names.specs.Same.{same_is, same_refl}
use Rattle.store.specs.Meaning.{Meaning, count_of, place_of, full_for, paths_of, path_in, entry_in, among, distinct, place_in, join_pairs}
use Rattle.store.specs.Laws.{onto}
use Rattle.store.specs.Joins.{length_paths, join_paths, among_push}
use Rattle.store.proofs.Places.{among_is, among_here, place_own, place_push, place_stands}
use Rattle.store.proofs.Pairs.{held_among, new_among, held_not_full, new_full}
use Rattle.folding_log.specs.declared.Log.{Log}
use Rattle.folding_log.specs.declared.slot.LogSlot.{LogSlot}
use Rattle.folding_log.specs.Slots.{pair_of, joined_to, log_pairs, with_path, with_paths, arrivals, is_place, placed, place_under, path_under, joined_under, blank_slot, seat}
use Rattle.folding_log.specs.Logs.{log_meaning, log_sound, joined_paths, joined_distinct, pairs_length}
use Rattle.folding_log.proofs.Arrivals.{among_with_paths, with_paths_append, place_with_paths}
use Rattle.folding_log.proofs.Numbers.{placed_at, joined_append, paths_append}

-- one pair joined, and where its path then stands
module _ {K : Type 0} (join : K → K → K) (ps : List (Path × K)) (p : Path) (e : K) (m : ℕ) (at : place_in (paths_of (join_pairs join ps p e)) p ≡ Some m) where
  -- either the path was held, at m, or it is new, and m is the end
  pub step_ways : (place_in (paths_of ps) p ≡ Some m) ⊎ ((among (paths_of ps) p ≡ false) × (m ≡ length ps))
  step_ways = go (among (paths_of ps) p) refl
    where
      go : (b : Bool) → among (paths_of ps) p ≡ b → (place_in (paths_of ps) p ≡ Some m) ⊎ ((among (paths_of ps) p ≡ false) × (m ≡ length ps))
      go true h = inl (ap (λ qs. place_in qs p) (sym (join_paths join ps p e ∙ cond-true _ _ _ h)) ∙ at)
      go false h =
          let f : place_in (paths_of ps ++ p ∷ []) p ≡ Some m = ap (λ qs. place_in qs p) (sym (join_paths join ps p e ∙ cond-false _ _ _ h)) ∙ at in
          let both : Some m ≡ Some (length (paths_of ps)) = sym f ∙ place_push (paths_of ps) p h in
          let k : m ≡ length (paths_of ps) = cc in
          inr (h, k ∙ length_paths ps)

  pub step_held : m < length ps → place_in (paths_of ps) p ≡ Some m
  step_held lt = ⊎_elim (λ h. h) (λ h. absurd (omega (arith, h.1))) step_ways

  pub step_new : length ps ≤ m → (among (paths_of ps) p ≡ false) × (m ≡ length ps)
  step_new le = ⊎_elim (λ h. absurd (let s = place_stands (paths_of ps) p m h in omega (arith, s.low, length_paths ps))) (λ h. h) step_ways

-- the entry at a place, if the list has that place
abbrev pub held_at : {K : Type 0} → List (Path × K) → ℕ → Option K
held_at [] k = None
held_at (x ∷ xs) zero = Some x.1
held_at (x ∷ xs) (suc k) = held_at xs k

pub held_value : {K : Type 0} (b : K) (ps : List (Path × K)) (k : ℕ) → unwrap_or (held_at ps k) b ≡ entry_in b ps k
held_value b [] k = refl
held_value b (x ∷ xs) zero = refl
held_value b (x ∷ xs) (suc k) = held_value b xs k

-- a pair joined changes the entry at the place of its path, and no other
module _ {K : Type 0} (join : K → K → K) (p : Path) (e : K) where
  abbrev JoinedAt : List (Path × K) → List (Path × K) → ℕ → Type 0
  JoinedAt ps qs m = (held_at qs m ≡ Some (onto join (held_at ps m) e)) × ((k : ℕ) → (k ≡ m → ⊥) → held_at qs k ≡ held_at ps k)

  first_joined : (ps : List (Path × K)) (q : Path) (v : K) → onto join (held_at ps 0) e ≡ v → ((k : ℕ) → held_at (drop 1 ps) k ≡ held_at ps (suc k)) → JoinedAt ps ((q, v) ∷ drop 1 ps) 0
  first_joined ps q v made rest = (ap Some (sym made), others)
    where
      others : (k : ℕ) → (k ≡ 0 → ⊥) → held_at ((q, v) ∷ drop 1 ps) k ≡ held_at ps k
      others zero ne = absurd (ne refl)
      others (suc k) ne = rest k

  later_joined : (x : Path × K) (ps qs : List (Path × K)) (m : ℕ) → JoinedAt ps qs m → JoinedAt (x ∷ ps) (x ∷ qs) (suc m)
  later_joined x ps qs m h = (h.0, others)
    where
      others : (k : ℕ) → (k ≡ suc m → ⊥) → held_at (x ∷ qs) k ≡ held_at (x ∷ ps) k
      others zero ne = refl
      others (suc k) ne = h.1 k (λ z. ne (ap suc z))

  pub joined_at : (ps : List (Path × K)) (m : ℕ) → place_in (paths_of (join_pairs join ps p e)) p ≡ Some m → JoinedAt ps (join_pairs join ps p e) m
  joined_at [] m at =
      let z : ◌≡◌ {A = Option ℕ} (Some 0) (Some m) = sym (cond-true _ _ _ (same_refl p)) ∙ at in
      let z0 : 0 ≡ m = cc in
      subst (JoinedAt [] ((p, e) ∷ [])) z0 (first_joined [] p e refl (λ k. refl))
  joined_at (x ∷ xs) m at = go (joined_at xs) (same_path x.0 p) refl (place_in (paths_of (join_pairs join xs p e)) p) refl at
    where
      go : ((k : ℕ) → place_in (paths_of (join_pairs join xs p e)) p ≡ Some k → JoinedAt xs (join_pairs join xs p e) k) → (b : Bool) → same_path x.0 p ≡ b → (o : Option ℕ) → place_in (paths_of (join_pairs join xs p e)) p ≡ o → place_in (paths_of (cond b ((x.0, join x.1 e) ∷ xs) (x ∷ join_pairs join xs p e))) p ≡ Some m → JoinedAt (x ∷ xs) (cond b ((x.0, join x.1 e) ∷ xs) (x ∷ join_pairs join xs p e)) m
      go ih true h o f at =
          let z : ◌≡◌ {A = Option ℕ} (Some 0) (Some m) = sym (cond-true _ _ _ h) ∙ at in
          let z0 : 0 ≡ m = cc in
          subst (JoinedAt (x ∷ xs) ((x.0, join x.1 e) ∷ xs)) z0 (first_joined (x ∷ xs) x.0 _ refl (λ k. refl))
      go ih false h None f at = absurd (both_ways false refl (ap is_some (sym (ap (option_map suc) f) ∙ sym (cond-false _ _ _ h) ∙ at)))
      go ih false h (Some k) f at =
          let z : ◌≡◌ {A = Option ℕ} (Some (suc k)) (Some m) = sym (ap (option_map suc) f) ∙ sym (cond-false _ _ _ h) ∙ at in
          let zk : suc k ≡ m = cc in
          subst (JoinedAt (x ∷ xs) (x ∷ join_pairs join xs p e)) zk (later_joined x xs (join_pairs join xs p e) k (ih k f))

-- a path, found or new, with its place and the number of paths held with it
pub record Seated {K : Type 0} (m : Meaning K) (p : Path) (place held : ℕ) : Type 0 where
  pub room : full_for m p ≡ false
  pub some : 0 < m.places
  pub within : held ≤ m.places
  pub stands : place_in (with_path (paths_of m.pairs) p) p ≡ Some place
  pub counts : held ≡ length (with_path (paths_of m.pairs) p)

module _ {K : Type 0} (m : Meaning K) (p : Path) where
  seat_found : (k : ℕ) → Some k ≡ place_of m p → length m.pairs ≤ m.places → Seated m p k (length m.pairs)
  unfolding place_of
  seat_found k f le =
      let g : with_path (paths_of m.pairs) p ≡ paths_of m.pairs = cond-true _ _ _ (held_among m.pairs p k f) in
      let s = place_stands (paths_of m.pairs) p k (sym f) in
      record { room = held_not_full m p k f; some = omega (arith, s.low, length_paths m.pairs); within = le; stands = ap (λ qs. place_in qs p) g ∙ sym f; counts = sym (ap length g ∙ length_paths m.pairs) }

  seat_new : None ≡ place_of m p → length m.pairs ≤ m.places → eqb (length m.pairs) m.places ≡ false → Seated m p (length m.pairs) (length m.pairs + 1)
  unfolding place_of count_of
  seat_new f le free =
      let a = new_among m.pairs p f in
      let g : with_path (paths_of m.pairs) p ≡ paths_of m.pairs ++ p ∷ [] = cond-false _ _ _ a in
      let ne = eqb-false _ _ free in
      record {
        room = new_full m p f ∙ free;
        some = omega arith;
        within = omega arith;
        stands = ap (λ qs. place_in qs p) g ∙ place_push (paths_of m.pairs) p a ∙ ap Some (length_paths m.pairs);
        counts = sym (ap length g ∙ length_push (paths_of m.pairs) p ∙ ap (λ n. n + 1) (length_paths m.pairs));
      }

  seated : (o : Option ℕ) (k n : ℕ) → o ≡ place_of m p → length m.pairs ≤ m.places → ◌≡◌ {A = Option (ℕ × ℕ)} (Some (k, n)) (seat o (length m.pairs) m.places) → Seated m p k n
  seated (Some j) k n f le e =
      let same : ◌≡◌ {A = ℕ × ℕ} (j, length m.pairs) (k, n) = cc in
      subst (λ (x : ℕ × ℕ). Seated m p x.0 x.1) same (seat_found j f le)
  seated None k n f le e = go (eqb (length m.pairs) m.places) refl e
    where
      go : (b : Bool) → eqb (length m.pairs) m.places ≡ b → ◌≡◌ {A = Option (ℕ × ℕ)} (Some (k, n)) (cond b None (Some (length m.pairs, length m.pairs + 1))) → Seated m p k n
      go true h e = absurd (both_ways true (ap is_some e) refl)
      go false h e =
          let same : ◌≡◌ {A = ℕ × ℕ} (length m.pairs, length m.pairs + 1) (k, n) = cc in
          subst (λ (x : ℕ × ℕ). Seated m p x.0 x.1) same (seat_new f le h)

  unseated : (o : Option ℕ) → o ≡ place_of m p → None ≡ seat o (length m.pairs) m.places → full_for m p ≡ true
  unfolding count_of
  unseated (Some j) f e = absurd (both_ways true (sym (ap is_some e)) refl)
  unseated None f e = new_full m p f ∙ go (eqb (length m.pairs) m.places) e
    where
      go : (b : Bool) → ◌≡◌ {A = Option (ℕ × ℕ)} None (cond b None (Some (length m.pairs, length m.pairs + 1))) → b ≡ true
      go true e = refl
      go false e = absurd (both_ways true (sym (ap is_some e)) refl)

-- the same of a log
module _ {K : Type 0} (join : K → K → K) (t : Log K) (p : Path) (o : Option ℕ) (f : o ≡ place_of (log_meaning join t) p) where
  held_is : t.held ≡ length (log_pairs join t.slots.items)
  held_is = t.counted ∙ sym (pairs_length join t.slots.items)

  pub log_seated : (k n : ℕ) → ◌≡◌ {A = Option (ℕ × ℕ)} (Some (k, n)) (seat o t.held (t.slots.places / 2)) → Seated (log_meaning join t) p k n
  log_seated k n e = seated (log_meaning join t) p o k n f (log_sound join t).within (e ∙ ap (λ h. seat o h (t.slots.places / 2)) held_is)

  pub log_unseated : None ≡ seat o t.held (t.slots.places / 2) → full_for (log_meaning join t) p ≡ true
  log_unseated e = unseated (log_meaning join t) p o f (e ∙ ap (λ h. seat o h (t.slots.places / 2)) held_is)

-- slots that have the places of their paths among qs
module _ {K : Type 0} (qs : List Path) where
  under_is : (ss : List (LogSlot K)) (p : Path) → placed qs ss ≡ true → place_under ss p ≡ cond (among (paths_of (map pair_of ss)) p) (place_in qs p) None
  under_is [] p num = refl
  under_is (s ∷ ss) p num = go (under_is ss p (and_parts (is_place (place_in qs s.path) s.place) (placed qs ss) num).1) (same_path s.path p) refl
    where
      go : place_under ss p ≡ cond (among (paths_of (map pair_of ss)) p) (place_in qs p) None → (b : Bool) → same_path s.path p ≡ b → option_map (λ (x : LogSlot K). x.place) (cond b (Some s) (find (λ (x : LogSlot K). same_path x.path p) ss)) ≡ cond (b || among (paths_of (map pair_of ss)) p) (place_in qs p) None
      go ih true h = sym (ap (place_in qs) (sym (same_is _ p h)) ∙ placed_at qs (s ∷ ss) 0 s num (omega arith))
      go ih false h = ih

  -- the path of a slot with a place is the one that stands there among qs
  path_some : (ss : List (LogSlot K)) (k : ℕ) (q : Path) → placed qs ss ≡ true → path_under ss k ≡ Some q → q ≡ get_or qs k no_path
  path_some [] k q num e = absurd (both_ways false refl (ap is_some e))
  path_some (s ∷ ss) k q num e = go (path_some ss k q (and_parts (is_place (place_in qs s.path) s.place) (placed qs ss) num).1) (eqb s.place k) refl e
    where
      go : (path_under ss k ≡ Some q → q ≡ get_or qs k no_path) → (b : Bool) → eqb s.place k ≡ b → option_map (λ (x : LogSlot K). x.path) (cond b (Some s) (find (λ (x : LogSlot K). eqb x.place k) ss)) ≡ Some q → q ≡ get_or qs k no_path
      go ih true h e =
          let at : place_in qs s.path ≡ Some k = placed_at qs (s ∷ ss) 0 s num (omega arith) ∙ ap Some (eqb-true _ _ h) in
          let is : s.path ≡ q = cc in
          sym is ∙ sym (same_is _ _ (place_stands qs s.path k at).here)
      go ih false h e = ih e

  -- a path in the slots has a place that one of them has
  path_none : (ss : List (LogSlot K)) (k : ℕ) (q : Path) → placed qs ss ≡ true → place_in qs q ≡ Some k → path_under ss k ≡ None → among (paths_of (map pair_of ss)) q ≡ false
  path_none [] k q num own e = refl
  path_none (s ∷ ss) k q num own e = go (path_none ss k q (and_parts (is_place (place_in qs s.path) s.place) (placed qs ss) num).1 own) (eqb s.place k) refl e (same_path s.path q) refl
    where
      go : (path_under ss k ≡ None → among (paths_of (map pair_of ss)) q ≡ false) → (b : Bool) → eqb s.place k ≡ b → option_map (λ (x : LogSlot K). x.path) (cond b (Some s) (find (λ (x : LogSlot K). eqb x.place k) ss)) ≡ None → (a : Bool) → same_path s.path q ≡ a → (a || among (paths_of (map pair_of ss)) q) ≡ false
      go ih true h e a f = absurd (both_ways true (ap is_some e) refl)
      go ih false h e true f =
          let both : Some s.place ≡ Some k = sym (placed_at qs (s ∷ ss) 0 s num (omega arith)) ∙ ap (place_in qs) (same_is _ _ f) ∙ own in
          let at : s.place ≡ k = cc in
          absurd (both_ways (eqb s.place k) h (eq-eqb _ _ at))
      go ih false h e false f = ih e

-- the entry joined from one slot more
pub joined_push : {K : Type 0} (join : K → K → K) (ss : List (LogSlot K)) (s : LogSlot K) (k : ℕ) → joined_under join (ss ++ s ∷ []) k ≡ cond (eqb s.place k) (Some (onto join (joined_under join ss k) s.entry)) (joined_under join ss k)
joined_push {K} join ss s k = on ss None
  where
    has : LogSlot K → Bool
    has x = eqb x.place k

    from : Option K → List (LogSlot K) → Option K
    from o xs = fold (λ whole e. Some (onto join whole e)) o (map (λ (x : LogSlot K). x.entry) xs)

    on : (xs : List (LogSlot K)) (o : Option K) → from o (filter has (xs ++ s ∷ [])) ≡ cond (has s) (Some (onto join (from o (filter has xs)) s.entry)) (from o (filter has xs))
    on [] o = go (has s)
      where
        go : (b : Bool) → from o (cond b (s ∷ []) []) ≡ cond b (Some (onto join o s.entry)) o
        go true = refl
        go false = refl
    on (x ∷ xs) o = go (on xs) (has x)
      where
        go : ((o : Option K) → from o (filter has (xs ++ s ∷ [])) ≡ cond (has s) (Some (onto join (from o (filter has xs)) s.entry)) (from o (filter has xs))) → (b : Bool) → from o (cond b (x ∷ filter has (xs ++ s ∷ [])) (filter has (xs ++ s ∷ []))) ≡ cond (has s) (Some (onto join (from o (cond b (x ∷ filter has xs) (filter has xs))) s.entry)) (from o (cond b (x ∷ filter has xs) (filter has xs)))
        go ih true = ih (Some (onto join o x.entry))
        go ih false = ih o

-- the slots of a log
module _ {K : Type 0} (join : K → K → K) where
  pub push_pairs : (ss : List (LogSlot K)) (s : LogSlot K) → log_pairs join (ss ++ s ∷ []) ≡ join_pairs join (log_pairs join ss) s.path s.entry
  push_pairs ss s = ap (joined_to join []) (map_push pair_of ss s) ∙ joined_append join [] (map pair_of ss) (pair_of s ∷ [])

  pub log_paths : (ss : List (LogSlot K)) → paths_of (log_pairs join ss) ≡ arrivals ss
  log_paths ss = joined_paths join [] (map pair_of ss)

module _ {K : Type 0} (join : K → K → K) (ss : List (LogSlot K)) (num : placed (arrivals ss) ss ≡ true) where
  pub log_step : (i : ℕ) (s : LogSlot K) → i < length ss → log_pairs join (take (i + 1) ss) ≡ join_pairs join (log_pairs join (take i ss)) (get_or ss i s).path (get_or ss i s).entry
  log_step i s lt = ap (log_pairs join) (take_more ss i s lt) ∙ push_pairs join (take i ss) (get_or ss i s)

  -- right after a slot its path stands where the slot says
  pub log_place : (i : ℕ) (s : LogSlot K) → i < length ss → place_in (paths_of (join_pairs join (log_pairs join (take i ss)) (get_or ss i s).path (get_or ss i s).entry)) (get_or ss i s).path ≡ Some (get_or ss i s).place
  log_place i s lt =
      let x = get_or ss i s in
      let p = x.path in
      let one = take (i + 1) ss in
      let rest = paths_of (map pair_of (drop (i + 1) ss)) in
      let whole : arrivals ss ≡ with_paths (arrivals one) rest =
      ap arrivals (sym (take-append-drop (i + 1) ss))
      ∙ ap (λ ps. with_paths [] (paths_of ps)) (map-append pair_of one (drop (i + 1) ss))
      ∙ ap (with_paths []) (paths_append (map pair_of one) (map pair_of (drop (i + 1) ss)))
      ∙ with_paths_append [] (paths_of (map pair_of one)) rest in
      let here : among (paths_of (map pair_of one)) p ≡ true =
      ap (λ ys. among (paths_of (map pair_of ys)) p) (take_more ss i s lt)
      ∙ ap (λ ps. among (paths_of ps) p) (map_push pair_of (take i ss) x)
      ∙ ap (λ qs. among qs p) (paths_append (map pair_of (take i ss)) (pair_of x ∷ []))
      ∙ among_push (paths_of (map pair_of (take i ss))) p p
      ∙ or_right (among (paths_of (map pair_of (take i ss))) p) (same_path p p) (same_refl p) in
      ap (λ xs. place_in (paths_of xs) p) (sym (log_step i s lt))
      ∙ ap (λ qs. place_in qs p) (log_paths join one)
      ∙ sym (place_with_paths (arrivals one) rest p (among_with_paths [] (paths_of (map pair_of one)) p ∙ here))
      ∙ ap (λ qs. place_in qs p) (sym whole)
      ∙ placed_at (arrivals ss) ss i s num lt

  pub log_find : (p : Path) → place_under ss p ≡ place_in (paths_of (log_pairs join ss)) p
  log_find p =
      let qs = arrivals ss in
      under_is qs ss p num
      ∙ ap (λ b. cond b (place_in qs p) None) (sym (among_with_paths [] (paths_of (map pair_of ss)) p) ∙ among_is qs p)
      ∙ or_none (place_in qs p)
      ∙ ap (λ xs. place_in xs p) (sym (log_paths join ss))
    where
      or_none : (o : Option ℕ) → cond (is_some o) o None ≡ o
      or_none None = refl
      or_none (Some k) = refl

  pub log_path : (k : ℕ) → unwrap_or (path_under ss k) no_path ≡ path_in (log_pairs join ss) k
  log_path k = go (path_under ss k) refl ∙ ap (λ qs. get_or qs k no_path) (sym (log_paths join ss))
    where
      go : (o : Option Path) → path_under ss k ≡ o → unwrap_or o no_path ≡ get_or (arrivals ss) k no_path
      go (Some q) e = path_some (arrivals ss) ss k q num e
      go None e = ⊎_elim (λ lt. absurd (apart lt)) (λ past. sym (get_or_past (arrivals ss) k no_path past)) (cases_lt k (length (arrivals ss)))
        where
          apart : k < length (arrivals ss) → ⊥
          apart lt =
              let q = get_or (arrivals ss) k no_path in
              let d : distinct (arrivals ss) ≡ true = ap distinct (sym (log_paths join ss)) ∙ joined_distinct join [] (map pair_of ss) refl in
              let none' = path_none (arrivals ss) ss k q num (place_own (arrivals ss) k d lt) e in
              both_ways (among (arrivals ss) q) (among_with_paths [] (paths_of (map pair_of ss)) q ∙ none') (among_here (arrivals ss) k lt)

  joined_up_to : (b : K) (k i : ℕ) → i ≤ length ss → joined_under join (take i ss) k ≡ held_at (log_pairs join (take i ss)) k
  joined_up_to b k zero le = refl
  joined_up_to b k (suc i) le = ap (λ n. joined_under join (take n ss) k) (sym next) ∙ more (joined_up_to b k i (omega arith)) ∙ ap (λ n. held_at (log_pairs join (take n ss)) k) next
    where
      next : i + 1 ≡ suc i
      next = omega arith

      s : LogSlot K
      s = get_or ss i (blank_slot b)

      ps : List (Path × K)
      ps = log_pairs join (take i ss)

      more : joined_under join (take i ss) k ≡ held_at ps k → joined_under join (take (i + 1) ss) k ≡ held_at (log_pairs join (take (i + 1) ss)) k
      more ih =
          let lt : i < length ss = omega arith in
          ap (λ xs. joined_under join xs k) (take_more ss i (blank_slot b) lt)
          ∙ joined_push join (take i ss) s k
          ∙ ap (λ o. cond (eqb s.place k) (Some (onto join o s.entry)) o) ih
          ∙ go (joined_at join s.path s.entry ps s.place (log_place i (blank_slot b) lt)) (eqb s.place k) refl
          ∙ ap (λ xs. held_at xs k) (sym (log_step i (blank_slot b) lt))
        where
          go : (held_at (join_pairs join ps s.path s.entry) s.place ≡ Some (onto join (held_at ps s.place) s.entry)) × ((n : ℕ) → (n ≡ s.place → ⊥) → held_at (join_pairs join ps s.path s.entry) n ≡ held_at ps n) → (b : Bool) → eqb s.place k ≡ b → cond b (Some (onto join (held_at ps k) s.entry)) (held_at ps k) ≡ held_at (join_pairs join ps s.path s.entry) k
          go h true e = subst (λ n. Some (onto join (held_at ps n) s.entry) ≡ held_at (join_pairs join ps s.path s.entry) n) (eqb-true _ _ e) (sym h.0)
          go h false e = sym (h.1 k (λ z. eqb-false _ _ e (sym z)))

  pub log_entry : (b : K) (k : ℕ) → unwrap_or (joined_under join ss k) b ≡ entry_in b (log_pairs join ss) k
  log_entry b k =
      let whole = take-length ss in
      ap (λ xs. unwrap_or (joined_under join xs k) b) (sym whole)
      ∙ ap (λ o. unwrap_or o b) (joined_up_to b k (length ss) (omega arith))
      ∙ ap (λ xs. unwrap_or (held_at (log_pairs join xs) k) b) whole
      ∙ held_value b (log_pairs join ss) k
