-- What the invariant says of the copies of a ring after any list of calls. Assumes nothing.
use Rattle.std.proofs.Common.{◌≡◌, ℕ, zero, suc, ◌<◌, ◌≤◌, true, false, ◌⊎◌, List, [], ◌∷◌, length, get_or, replicate, is_some, Some, None, Option, sym, refl, ap, ◌∙◌, subst, inl, inr, ⊎_elim, arith}
use Rattle.std.proofs.lemmas.Bool.{both_ways, cases_Bool, cond-false, cond-true}
use Rattle.names.specs.declared.path.Path.{Path}
use Rattle.names.specs.Paths.{same_path}
use Rattle.names.specs.Same.{same_is, same_refl}
use Rattle.store.specs.Meaning.{Meaning, Sound, empty_store, no_store, paths_of, distinct, holds, place_of}
use Rattle.store.specs.Laws.{entry_under, entry_of, onto}
use Rattle.store.proofs.Places.{among_is}
use Rattle.store.proofs.Kept.{found_is_held}
use Rattle.heads.specs.Heads.{new_head}
use Rattle.machine.specs.Kinds.{Kind, Laws}
use Rattle.machine.specs.States.{store_of, sweep_of}
use Rattle.machine.specs.Sweeps.{ended}
use Rattle.machine.specs.Worlds.{Call, Update, World, run, opened}
use Rattle.agreement.specs.Agreement.{In, AllEmpty, Fresh, join_of_updates, HoldsJoin, Unheld, Updated, PathBelow, AgreesBelow, lower_stamp, Agreement, AnyOrder, FinishedEverywhere, StoresSound}
use Rattle.agreement.proofs.Stores.{Covers, Present, covers_self, covers_trans, covers_join, covers_left, covers_right, covers_both, covered_there, present_held, present_again}
use Rattle.agreement.proofs.Claims.{sight, SweepClaim}
use Rattle.agreement.proofs.Invariant.{Invariant}
use Rattle.agreement.proofs.Tables.{all_at, never_both}
use Rattle.agreement.proofs.Calls.{run_keeps}

-- a list of one value has that value everywhere
same_everywhere : {A : Type 0} (n i : ℕ) (a : A) → get_or (replicate n a) i a ≡ a
same_everywhere zero i a = refl
same_everywhere (suc n) zero a = refl
same_everywhere (suc n) (suc i) a = same_everywhere n i a

module _ {K : Type 0} where
  -- each store of an empty list, and one past its end, has no pairs
  empty_at : (stores : List (Meaning K)) → AllEmpty stores → (c : ℕ) → (get_or stores c no_store).pairs ≡ []
  unfolding empty_store
  empty_at stores h c = all_at (λ m. m.pairs ≡ []) stores c no_store refl h

  -- a store with no pairs is sound
  empty_sound : (m : Meaning K) → m.pairs ≡ [] → Sound m
  empty_sound m h =
      record { apart = ap (λ ps. distinct (paths_of ps)) h; within = subst (λ ps. length ps ≤ m.places) (sym h) (omega arith) }

  -- and holds no entry
  empty_entry : (m : Meaning K) (p : Path) → m.pairs ≡ [] → entry_of m p ≡ None
  unfolding entry_of
  empty_entry m p h = ap (λ ps. entry_under ps p) h

module _ {K : Type 0} (k : Kind K) (laws : Laws k) where
  -- the join of the updates under a path: it covers each of them, and what covers them all covers it
  record Total (p : Path) (us : List (Update K)) : Type 0 where
    total : K
    is : join_of_updates k p us ≡ Some total
    updated : Updated p us
    above : (u : Update K) → In u us → u.path ≡ p → Covers k total u.entry
    least : (y : K) → ((u : Update K) → In u us → u.path ≡ p → Covers k y u.entry) → Covers k y total

  -- no update has the path
  record Empty (p : Path) (us : List (Update K)) : Type 0 where
    is : join_of_updates k p us ≡ None
    not_updated : Updated p us → ⊥

  -- one of the two is so
  total_of : (p : Path) (us : List (Update K)) → Total p us ⊎ Empty p us
  total_of p [] = inr (record { is = refl; not_updated = λ h. h.accepted })
  total_of p (v ∷ us) = ⊎_elim (hit (total_of p us)) (miss (total_of p us)) (cases_Bool (same_path v.path p))
    where
      hit : Total p us ⊎ Empty p us → same_path v.path p ≡ true → Total p (v ∷ us) ⊎ Empty p (v ∷ us)
      hit (inl t) s =
          inl
          (record {
            total = k.join t.total v.entry;
            is = cond-true _ _ _ s ∙ ap (λ o. Some (onto k.join o v.entry)) t.is;
            updated = record { update = v; accepted = inl refl; of_path = same_is _ _ s };
            above = λ u i e. ⊎_elim (λ q. subst (λ z. Covers k (k.join t.total v.entry) z.entry) (sym q) (covers_right k laws _ _)) (λ j. covers_trans k laws _ _ _ (covers_left k laws _ _) (t.above u j e)) i;
            least = λ y h. covers_join k laws _ _ _ (t.least y (λ u j. h u (inr j))) (h v (inl refl) (same_is _ _ s));
          })
      hit (inr n) s =
          inl
          (record {
            total = v.entry;
            is = cond-true _ _ _ s ∙ ap (λ o. Some (onto k.join o v.entry)) n.is;
            updated = record { update = v; accepted = inl refl; of_path = same_is _ _ s };
            above = λ u i e. ⊎_elim (λ q. subst (λ z. Covers k v.entry z.entry) (sym q) (covers_self k laws _)) (λ j. absurd (n.not_updated (record { update = u; accepted = j; of_path = e }))) i;
            least = λ y h. h v (inl refl) (same_is _ _ s);
          })

      other : same_path v.path p ≡ false → (u : Update K) → u ≡ v → u.path ≡ p → ⊥
      other s u q e = both_ways _ s (ap (λ z. same_path z p) (sym (ap (λ x. x.path) q) ∙ e) ∙ same_refl p)

      miss : Total p us ⊎ Empty p us → same_path v.path p ≡ false → Total p (v ∷ us) ⊎ Empty p (v ∷ us)
      miss (inl t) s =
          inl
          (record {
            total = t.total;
            is = cond-false _ _ _ s ∙ t.is;
            updated = record { update = t.updated.update; accepted = inr t.updated.accepted; of_path = t.updated.of_path };
            above = λ u i e. ⊎_elim (λ q. absurd (other s u q e)) (λ j. t.above u j e) i;
            least = λ y h. t.least y (λ u j. h u (inr j));
          })
      miss (inr n) s =
          inr (record { is = cond-false _ _ _ s ∙ n.is; not_updated = λ h. ⊎_elim (λ q. other s h.update q h.of_path) (λ j. n.not_updated (record { update = h.update; accepted = j; of_path = h.of_path })) h.accepted })

  -- the join of updates is the same in any order
  pub any_order : AnyOrder k
  any_order us vs f g p = go (total_of p us) (total_of p vs)
    where
      go : Total p us ⊎ Empty p us → Total p vs ⊎ Empty p vs → join_of_updates k p us ≡ join_of_updates k p vs
      go (inl t) (inl r) =
          t.is ∙ ap Some (covers_both k laws _ _ (r.least _ (λ u i. t.above u (g u i))) (t.least _ (λ u i. r.above u (f u i)))) ∙ sym r.is
      go (inl t) (inr n) =
          absurd (n.not_updated (record { update = t.updated.update; accepted = f _ t.updated.accepted; of_path = t.updated.of_path }))
      go (inr n) (inl r) =
          absurd (n.not_updated (record { update = r.updated.update; accepted = g _ r.updated.accepted; of_path = r.updated.of_path }))
      go (inr n) (inr m) = n.is ∙ sym m.is

  -- a ring just opened keeps the invariant
  opened_keeps : (start : List (Meaning K)) (room : ℕ) → Fresh start → Invariant k start (opened start room)
  opened_keeps start room fresh =
      record {
        two = fresh.two;
        eight = fresh.eight;
        copies = refl;
        heads = refl;
        stores = refl;
        places = λ c. refl;
        basis = record {
          within = λ u i. absurd i;
          owned = λ u i. absurd i;
          sourced = λ c p a f. absurd (never_both _ a (empty_entry _ p (empty_at start fresh.empty c)) f);
          sound = λ c. empty_sound _ (empty_at start fresh.empty c);
        };
        frozen = λ c d l _. subst (λ h. h.sweep ≤ (get_or (replicate 8 new_head) d new_head).floor) (sym (same_everywhere 8 c new_head)) (omega arith);
        has = λ c u i. absurd i;
        letters = tt;
        sweeps = tt;
      }

  -- and so does every ring after any list of calls
  pub always : (start : List (Meaning K)) (room : ℕ) (calls : List (Call K)) → Fresh start → Invariant k start (run k calls (opened start room))
  always start room calls fresh = run_keeps k laws start calls (opened start room) (opened_keeps start room fresh)

  -- what the invariant says of a copy c whose sweep stamp is s or above
  module _ {start : List (Meaning K)} (w : World K) (inv : Invariant k start w) (s c : ℕ) (low : s ≤ sweep_of w.ring c) where
    -- it has the updates below s
    there : (u : Update K) → In u w.updates → k.stamp u.entry < s → Present k (store_of w.ring c) u.path u.entry
    there u i b = inv.has c u i tt (omega (arith, low, b))

    -- a path without updates has no entry there
    no_entry : (p : Path) → (Updated p w.updates → ⊥) → (o : Option K) → entry_of (store_of w.ring c) p ≡ o → o ≡ None
    no_entry p none None f = refl
    no_entry p none (Some a) f =
        let q = inv.basis.sourced c p a f in
        absurd (none (record { update = q.update; accepted = q.accepted; of_path = q.of_path }))

    -- a path without an entry has no place
    no_place : (p : Path) → entry_of (store_of w.ring c) p ≡ None → (o : Option ℕ) → place_of (store_of w.ring c) p ≡ o → o ≡ None
    no_place p n None f = refl
    no_place p n (Some i) f = absurd (never_both _ _ n (found_is_held k.blank (store_of w.ring c) p i f).2)

    -- a path without a place is not held
    not_held : (p : Path) → place_of (store_of w.ring c) p ≡ None → holds (store_of w.ring c) p ≡ false
    unfolding holds place_of
    not_held p n = among_is (paths_of (store_of w.ring c).pairs) p ∙ ap is_some n

    -- a path without updates is not held
    unheld : (p : Path) → (Updated p w.updates → ⊥) → Unheld p (store_of w.ring c)
    unheld p none =
        let e = no_entry p none _ refl in
        let f = no_place p e _ refl in
        record { not_held = not_held p f; no_place = f; no_entry = e }

    -- a path whose updates are all below s is held with exactly their join
    exactly : (p : Path) → Updated p w.updates → PathBelow k s p w.updates → HoldsJoin k p w.updates (store_of w.ring c)
    exactly p some below = go (total_of p w.updates)
      where
        there_at : (u : Update K) → In u w.updates → u.path ≡ p → Present k (store_of w.ring c) p u.entry
        there_at u i e = subst (λ q. Present k (store_of w.ring c) q u.entry) e (there u i (below u i e))

        go : Total p w.updates ⊎ Empty p w.updates → HoldsJoin k p w.updates (store_of w.ring c)
        go (inl t) =
            let h = there_at some.update some.accepted some.of_path in
            let q = inv.basis.sourced c p h.held h.is in
            record {
              held = present_held k laws _ p _ h;
              joined = h.is ∙ ap Some (covers_both k laws _ _ (t.least _ (λ u i e. covered_there k laws _ p _ _ h.is (there_at u i e))) (q.bounded t.total t.above)) ∙ sym t.is;
            }
        go (inr n) = absurd (n.not_updated some)

    -- all that copies agree on below s
    agrees_below : AgreesBelow k w s c
    agrees_below =
        record {
          none_missing = λ u i b. record { held = present_held k laws _ u.path u.entry (there u i b); again = present_again k laws _ u.path u.entry (there u i b) };
          exactly = exactly;
          unheld = unheld;
        }

  -- any two copies agree below the lower of their sweep stamps
  pub agreement : Agreement k
  agreement start room calls c d fresh lc ld =
      let w = run k calls (opened start room) in
      let inv = always start room calls fresh in
      let s = lower_stamp w c d in
      let one = agrees_below w inv s c (omega arith) in
      let other = agrees_below w inv s d (omega arith) in
      record {
        one = one;
        other = other;
        alike = λ below p. ⊎_elim (λ t. (one.exactly p t.updated (λ u i _. below u i)).joined ∙ sym (other.exactly p t.updated (λ u i _. below u i)).joined) (λ n. (one.unheld p n.not_updated).no_entry ∙ sym (other.unheld p n.not_updated).no_entry) (total_of p w.updates);
      }

  -- a sweep that is finished is noted everywhere
  pub finished_everywhere : FinishedEverywhere k
  finished_everywhere start room calls j s home c fresh lc e =
      let w = run k calls (opened start room) in
      let inv = always start room calls fresh in
      subst (SweepClaim k (sight w)) e (all_at (SweepClaim k (sight w)) w.sweeps j ended tt inv.sweeps) c (omega (arith, lc, inv.copies))

  -- every store stays sound, with its places
  pub stores_sound : StoresSound k
  stores_sound start room calls c fresh =
      let inv = always start room calls fresh in
      record { sound = inv.basis.sound c; places = inv.places c }
