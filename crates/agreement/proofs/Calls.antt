-- Every call keeps the invariant. Assumes nothing.
use Rattle.std.proofs.Common.{◌≡◌, ℕ, suc, ◌+◌, ◌<◌, ◌≤◌, true, false, cond, ◌&&◌, eqb, List, [], ◌∷◌, ◌++◌, set, Some, None, Option, sym, refl, ap, ◌∙◌, subst, ⊎_elim, arith}
use Rattle.std.specs.List.{AllByRecursion}
use Rattle.std.proofs.lemmas.Bool.{and_parts, cases_lt, cond_both, cond-false, cond-true, eqb-false, eqb-true, ltb-false, ltb-true, not-false, not_from_false, or_parts, true≢false}
use Rattle.std.proofs.lemmas.List.{get_or-set_same, set-get_or, set-set}
use Rattle.names.specs.declared.path.Path.{Path}
use Rattle.names.specs.Stamps.{stamp_at}
use Rattle.store.specs.Meaning.{Meaning, no_store, count_of, path_at, entry_at, join_of}
use Rattle.letters.specs.declared.letter.Letter.{Letter}
use Rattle.letters.specs.declared.letter.Tag.{Tag}
use Rattle.letters.specs.declared.letter.Tag.TheVariants.{News, Raise, Counted, Fetch, Entry, Put, Stored, Swept, Noted}
use Rattle.letters.specs.Mail.{letter_at, lost}
use Rattle.machine.specs.Kinds.{Kind, Laws}
use Rattle.machine.specs.States.{State, store_of, floor_of, sweep_of, next_copy, joined_at, floor_at, sweep_at, no_copy}
use Rattle.machine.specs.Posts.{all_joined, late, laden, tag_grounds, handed, hand_grounds, after_hand, posted}
use Rattle.machine.specs.Sweeps.{Sweep, collecting, collected, spreading, finished, ended, press_grounds, pressed, is_counted, is_entry, is_stored, is_noted, is_reply, wanted_note, went_on, collect_grounds, after_collect, after_spread, confirm_grounds, after_confirm}
use Rattle.machine.specs.Worlds.{Call, posts, mail, hand, lose, begin, press, collect, spread, confirm, close, abandon, World, sweep_number, with_ring, with_sweep, recorded, doing, step, run}
use Rattle.agreement.proofs.Stores.{Present, entry_there}
use Rattle.agreement.proofs.Round.{steps_to, next_below, steps_first, steps_next, steps_last, steps_below, steps_none, steps_same}
use Rattle.agreement.proofs.Claims.{Sight, sight, Any, Own, Sourced, Has, Reached, Served, Told, LetterClaim, TrueLetter, SweepClaim, frozen_on, carried_on, sweep_on, carry, reach, moving_start, moving_again, moving_step, moving_end}
use Rattle.agreement.proofs.Invariant.{Invariant, present_at, join_onward, join_keeps, post_keeps, floor_keeps, floor_up, sweep_onward, sweep_keeps, sweep_up, bag_keeps, letter_keeps, sweep_added, sweep_set}
use Rattle.agreement.proofs.Tables.{IfFound, all_at, all_letter_at, all_without}
use Rattle.agreement.proofs.Passing.{Passed, Roomy, settled_keeps, passed_later, has_copy, some_of_none, fills_none, and_second, tag_counted, tag_entry, tag_stored, tag_noted}

module _ {K : Type 0} (k : Kind K) (laws : Laws k) (start : List (Meaning K)) where
  -- the awaited reply claims what its tag says of the copy in hand and of home
  reply_claim : (S : Sight K) (t : Tag) (s home c : ℕ) (l : Letter K) → l.tag ≡ t → is_reply s home c l ≡ true → TrueLetter k S l → LetterClaim k S t c home s l.place l.count (l.path, l.entry)
  reply_claim S t s home c l e a h =
      let a₁ = and_parts (eqb l.addressee home) (eqb l.sender c && eqb l.stamp s) a in
      let a₂ = and_parts (eqb l.sender c) (eqb l.stamp s) a₁.1 in
      subst (λ z. LetterClaim k S z c home s l.place l.count (l.path, l.entry)) e
      (subst (λ z. LetterClaim k S l.tag z home s l.place l.count (l.path, l.entry)) (eqb-true _ _ a₂.0)
      (subst (λ z. LetterClaim k S l.tag l.sender z s l.place l.count (l.path, l.entry)) (eqb-true _ _ a₁.0)
      (subst (λ z. LetterClaim k S l.tag l.sender l.addressee z l.place l.count (l.path, l.entry)) (eqb-true _ _ a₂.1) h.claim)))

  -- updates posted at a copy one after another keep the invariant
  posts_keep : (c : ℕ) (xs : List (Path × K)) (w : World K) → Invariant k start w → c < w.ring.copies → AllByRecursion (λ x. late k w.ring c x ≡ false) xs → Roomy k (store_of w.ring c) xs → Invariant k start (record { ring = posted k w.ring c xs; sweeps = w.sweeps; updates = recorded c xs w.updates })
  posts_keep c [] w inv lc f r =
      subst (λ ms. Invariant k start (record { ring = record { copies = w.ring.copies; heads = w.ring.heads; stores = ms; bag = w.ring.bag }; sweeps = w.sweeps; updates = w.updates })) (sym (set-get_or w.ring.stores c no_store)) inv
  posts_keep c (x ∷ xs) w inv lc f r =
      let w₁ : World K = record { ring = joined_at k w.ring c x.0 x.1; sweeps = w.sweeps; updates = record { copy = c; path = x.0; entry = x.1 } ∷ w.updates } in
      let i₁ = post_keeps k laws start w inv c x.0 x.1 lc r.0 (ltb-false _ _ f.0) in
      let m₁ = join_of k.join (store_of w.ring c) x.0 x.1 in
      let here : store_of w₁.ring c ≡ m₁ = get_or-set_same w.ring.stores c m₁ no_store (omega (arith, inv.stores)) in
      subst
      (λ ms. Invariant k start (record { ring = record { copies = w.ring.copies; heads = w.ring.heads; stores = ms; bag = w.ring.bag }; sweeps = w.sweeps; updates = recorded c (x ∷ xs) w.updates }))
      (set-set w.ring.stores c m₁ _ ∙ ap (λ m. set w.ring.stores c (all_joined k m xs)) here)
      (posts_keep c xs w₁ i₁ lc f.1 (subst (λ m. Roomy k m xs) (sym here) r.1))

  module _ (w : World K) (inv : Invariant k start w) where
    -- what lies at a place of a store comes from updates
    sourced_read : (c p : ℕ) → p < count_of (store_of w.ring c) → Sourced k w.updates (path_at (store_of w.ring c) p) (entry_at k.blank (store_of w.ring c) p)
    sourced_read c p l =
        inv.basis.sourced c _ _ (entry_there k.blank (store_of w.ring c) p (inv.basis.sound c) l)

    -- a copy has its own updates
    own : (s c : ℕ) → Has k (sight w) s (Own c) c
    own s c u i m l = subst (λ z. Present k (store_of w.ring z) u.path u.entry) m (inv.basis.owned u i)

    -- the claim of the sweep of a number
    sweep_claim : (j : ℕ) → SweepClaim k (sight w) (sweep_number w j)
    sweep_claim j = all_at (SweepClaim k (sight w)) w.sweeps j ended tt inv.sweeps

    -- the letter of a number, if there is one, is true
    found_letter : (i : ℕ) → IfFound (TrueLetter k (sight w)) (letter_at w.ring.bag.letters i)
    found_letter i = all_letter_at (TrueLetter k (sight w)) w.ring.bag.letters i inv.letters

    -- handing a letter keeps the invariant, by its tag
    tag_keeps : (t : Tag) (l : Letter K) → l.sender < w.ring.copies → l.addressee < w.ring.copies → LetterClaim k (sight w) t l.sender l.addressee l.stamp l.place l.count (l.path, l.entry) → Passed (tag_grounds w.ring l t) → Invariant k start (with_ring w (handed k w.ring l t))
    tag_keeps News l ls la h g = join_keeps k laws start w inv l.addressee l.path l.entry h
    tag_keeps Raise l ls la h g =
        let w₁ = with_ring w (floor_at w.ring l.addressee l.stamp) in
        let i₁ = floor_keeps k laws start w inv l.addressee l.stamp in
        letter_keeps k laws start w₁ i₁ _
        (record {
          sender = la;
          addressee = ls;
          claim = (λ d _ q. subst (λ z. l.stamp ≤ floor_of w₁.ring z) (sym q) (floor_up k laws start w inv l.addressee l.stamp la), moving_start k laws (sight w₁) l.stamp (Own l.addressee) l.addressee l.sender (own l.stamp l.addressee));
        })
    tag_keeps Counted l ls la h g = inv
    tag_keeps Fetch l ls la h g =
        let b = ltb-true _ _ (not-false _ g.0) in
        letter_keeps k laws start w inv _
        (record {
          sender = la;
          addressee = ls;
          claim = (h, carry k laws (sight w) l.stamp (Own l.addressee) l.addressee l.place (inv.basis.sound _) (own _ _) b, sourced_read _ _ b);
        })
    tag_keeps Entry l ls la h g = inv
    tag_keeps Put l ls la h g =
        let w₁ = with_ring w (joined_at k w.ring l.addressee l.path l.entry) in
        let on = join_onward k laws start w inv l.addressee l.path l.entry in
        letter_keeps k laws start w₁ (join_keeps k laws start w inv l.addressee l.path l.entry h.2) _
        (record {
          sender = la;
          addressee = ls;
          claim = (frozen_on k laws (sight w) (sight w₁) on l.stamp Any h.0, reach k laws (sight w₁) l.stamp Any l.sender l.addressee l.place (l.path, l.entry) (carried_on k laws (sight w) (sight w₁) on l.stamp Any _ _ _ h.0 h.1) (present_at k laws start w inv l.addressee l.path l.entry la g.0));
        })
    tag_keeps Stored l ls la h g = inv
    tag_keeps Swept l ls la h g =
        letter_keeps k laws start _ (sweep_keeps k laws start w inv l.addressee l.stamp h.0 h.1) _
        (record { sender = la; addressee = ls; claim = sweep_up k laws start w inv l.addressee l.stamp la })
    tag_keeps Noted l ls la h g = inv

    -- and by whether there is one
    hand_keeps : (found : Option (Letter K)) → IfFound (TrueLetter k (sight w)) found → Passed (hand_grounds w.ring found) → Invariant k start (with_ring w (after_hand k w.ring found))
    hand_keeps None h g = inv
    hand_keeps (Some l) h g = tag_keeps l.tag l h.sender h.addressee h.claim g

    -- what a call on a sweep leaves: the invariant of the ring, and the claim of the sweep
    abbrev After : Sweep × State K → Type 0
    After x = Invariant k start (with_ring w x.1) × SweepClaim k (sight (with_ring w x.1)) x.0

    -- pressing sends a letter whose claim is true
    press_keeps : (sw : Sweep) → SweepClaim k (sight w) sw → Passed (press_grounds w.ring sw) → After (sw, pressed k w.ring sw)
    press_keeps (collecting s home c None p) h g = (letter_keeps k laws start w inv _ (record { sender = h.0; addressee = h.1; claim = tt }), h)
    press_keeps (collecting s home c (Some n) p) h g = (letter_keeps k laws start w inv _ (record { sender = h.0; addressee = h.1; claim = h.3 }), h)
    press_keeps (collected s home) h g = (inv, h)
    press_keeps (spreading s home c n p) h g =
        (letter_keeps k laws start w inv _ (cond_both (eqb p n) _ _ (TrueLetter k (sight w)) (λ e. record { sender = h.0; addressee = h.1; claim = (h.3, moving_end k laws (sight w) s Any home c n p (eqb-true _ _ e) h.5) }) (λ e. put (ltb-true _ _ (not-false _ (and_second _ _ (not_from_false _ e) g.1.0))))), h)
      where
        put : p < count_of (store_of w.ring home) → TrueLetter k (sight w) (laden k Put home c s p (store_of w.ring home) p)
        put b =
            record { sender = h.0; addressee = h.1; claim = (h.3, carry k laws (sight w) s Any home p (inv.basis.sound home) h.4 b, sourced_read home p b) }
    press_keeps (finished s home) h g = (inv, h)
    press_keeps ended h g = (inv, h)

    -- spreading lifts home's sweep stamp, and home has all updates below it
    spread_keeps : (sw : Sweep) → SweepClaim k (sight w) sw → After (after_spread w.ring sw)
    spread_keeps (collecting s home c n p) h = (inv, h)
    spread_keeps (collected s home) h =
        let w₁ = with_ring w (sweep_at w.ring home s) in
        let f₁ = frozen_on k laws (sight w) (sight w₁) (sweep_onward k laws start w inv home s) s Any h.1 in
        (sweep_keeps k laws start w inv home s h.1 h.2, (h.0, next_below _ home h.0, λ d ld t. told d (steps_none w.ring.copies home d h.0 ld (subst (λ z. steps_to w.ring.copies home d < z) (steps_first w.ring.copies home inv.two h.0) t)), f₁, h.2, moving_start k laws (sight w₁) s Any home (next_copy w.ring.copies home) h.2))
      where
        told : (d : ℕ) → d ≡ home → s ≤ sweep_of (sweep_at w.ring home s) d
        told d e = subst (λ z. s ≤ sweep_of (sweep_at w.ring home s) z) (sym e) (sweep_up k laws start w inv home s h.0)
    spread_keeps (spreading s home c n p) h = (inv, h)
    spread_keeps (finished s home) h = (inv, h)
    spread_keeps ended h = (inv, h)

    -- the copy in hand has noted the sweep: so have all up to it
    told_more : (s home c : ℕ) → home < w.ring.copies → c < w.ring.copies → Told k (sight w) s home c → s ≤ sweep_of w.ring c → (d : ℕ) → d < w.ring.copies → steps_to w.ring.copies home d < suc (steps_to w.ring.copies home c) → s ≤ sweep_of w.ring d
    told_more s home c lh lc before here d ld t =
        ⊎_elim (before d ld) (λ ge. subst (λ z. s ≤ sweep_of w.ring z) (steps_same w.ring.copies home c d lh lc ld (omega (arith, t, ge))) here) (cases_lt (steps_to w.ring.copies home d) (steps_to w.ring.copies home c))

    -- confirming counts what has come to the copy in hand
    confirm_keeps : (sw : Sweep) (found : Option (Letter K)) → SweepClaim k (sight w) sw → IfFound (TrueLetter k (sight w)) found → Passed (confirm_grounds w.ring sw found) → SweepClaim k (sight w) (after_confirm w.ring sw)
    confirm_keeps (collecting s home c n p) found h f g = h
    confirm_keeps (collected s home) found h f g = h
    confirm_keeps (spreading s home c n p) None h f g = absurd (true≢false g.1.0)
    confirm_keeps (spreading s home c n p) (Some l) h f g =
        cond_both (eqb p n) _ _ (SweepClaim k (sight w)) (λ e. on (noted e)) stored
      where
        reply : (is_reply s home c l ≡ true) × (wanted_note n p l ≡ true)
        reply = and_parts (is_reply s home c l) (wanted_note n p l) (not-false _ g.1.0)

        noted : eqb p n ≡ true → s ≤ sweep_of w.ring c
        noted e =
            reply_claim (sight w) Noted s home c l (tag_noted _ (sym (cond-true (eqb p n) (is_noted l.tag) (is_stored l.tag && eqb l.place p) e) ∙ reply.1)) reply.0 f

        on : s ≤ sweep_of w.ring c → SweepClaim k (sight w) (cond (eqb (next_copy w.ring.copies c) home) (finished s home) (spreading s home (next_copy w.ring.copies c) n 0))
        on here =
            cond_both (eqb (next_copy w.ring.copies c) home) _ _ (SweepClaim k (sight w))
            (λ e d ld. told_more s home c h.0 h.1 h.2 here d ld (omega (arith, steps_below w.ring.copies home d h.0 ld, steps_last w.ring.copies home c h.0 h.1 (eqb-true _ _ e))))
            (λ e. (h.0, next_below _ c h.1, λ d ld t. told_more s home c h.0 h.1 h.2 here d ld (subst (λ z. steps_to w.ring.copies home d < z) (steps_next w.ring.copies home c h.0 h.1 (eqb-false _ _ e)) t), h.3, h.4, moving_again k laws (sight w) s Any home c (next_copy w.ring.copies c) n p h.5))

        stored : eqb p n ≡ false → SweepClaim k (sight w) (spreading s home c n (p + 1))
        stored e =
            let q = and_parts (is_stored l.tag) (eqb l.place p) (sym (cond-false (eqb p n) (is_noted l.tag) (is_stored l.tag && eqb l.place p) e) ∙ reply.1) in
            let r = subst (λ z. Reached k (sight w) s Any home c z) (eqb-true _ _ q.1) (reply_claim (sight w) Stored s home c l (tag_stored _ q.0) reply.0 f).1 in
            (h.0, h.1, h.2, h.3, h.4, moving_step k laws (sight w) s Any home c n p h.5 r)
    confirm_keeps (finished s home) found h f g = h
    confirm_keeps ended found h f g = h

    -- the copy in hand has given home its updates: so have all up to it
    served_more : (s home c : ℕ) → home < w.ring.copies → c < w.ring.copies → Served k (sight w) s home c → s ≤ floor_of w.ring c → Has k (sight w) s (Own c) home → (d : ℕ) → d < w.ring.copies → steps_to w.ring.copies home d < suc (steps_to w.ring.copies home c) → (s ≤ floor_of w.ring d) × Has k (sight w) s (Own d) home
    served_more s home c lh lc before fl hs d ld t =
        ⊎_elim (before d ld) (λ ge. subst (λ z. (s ≤ floor_of w.ring z) × Has k (sight w) s (Own z) home) (steps_same w.ring.copies home c d lh lc ld (omega (arith, t, ge))) (fl, hs)) (cases_lt (steps_to w.ring.copies home d) (steps_to w.ring.copies home c))

    -- on to the next copy, or collected
    served_on : (s home c : ℕ) → home < w.ring.copies → c < w.ring.copies → Served k (sight w) s home c → s ≤ floor_of w.ring c → Has k (sight w) s (Own c) home → SweepClaim k (sight w) (cond (eqb (next_copy w.ring.copies c) home) (collected s home) (collecting s home (next_copy w.ring.copies c) None 0))
    served_on s home c lh lc before fl hs =
        cond_both (eqb (next_copy w.ring.copies c) home) _ _ (SweepClaim k (sight w)) (λ e. last (eqb-true _ _ e)) (λ e. (lh, next_below _ c lc, λ d ld t. served_more s home c lh lc before fl hs d ld (subst (λ z. steps_to w.ring.copies home d < z) (steps_next w.ring.copies home c lh lc (eqb-false _ _ e)) t), refl))
      where
        last : next_copy w.ring.copies c ≡ home → SweepClaim k (sight w) (collected s home)
        last e =
            let all : (d : ℕ) → d < w.ring.copies → (s ≤ floor_of w.ring d) × Has k (sight w) s (Own d) home = λ d ld. served_more s home c lh lc before fl hs d ld (omega (arith, steps_below w.ring.copies home d lh ld, steps_last w.ring.copies home c lh lc e)) in
            (lh, λ d ld _. (all d ld).0, λ u i _ b. (all u.copy (inv.basis.within u i)).1 u i refl b)

    -- one place further, or the copy has given all
    went_on_keeps : (s home c n p : ℕ) → SweepClaim k (sight w) (collecting s home c (Some n) p) → SweepClaim k (sight w) (went_on w.ring.copies s home c n p)
    went_on_keeps s home c n p h =
        cond_both (eqb p n) _ _ (SweepClaim k (sight w)) (λ e. served_on s home c h.0 h.1 h.2 (h.3 c h.1 refl) (moving_end k laws (sight w) s (Own c) c home n p (eqb-true _ _ e) h.4)) (λ _. h)

  -- collecting joins at home what was read at the copy in hand
  collect_keeps : (w : World K) (inv : Invariant k start w) (sw : Sweep) (found : Option (Letter K)) → SweepClaim k (sight w) sw → IfFound (TrueLetter k (sight w)) found → Passed (collect_grounds w.ring sw found) → After w inv (after_collect k w.ring sw found)
  collect_keeps w inv (collecting s home c n p) None h f g = absurd (true≢false g.1.0)
  collect_keeps w inv (collecting s home c None p) (Some l) h f g =
      let r = and_parts (is_reply s home c l) (is_counted l.tag) (not-false _ g.1.0) in
      let q = reply_claim (sight w) Counted s home c l (tag_counted _ r.1) r.0 f in
      (inv, went_on_keeps w inv s home c l.count 0 (h.0, h.1, h.2, q.0, q.1))
  collect_keeps w inv (collecting s home c (Some n) p) (Some l) h f g =
      let r = and_parts (is_reply s home c l) (is_entry l.tag && eqb l.place p) (not-false _ g.1.0) in
      let t = and_parts (is_entry l.tag) (eqb l.place p) r.1 in
      let q = reply_claim (sight w) Entry s home c l (tag_entry _ t.0) r.0 f in
      let w₁ = with_ring w (joined_at k w.ring home l.path l.entry) in
      let i₁ = join_keeps k laws start w inv home l.path l.entry q.2 in
      let on = join_onward k laws start w inv home l.path l.entry in
      let h₁ = sweep_on k laws (sight w) (sight w₁) on (collecting s home c (Some n) p) h in
      let carried = carried_on k laws (sight w) (sight w₁) on s (Own c) c l.place (l.path, l.entry) q.0 q.1 in
      let there = reach k laws (sight w₁) s (Own c) c home l.place (l.path, l.entry) carried (present_at k laws start w inv home l.path l.entry h.0 g.1.1.0) in
      let here = subst (λ z. Reached k (sight w₁) s (Own c) c home z) (eqb-true _ _ t.1) there in
      (i₁, went_on_keeps w₁ i₁ s home c n (p + 1) (h₁.0, h₁.1, h₁.2, h₁.3, moving_step k laws (sight w₁) s (Own c) c home n p h₁.4 here))
  collect_keeps w inv (collected s home) found h f g = (inv, h)
  collect_keeps w inv (spreading s home c n p) found h f g = (inv, h)
  collect_keeps w inv (finished s home) found h f g = (inv, h)
  collect_keeps w inv ended found h f g = (inv, h)

  -- beginning lifts home's floor, and home has its own updates
  begin_keeps : (w : World K) (inv : Invariant k start w) (c s : ℕ) → c < w.ring.copies → Invariant k start (record { ring = floor_at w.ring c s; sweeps = w.sweeps ++ collecting s c (next_copy w.ring.copies c) None 0 ∷ []; updates = w.updates })
  begin_keeps w inv c s lc =
      let w₁ = with_ring w (floor_at w.ring c s) in
      let i₁ = floor_keeps k laws start w inv c s in
      sweep_added k laws start w₁ i₁ _ (lc, next_below _ c lc, λ d ld t. served d (steps_none w.ring.copies c d lc ld (subst (λ z. steps_to w.ring.copies c d < z) (steps_first w.ring.copies c inv.two lc) t)), refl)
    where
      served : (d : ℕ) → d ≡ c → (s ≤ floor_of (floor_at w.ring c s) d) × Has k (sight (with_ring w (floor_at w.ring c s))) s (Own d) c
      served d e =
          subst (λ z. (s ≤ floor_of (floor_at w.ring c s) z) × Has k (sight (with_ring w (floor_at w.ring c s))) s (Own z) c) (sym e) (floor_up k laws start w inv c s lc, own w inv s c)

  -- a call on sweep j leaves it in the state and the ring as said
  sweep_after : (w : World K) (inv : Invariant k start w) (j : ℕ) (x : Sweep × State K) → After w inv x → Invariant k start (with_sweep w j x)
  sweep_after w inv j x a = sweep_set k laws start (with_ring w x.1) a.0 j x.0 a.1

  -- a call that no ground refuses keeps the invariant
  doing_keeps : (x : Call K) (w : World K) → Invariant k start w → Passed (doing k x w).0 → Invariant k start (doing k x w).1.1
  doing_keeps (posts c xs f) w inv g =
      posts_keep c xs w inv (has_copy w.ring c g.0) (some_of_none _ xs g.1.1.1.0) (fills_none k _ xs (passed_later (f w.ring) _ g.1.1.1.1).0)
  doing_keeps (mail from to p) w inv g =
      let copies = or_parts (no_copy w.ring from) (no_copy w.ring to) g.0 in
      letter_keeps k laws start w inv _
      (record { sender = has_copy w.ring from copies.0; addressee = has_copy w.ring to copies.1; claim = sourced_read w inv from p (ltb-true _ _ (not-false _ g.1.1.0)) })
  doing_keeps (hand i) w inv g = hand_keeps w inv (letter_at w.ring.bag.letters i) (found_letter w inv i) g
  doing_keeps (lose i) w inv g = bag_keeps k laws start w inv (lost w.ring.bag i) (all_without (TrueLetter k (sight w)) w.ring.bag.letters i inv.letters)
  doing_keeps (begin c time) w inv g = begin_keeps w inv c (stamp_at time c) (has_copy w.ring c g.0)
  doing_keeps (press j) w inv g = sweep_after w inv j _ (press_keeps w inv (sweep_number w j) (sweep_claim w inv j) g)
  doing_keeps (collect j i) w inv g =
      sweep_after w inv j _ (collect_keeps w inv (sweep_number w j) (letter_at w.ring.bag.letters i) (sweep_claim w inv j) (found_letter w inv i) g)
  doing_keeps (spread j) w inv g = sweep_after w inv j _ (spread_keeps w inv (sweep_number w j) (sweep_claim w inv j))
  doing_keeps (confirm j i) w inv g =
      sweep_set k laws start w inv j _ (confirm_keeps w inv (sweep_number w j) (letter_at w.ring.bag.letters i) (sweep_claim w inv j) (found_letter w inv i) g)
  doing_keeps (close j) w inv g = sweep_set k laws start w inv j ended tt
  doing_keeps (abandon j) w inv g = sweep_set k laws start w inv j ended tt

  -- any list of calls keeps the invariant
  pub run_keeps : (xs : List (Call K)) (w : World K) → Invariant k start w → Invariant k start (run k xs w)
  run_keeps [] w inv = inv
  run_keeps (x ∷ xs) w inv =
      run_keeps xs (step k x w).1 (settled_keeps (Invariant k start) (doing k x w).0 w (doing k x w).1 inv (doing_keeps x w inv))
