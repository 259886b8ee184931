-- What holds of a ring after every call, and what each change of a ring has to show to keep it. Assumes nothing.
use Rattle.std.proofs.Common.{◌≡◌, ℕ, ◌<◌, ◌≤◌, max, false, List, [], ◌∷◌, ◌++◌, length, get_or, set, Some, sym, refl, ◌∙◌, subst, inl, inr, ⊎_elim, arith}
use Rattle.std.specs.List.{AllByRecursion}
use Rattle.std.proofs.lemmas.Bool.{cases_lt, cond_both}
use Rattle.std.proofs.lemmas.List.{length-set, get_or-set_same}
use Rattle.std.proofs.ByRecursion.{All-weaker, All-push, All-set}
use Rattle.names.specs.declared.path.Path.{Path}
use Rattle.store.specs.Meaning.{Meaning, Sound, no_store, full_for, join_of}
use Rattle.store.specs.Laws.{entry_of}
use Rattle.store.proofs.Kept.{places_stay}
use Rattle.heads.specs.declared.Head.{Head}
use Rattle.heads.specs.Heads.{new_head, lift_floor, lift_sweep}
use Rattle.letters.specs.declared.letter.Letter.{Letter}
use Rattle.letters.specs.Mail.{Mail, is_full, sent}
use Rattle.machine.specs.Kinds.{Kind, Laws}
use Rattle.machine.specs.States.{store_of, floor_of, sweep_of, with_bag, joined_at, floor_at, sweep_at, letter_sent}
use Rattle.machine.specs.Sweeps.{Sweep}
use Rattle.machine.specs.Worlds.{Update, World, with_ring}
use Rattle.agreement.specs.Agreement.{In}
use Rattle.agreement.proofs.Stores.{Present, Extends, covers_join, extends_self, extends_join, each_join, present_on, present_join}
use Rattle.agreement.proofs.Claims.{Sight, sight, Any, Sourced, Frozen, Has, TrueLetter, SweepClaim, Onward, sourced_on, frozen_on, has_on, letter_on, sweep_on}
use Rattle.agreement.proofs.Tables.{change_case}

module _ {K : Type 0} (k : Kind K) where
  -- each update is of a copy, which has it; each entry comes from updates; each store is sound
  pub record Basis (S : Sight K) : Type 0 where
    pub within : (u : Update K) → In u S.updates → u.copy < S.copies
    pub owned : (u : Update K) → In u S.updates → Present k (S.store u.copy) u.path u.entry
    pub sourced : (c : ℕ) (p : Path) (a : K) → entry_of (S.store c) p ≡ Some a → Sourced k S.updates p a
    pub sound : (c : ℕ) → Sound (S.store c)

  -- the whole invariant of a ring that was opened over the stores `start`
  pub record Invariant (start : List (Meaning K)) (w : World K) : Type 0 where
    pub two : 2 ≤ w.ring.copies
    pub eight : w.ring.copies ≤ 8
    pub copies : w.ring.copies ≡ length start
    pub heads : length w.ring.heads ≡ 8
    pub stores : length w.ring.stores ≡ w.ring.copies
    pub places : (c : ℕ) → (store_of w.ring c).places ≡ (get_or start c no_store).places
    pub basis : Basis (sight w)
    pub frozen : (c : ℕ) → Frozen k (sight w) (sweep_of w.ring c) Any
    pub has : (c : ℕ) → Has k (sight w) (sweep_of w.ring c) Any c
    pub letters : AllByRecursion (TrueLetter k (sight w)) w.ring.bag.letters
    pub sweeps : AllByRecursion (SweepClaim k (sight w)) w.sweeps

module _ {K : Type 0} (k : Kind K) (laws : Laws k) (start : List (Meaning K)) (w : World K) (inv : Invariant k start w) where
  -- the world with other heads, stores and updates
  abbrev world_with : List Head → List (Meaning K) → List (Update K) → World K
  world_with hs ms us =
      record { ring = record { copies = w.ring.copies; heads = hs; stores = ms; bag = w.ring.bag }; sweeps = w.sweeps; updates = us }

  -- the invariant holds of it, if it comes after and what the claims do not say holds of it
  world_keeps : (hs : List Head) (ms : List (Meaning K)) (us : List (Update K)) → length hs ≡ 8 → length ms ≡ w.ring.copies → ((c : ℕ) → (get_or ms c no_store).places ≡ (get_or start c no_store).places) → Onward k (sight w) (sight (world_with hs ms us)) → Basis k (sight (world_with hs ms us)) → ((c : ℕ) → Frozen k (sight (world_with hs ms us)) (get_or hs c new_head).sweep Any) → ((c : ℕ) → Has k (sight (world_with hs ms us)) (get_or hs c new_head).sweep Any c) → Invariant k start (world_with hs ms us)
  world_keeps hs ms us lh lm pl on g f h =
      record {
        two = inv.two;
        eight = inv.eight;
        copies = inv.copies;
        heads = lh;
        stores = lm;
        places = pl;
        basis = g;
        frozen = f;
        has = h;
        letters = All-weaker (TrueLetter k (sight w)) (TrueLetter k (sight (world_with hs ms us))) (letter_on k laws _ _ on) _ inv.letters;
        sweeps = All-weaker (SweepClaim k (sight w)) (SweepClaim k (sight (world_with hs ms us))) (sweep_on k laws _ _ on) _ inv.sweeps;
      }

  -- an entry joined under a path at copy c
  module _ (c : ℕ) (p : Path) (e : K) where
    -- the stores after it
    abbrev joined_stores : List (Meaning K)
    joined_stores = set w.ring.stores c (join_of k.join (store_of w.ring c) p e)

    -- what holds of a store, and would hold of it after the join, holds after it
    store_case : (d : ℕ) (P : Meaning K → Type 0) → P (store_of w.ring d) → P (join_of k.join (store_of w.ring d) p e) → P (get_or joined_stores d no_store)
    store_case d P old new = change_case P w.ring.stores c d (λ m. join_of k.join m p e) no_store old (λ _. new)

    -- each store is extended
    extends_at : (d : ℕ) → Extends k (store_of w.ring d) (get_or joined_stores d no_store)
    extends_at d = store_case d (Extends k (store_of w.ring d)) (extends_self k laws _) (extends_join k laws _ p e)

    -- each store is sound
    sound_at : (d : ℕ) → Sound (get_or joined_stores d no_store)
    sound_at d = store_case d Sound (inv.basis.sound d) ((places_stay k.join _ p e).1 (inv.basis.sound d))

    -- each store has its places
    places_at : (d : ℕ) → (get_or joined_stores d no_store).places ≡ (get_or start d no_store).places
    places_at d =
        store_case d (λ m. m.places ≡ (get_or start d no_store).places) (inv.places d) ((places_stay k.join _ p e).0 ∙ inv.places d)

    -- where the joined entry comes from updates, each entry does
    sourced_at : (us : List (Update K)) → ((q : Path) (a : K) → Sourced k w.updates q a → Sourced k us q a) → Sourced k us p e → (d : ℕ) (q : Path) (a : K) → entry_of (get_or joined_stores d no_store) q ≡ Some a → Sourced k us q a
    sourced_at us stays new d =
        store_case d (λ m. (q : Path) (a : K) → entry_of m q ≡ Some a → Sourced k us q a) old (each_join k laws (Sourced k us) both _ p e new old)
      where
        old : (q : Path) (a : K) → entry_of (store_of w.ring d) q ≡ Some a → Sourced k us q a
        old q a f = stays q a (inv.basis.sourced d q a f)

        both : (q : Path) (a b : K) → Sourced k us q a → Sourced k us q b → Sourced k us q (k.join a b)
        both q a b h g =
            record { update = h.update; accepted = h.accepted; of_path = h.of_path; bounded = λ y f. covers_join k laws y a b (h.bounded y f) (g.bounded y f) }

    -- the entry is present there, if the store was not full for its path
    pub present_at : c < w.ring.copies → full_for (store_of w.ring c) p ≡ false → Present k (get_or joined_stores c no_store) p e
    present_at lc n =
        subst (λ m. Present k m p e) (sym (get_or-set_same w.ring.stores c _ no_store (omega (arith, inv.stores)))) (present_join k laws _ p e n)

    -- the world with them comes after
    pub join_onward : Onward k (sight w) (sight (with_ring w (joined_at k w.ring c p e)))
    join_onward =
        record { copies = refl; floor = λ d. omega arith; sweep = λ d. omega arith; store = extends_at; stays = λ u i. i; new = λ u i. inl i }

    -- the invariant holds of it, with further updates
    store_keeps : (us : List (Update K)) → Onward k (sight w) (sight (world_with w.ring.heads joined_stores us)) → Basis k (sight (world_with w.ring.heads joined_stores us)) → Invariant k start (world_with w.ring.heads joined_stores us)
    store_keeps us on g =
        world_keeps w.ring.heads joined_stores us inv.heads (length-set w.ring.stores c _ ∙ inv.stores) places_at on g (λ d. frozen_on k laws _ _ on _ Any (inv.frozen d)) (λ d. has_on k laws _ _ on _ Any d (inv.frozen d) (inv.has d))

    -- a join of an entry that comes from accepted updates keeps the invariant
    pub join_keeps : Sourced k w.updates p e → Invariant k start (with_ring w (joined_at k w.ring c p e))
    join_keeps q =
        store_keeps w.updates join_onward
        (record {
          within = inv.basis.within;
          owned = λ u i. present_on k laws _ _ _ _ (extends_at u.copy) (inv.basis.owned u i);
          sourced = sourced_at w.updates (λ _ _ h. h) q;
          sound = sound_at;
        })

    -- the entry as an update
    abbrev this : Update K
    this = record { copy = c; path = p; entry = e }

    -- a post of an update at the copy's floor or above keeps the invariant
    pub post_keeps : c < w.ring.copies → full_for (store_of w.ring c) p ≡ false → floor_of w.ring c ≤ k.stamp e → Invariant k start (record { ring = joined_at k w.ring c p e; sweeps = w.sweeps; updates = this ∷ w.updates })
    post_keeps lc n lf =
        store_keeps (this ∷ w.updates) onward
        (record {
          within = within;
          owned = owned;
          sourced = sourced_at (this ∷ w.updates) (sourced_on k laws _ _ onward) (record { update = this; accepted = inl refl; of_path = refl; bounded = λ y h. h this (inl refl) refl });
          sound = sound_at;
        })
      where
        onward : Onward k (sight w) (sight (world_with w.ring.heads joined_stores (this ∷ w.updates)))
        onward =
            record {
              copies = refl;
              floor = λ d. omega arith;
              sweep = λ d. omega arith;
              store = extends_at;
              stays = λ u i. inr i;
              new = λ u. ⊎_elim (λ q. inr (subst (λ v. (v.copy < w.ring.copies) × (floor_of w.ring v.copy ≤ k.stamp v.entry)) (sym q) (lc, lf))) inl;
            }

        within : (u : Update K) → In u (this ∷ w.updates) → u.copy < w.ring.copies
        within u (inl q) = subst (λ v. v.copy < w.ring.copies) (sym q) lc
        within u (inr i) = inv.basis.within u i

        owned : (u : Update K) → In u (this ∷ w.updates) → Present k (get_or joined_stores u.copy no_store) u.path u.entry
        owned u (inl q) = subst (λ v. Present k (get_or joined_stores v.copy no_store) v.path v.entry) (sym q) (present_at lc n)
        owned u (inr i) = present_on k laws _ _ _ _ (extends_at u.copy) (inv.basis.owned u i)

  -- the head of copy c changed, its floor and sweep stamp not lowered
  module _ (c : ℕ) (f : Head → Head) (up : (h : Head) → (h.floor ≤ (f h).floor) × (h.sweep ≤ (f h).sweep)) where
    -- the heads after it
    abbrev changed_heads : List Head
    changed_heads = set w.ring.heads c (f (get_or w.ring.heads c new_head))

    -- the world with them comes after
    heads_onward : Onward k (sight w) (sight (world_with changed_heads w.ring.stores w.updates))
    heads_onward =
        record {
          copies = refl;
          floor = λ d. change_case (λ h. floor_of w.ring d ≤ h.floor) w.ring.heads c d f new_head (omega arith) (λ _. (up _).0);
          sweep = λ d. change_case (λ h. sweep_of w.ring d ≤ h.sweep) w.ring.heads c d f new_head (omega arith) (λ _. (up _).1);
          store = λ d. extends_self k laws _;
          stays = λ u i. i;
          new = λ u i. inl i;
        }

    -- the invariant holds of it, if the copy has all updates below its new sweep stamp
    heads_keep : ((d : ℕ) → c ≡ d → Frozen k (sight w) (f (get_or w.ring.heads d new_head)).sweep Any) → ((d : ℕ) → c ≡ d → Has k (sight w) (f (get_or w.ring.heads d new_head)).sweep Any d) → Invariant k start (world_with changed_heads w.ring.stores w.updates)
    heads_keep frozen has =
        world_keeps changed_heads w.ring.stores w.updates (length-set w.ring.heads c _ ∙ inv.heads) inv.stores inv.places heads_onward
        (record { within = inv.basis.within; owned = inv.basis.owned; sourced = inv.basis.sourced; sound = inv.basis.sound })
        (λ d. frozen_on k laws _ _ heads_onward _ Any (change_case (λ h. Frozen k (sight w) h.sweep Any) w.ring.heads c d f new_head (inv.frozen d) (frozen d)))
        (λ d. change_case (λ h. Has k (sight w) h.sweep Any d) w.ring.heads c d f new_head (inv.has d) (has d))

    -- the copy has the changed head
    changed_here : c < w.ring.copies → get_or changed_heads c new_head ≡ f (get_or w.ring.heads c new_head)
    changed_here lc = get_or-set_same w.ring.heads c _ new_head (omega (arith, inv.heads, inv.eight))

  -- the floor of copy c lifted to s
  module _ (c s : ℕ) where
    -- lifting a floor lowers nothing
    rising_floor : (h : Head) → (h.floor ≤ (lift_floor s h).floor) × (h.sweep ≤ (lift_floor s h).sweep)
    rising_floor h = (omega arith, omega arith)

    -- the world comes after
    pub floor_onward : Onward k (sight w) (sight (with_ring w (floor_at w.ring c s)))
    floor_onward = heads_onward c (lift_floor s) rising_floor

    -- the invariant holds of it
    pub floor_keeps : Invariant k start (with_ring w (floor_at w.ring c s))
    floor_keeps = heads_keep c (lift_floor s) rising_floor (λ d _. inv.frozen d) (λ d _. inv.has d)

    -- the floor is at s or above
    pub floor_up : c < w.ring.copies → s ≤ floor_of (floor_at w.ring c s) c
    floor_up lc = subst (λ h. s ≤ h.floor) (sym (changed_here c (lift_floor s) rising_floor lc)) (omega arith)

  -- the sweep stamp of copy c lifted to s
  module _ (c s : ℕ) where
    -- lifting a sweep stamp lowers nothing
    rising_sweep : (h : Head) → (h.floor ≤ (lift_sweep s h).floor) × (h.sweep ≤ (lift_sweep s h).sweep)
    rising_sweep h = (omega arith, omega arith)

    -- the world comes after
    pub sweep_onward : Onward k (sight w) (sight (with_ring w (sweep_at w.ring c s)))
    sweep_onward = heads_onward c (lift_sweep s) rising_sweep

    -- the invariant holds of it, if the copy has all updates below s and no copy accepts more of them
    pub sweep_keeps : Frozen k (sight w) s Any → Has k (sight w) s Any c → Invariant k start (with_ring w (sweep_at w.ring c s))
    sweep_keeps f h = heads_keep c (lift_sweep s) rising_sweep (λ d _. frozen d) has
      where
        frozen : (d : ℕ) → Frozen k (sight w) (max (sweep_of w.ring d) s) Any
        frozen d e l _ = omega (arith, f e l tt, inv.frozen d e l tt)

        has : (d : ℕ) → c ≡ d → Has k (sight w) (max (sweep_of w.ring d) s) Any d
        has d q u i _ l =
            ⊎_elim (λ b. subst (λ z. Present k (store_of w.ring z) u.path u.entry) q (h u i tt b)) (λ b. inv.has d u i tt (omega (arith, l, b))) (cases_lt (k.stamp u.entry) s)

    -- the sweep stamp is at s or above
    pub sweep_up : c < w.ring.copies → s ≤ sweep_of (sweep_at w.ring c s) c
    sweep_up lc = subst (λ h. s ≤ h.sweep) (sym (changed_here c (lift_sweep s) rising_sweep lc)) (omega arith)

  -- another bag and other sweeps whose claims are true keep the invariant
  rest_keeps : (b : Mail (Letter K)) (sws : List Sweep) → AllByRecursion (TrueLetter k (sight w)) b.letters → AllByRecursion (SweepClaim k (sight w)) sws → Invariant k start (record { ring = with_bag w.ring b; sweeps = sws; updates = w.updates })
  rest_keeps b sws h g =
      record { two = inv.two; eight = inv.eight; copies = inv.copies; heads = inv.heads; stores = inv.stores; places = inv.places; basis = inv.basis; frozen = inv.frozen; has = inv.has; letters = h; sweeps = g }

  -- so does another bag
  pub bag_keeps : (b : Mail (Letter K)) → AllByRecursion (TrueLetter k (sight w)) b.letters → Invariant k start (with_ring w (with_bag w.ring b))
  bag_keeps b h = rest_keeps b w.sweeps h inv.sweeps

  -- one letter more
  pub letter_keeps : (l : Letter K) → TrueLetter k (sight w) l → Invariant k start (with_ring w (letter_sent w.ring l))
  letter_keeps l h =
      bag_keeps (sent w.ring.bag l) (cond_both (is_full w.ring.bag) _ _ (λ (b : Mail (Letter K)). AllByRecursion (TrueLetter k (sight w)) b.letters) (λ _. inv.letters) (λ _. All-push (TrueLetter k (sight w)) _ l inv.letters h))

  -- one sweep more
  pub sweep_added : (sw : Sweep) → SweepClaim k (sight w) sw → Invariant k start (record { ring = w.ring; sweeps = w.sweeps ++ sw ∷ []; updates = w.updates })
  sweep_added sw h = rest_keeps w.ring.bag _ inv.letters (All-push (SweepClaim k (sight w)) w.sweeps sw inv.sweeps h)

  -- and a sweep in another state
  pub sweep_set : (j : ℕ) (sw : Sweep) → SweepClaim k (sight w) sw → Invariant k start (record { ring = w.ring; sweeps = set w.sweeps j sw; updates = w.updates })
  sweep_set j sw h = rest_keeps w.ring.bag _ inv.letters (All-set (SweepClaim k (sight w)) w.sweeps j sw h inv.sweeps)
