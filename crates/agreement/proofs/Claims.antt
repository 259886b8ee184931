-- What the letters and the sweeps of a ring claim, and that a claim stays true as floors rise and as stores and
-- updates grow. Assumes nothing.
use Rattle.std.proofs.Common.{◌≡◌, ℕ, ◌+◌, ◌<◌, ◌≤◌, ◌⊎◌, List, Some, None, sym, ap, ◌∙◌, subst, ⊎_elim, arith}
use Rattle.std.proofs.lemmas.Bool.{cases_lt}
use Rattle.names.specs.declared.path.Path.{Path}
use Rattle.store.specs.Meaning.{Meaning, Sound, count_of, place_of, path_at, entry_at}
use Rattle.store.proofs.Kept.{found_is_held, held_is_found}
use Rattle.letters.specs.declared.letter.Letter.{Letter}
use Rattle.letters.specs.declared.letter.Tag.{Tag}
use Rattle.letters.specs.declared.letter.Tag.TheVariants.{News, Raise, Counted, Fetch, Entry, Put, Stored, Swept, Noted}
use Rattle.machine.specs.Kinds.{Kind, Laws}
use Rattle.machine.specs.States.{store_of, floor_of, sweep_of}
use Rattle.machine.specs.Sweeps.{Sweep, collecting, collected, spreading, finished, ended}
use Rattle.machine.specs.Worlds.{Update, World}
use Rattle.agreement.specs.Agreement.{In}
use Rattle.agreement.proofs.Stores.{entry_there, Covers, Present, Extends, present_on, present_less, covered_there, one_path}
use Rattle.agreement.proofs.Round.{steps_to}

-- what the claims read of a world: the number of copies, the floor, sweep stamp and store of each, and the updates
pub record Sight (K : Type 0) : Type 0 where
  pub copies : ℕ
  pub floor : ℕ → ℕ
  pub sweep : ℕ → ℕ
  pub store : ℕ → Meaning K
  pub updates : List (Update K)

-- the sight of a world
abbrev pub sight : {K : Type 0} → World K → Sight K
sight w =
    record { copies = w.ring.copies; floor = λ c. floor_of w.ring c; sweep = λ c. sweep_of w.ring c; store = λ c. store_of w.ring c; updates = w.updates }

-- whose updates a claim is about: those of one copy
abbrev pub Own : ℕ → ℕ → Type 0
Own c d = d ≡ c

-- or those of all
abbrev pub Any : ℕ → Type 0
Any d = Unit {0}

module _ {K : Type 0} (k : Kind K) where
  -- an entry under a path comes from accepted updates: there is one, and what covers them all covers it
  pub record Sourced (us : List (Update K)) (p : Path) (e : K) : Type 0 where
    pub update : Update K
    pub accepted : In update us
    pub of_path : update.path ≡ p
    pub bounded : (y : K) → ((u : Update K) → In u us → u.path ≡ p → Covers k y u.entry) → Covers k y e

  -- these copies accept no more updates stamped below s
  abbrev pub Frozen : Sight K → ℕ → (ℕ → Type 0) → Type 0
  Frozen S s Who = (d : ℕ) → d < S.copies → Who d → s ≤ S.floor d

  -- copy c has all their updates stamped below s
  abbrev pub Has : Sight K → ℕ → (ℕ → Type 0) → ℕ → Type 0
  Has S s Who c =
      (u : Update K) → In u S.updates → Who u.copy → k.stamp u.entry < s → Present k (S.store c) u.path u.entry

  -- an update lies at source below n, and has come to target if it lies below p
  pub record Stage (S : Sight K) (source target n p : ℕ) (u : Update K) : Type 0 where
    pub place : ℕ
    pub below : place < n
    pub lies : place_of (S.store source) u.path ≡ Some place
    pub moved : place < p → Present k (S.store target) u.path u.entry

  -- each of their updates stamped below s does so
  abbrev pub Moving : Sight K → ℕ → (ℕ → Type 0) → ℕ → ℕ → ℕ → ℕ → Type 0
  Moving S s Who source target n p =
      (u : Update K) → In u S.updates → Who u.copy → k.stamp u.entry < s → Stage S source target n p u

  -- a path and an entry were read at place p of source when it had all their updates below s
  pub record Carried (S : Sight K) (s : ℕ) (Who : ℕ → Type 0) (source p : ℕ) (x : Path × K) : Type 0 where
    pub lies : place_of (S.store source) x.0 ≡ Some p
    pub covers : (u : Update K) → In u S.updates → Who u.copy → k.stamp u.entry < s → u.path ≡ x.0 → Covers k x.1 u.entry

  -- their updates below s of the path at place p of source have come to target
  pub record Reached (S : Sight K) (s : ℕ) (Who : ℕ → Type 0) (source target p : ℕ) : Type 0 where
    pub path : Path
    pub lies : place_of (S.store source) path ≡ Some p
    pub moved : (u : Update K) → In u S.updates → Who u.copy → k.stamp u.entry < s → u.path ≡ path → Present k (S.store target) u.path u.entry

  -- what a letter claims, by its tag: of its sender, addressee, stamp s, place p, count n, and its path and entry
  abbrev pub LetterClaim : Sight K → Tag → ℕ → ℕ → ℕ → ℕ → ℕ → Path × K → Type 0
  -- the entry comes from updates
  LetterClaim S News from to s p n x = Sourced S.updates x.0 x.1
  -- nothing
  LetterClaim S Raise from to s p n x = Unit {0}
  -- the sender accepts no more updates below s, and its own lie below its count
  LetterClaim S Counted from to s p n x = Frozen S s (Own from) × Moving S s (Own from) from to n 0
  -- the addressee accepts no more updates below s
  LetterClaim S Fetch from to s p n x = Frozen S s (Own to)
  -- nor does the sender, and the entry has its own updates below s of the path
  LetterClaim S Entry from to s p n x =
      Frozen S s (Own from) × Carried S s (Own from) from p x × Sourced S.updates x.0 x.1
  -- no copy accepts more updates below s, and the entry has all of them of the path
  LetterClaim S Put from to s p n x = Frozen S s Any × Carried S s Any from p x × Sourced S.updates x.0 x.1
  -- the sender has all updates below s of the path at the addressee's place
  LetterClaim S Stored from to s p n x = Frozen S s Any × Reached S s Any to from p
  -- the addressee has all updates below s
  LetterClaim S Swept from to s p n x = Frozen S s Any × Has S s Any to
  -- the sender's sweep stamp is at s or above
  LetterClaim S Noted from to s p n x = s ≤ S.sweep from

  -- a letter goes between copies of the ring, and its claim is true
  pub record TrueLetter (S : Sight K) (l : Letter K) : Type 0 where
    pub sender : l.sender < S.copies
    pub addressee : l.addressee < S.copies
    pub claim : LetterClaim S l.tag l.sender l.addressee l.stamp l.place l.count (l.path, l.entry)

  -- the copies of the round before c have given home their updates below s, and accept no more
  abbrev pub Served : Sight K → ℕ → ℕ → ℕ → Type 0
  Served S s home c =
      (d : ℕ) → d < S.copies → steps_to S.copies home d < steps_to S.copies home c → (s ≤ S.floor d) × Has S s (Own d) home

  -- the copies of the round before c have noted the sweep
  abbrev pub Told : Sight K → ℕ → ℕ → ℕ → Type 0
  Told S s home c = (d : ℕ) → d < S.copies → steps_to S.copies home d < steps_to S.copies home c → s ≤ S.sweep d

  -- what a sweep claims, by its state
  abbrev pub SweepClaim : Sight K → Sweep → Type 0
  -- the copies before c have given home their updates
  SweepClaim S (collecting s home c None p) = (home < S.copies) × (c < S.copies) × Served S s home c × (p ≡ 0)
  -- and c has given those below place p
  SweepClaim S (collecting s home c (Some n) p) =
      (home < S.copies) × (c < S.copies) × Served S s home c × Frozen S s (Own c) × Moving S s (Own c) c home n p
  -- home has all updates below s, and no copy accepts more of them
  SweepClaim S (collected s home) = (home < S.copies) × Frozen S s Any × Has S s Any home
  -- and the copies before c have noted the sweep, and c has what lies below place p at home
  SweepClaim S (spreading s home c n p) =
      (home < S.copies) × (c < S.copies) × Told S s home c × Frozen S s Any × Has S s Any home × Moving S s Any home c n p
  -- every copy has noted the sweep
  SweepClaim S (finished s home) = (d : ℕ) → d < S.copies → s ≤ S.sweep d
  SweepClaim S ended = Unit {0}

  -- T may come after S: floors and sweep stamps rise, stores extend, updates stay, and new ones are at their copy's
  -- floor or above
  pub record Onward (S T : Sight K) : Type 0 where
    pub copies : T.copies ≡ S.copies
    pub floor : (d : ℕ) → S.floor d ≤ T.floor d
    pub sweep : (d : ℕ) → S.sweep d ≤ T.sweep d
    pub store : (d : ℕ) → Extends k (S.store d) (T.store d)
    pub stays : (u : Update K) → In u S.updates → In u T.updates
    pub new : (u : Update K) → In u T.updates → In u S.updates ⊎ ((u.copy < S.copies) × (S.floor u.copy ≤ k.stamp u.entry))

-- claims stay true onward
module _ {K : Type 0} (k : Kind K) (laws : Laws k) (S T : Sight K) (on : Onward k S T) where
  -- what comes from updates still does
  pub sourced_on : (p : Path) (e : K) → Sourced k S.updates p e → Sourced k T.updates p e
  sourced_on p e h =
      record { update = h.update; accepted = on.stays _ h.accepted; of_path = h.of_path; bounded = λ y c. h.bounded y (λ u i. c u (on.stays u i)) }

  -- copies that accept no more updates still do not
  pub frozen_on : (s : ℕ) (Who : ℕ → Type 0) → Frozen k S s Who → Frozen k T s Who
  frozen_on s Who f d l h =
      let b : s ≤ S.floor d = f d (omega (arith, on.copies, l)) h in
      omega (arith, b, on.floor d)

  -- an update of theirs below s was there before
  old : (s : ℕ) (Who : ℕ → Type 0) → Frozen k S s Who → (u : Update K) → In u T.updates → Who u.copy → k.stamp u.entry < s → In u S.updates
  old s Who f u i h l = ⊎_elim (λ j. j) (λ n. absurd (omega (arith, f u.copy n.0 h, n.1, l))) (on.new u i)

  -- a copy still has their updates
  pub has_on : (s : ℕ) (Who : ℕ → Type 0) (c : ℕ) → Frozen k S s Who → Has k S s Who c → Has k T s Who c
  has_on s Who c f h u i w l = present_on k laws _ _ _ _ (on.store c) (h u (old s Who f u i w l) w l)

  -- what has moved stays so
  moving_on : (s : ℕ) (Who : ℕ → Type 0) (source target n p : ℕ) → Frozen k S s Who → Moving k S s Who source target n p → Moving k T s Who source target n p
  moving_on s Who source target n p f h u i w l =
      let g = h u (old s Who f u i w l) w l in
      record { place = g.place; below = g.below; lies = (on.store source).lies _ _ g.lies; moved = λ b. present_on k laws _ _ _ _ (on.store target) (g.moved b) }

  -- what was carried still covers them
  pub carried_on : (s : ℕ) (Who : ℕ → Type 0) (source p : ℕ) (x : Path × K) → Frozen k S s Who → Carried k S s Who source p x → Carried k T s Who source p x
  carried_on s Who source p x f h =
      record { lies = (on.store source).lies _ _ h.lies; covers = λ u i w l e. h.covers u (old s Who f u i w l) w l e }

  -- what has come to a copy is still there
  reached_on : (s : ℕ) (Who : ℕ → Type 0) (source target p : ℕ) → Frozen k S s Who → Reached k S s Who source target p → Reached k T s Who source target p
  reached_on s Who source target p f h =
      record { path = h.path; lies = (on.store source).lies _ _ h.lies; moved = λ u i w l e. present_on k laws _ _ _ _ (on.store target) (h.moved u (old s Who f u i w l) w l e) }

  -- the claim of a letter stays true
  claim_on : (t : Tag) (from to s p n : ℕ) (x : Path × K) → LetterClaim k S t from to s p n x → LetterClaim k T t from to s p n x
  claim_on News from to s p n x h = sourced_on _ _ h
  claim_on Raise from to s p n x h = tt
  claim_on Counted from to s p n x h = (frozen_on s (Own from) h.0, moving_on s (Own from) from to n 0 h.0 h.1)
  claim_on Fetch from to s p n x h = frozen_on s (Own to) h
  claim_on Entry from to s p n x h =
      (frozen_on s (Own from) h.0, carried_on s (Own from) from p x h.0 h.1, sourced_on _ _ h.2)
  claim_on Put from to s p n x h = (frozen_on s Any h.0, carried_on s Any from p x h.0 h.1, sourced_on _ _ h.2)
  claim_on Stored from to s p n x h = (frozen_on s Any h.0, reached_on s Any to from p h.0 h.1)
  claim_on Swept from to s p n x h = (frozen_on s Any h.0, has_on s Any to h.0 h.1)
  claim_on Noted from to s p n x h = omega (arith, h, on.sweep from)

  -- so does a letter
  pub letter_on : (l : Letter K) → TrueLetter k S l → TrueLetter k T l
  letter_on l h =
      record {
        sender = omega (arith, on.copies, h.sender);
        addressee = omega (arith, on.copies, h.addressee);
        claim = claim_on l.tag l.sender l.addressee l.stamp l.place l.count (l.path, l.entry) h.claim;
      }

  -- copies that have given their updates have still done so
  served_on : (s home c : ℕ) → Served k S s home c → Served k T s home c
  served_on s home c h d l t =
      let e = on.copies in
      let g = h d (omega (arith, e, l)) (subst (λ n. steps_to n home d < steps_to n home c) e t) in
      let f : s ≤ S.floor d = g.0 in
      (omega (arith, f, on.floor d), has_on s (Own d) home (λ _ _ q. subst (λ z. s ≤ S.floor z) (sym q) f) g.1)

  -- copies that have noted the sweep have still done so
  told_on : (s home c : ℕ) → Told k S s home c → Told k T s home c
  told_on s home c h d l t =
      let e = on.copies in
      omega (arith, h d (omega (arith, e, l)) (subst (λ n. steps_to n home d < steps_to n home c) e t), on.sweep d)

  -- the claim of a sweep stays true
  pub sweep_on : (sw : Sweep) → SweepClaim k S sw → SweepClaim k T sw
  sweep_on (collecting s home c None p) h =
      (omega (arith, on.copies, h.0), omega (arith, on.copies, h.1), served_on s home c h.2, h.3)
  sweep_on (collecting s home c (Some n) p) h =
      (omega (arith, on.copies, h.0), omega (arith, on.copies, h.1), served_on s home c h.2, frozen_on s (Own c) h.3, moving_on s (Own c) c home n p h.3 h.4)
  sweep_on (collected s home) h = (omega (arith, on.copies, h.0), frozen_on s Any h.1, has_on s Any home h.1 h.2)
  sweep_on (spreading s home c n p) h =
      (omega (arith, on.copies, h.0), omega (arith, on.copies, h.1), told_on s home c h.2, frozen_on s Any h.3, has_on s Any home h.3 h.4, moving_on s Any home c n p h.3 h.5)
  sweep_on (finished s home) h = λ d l. omega (arith, h d (omega (arith, on.copies, l)), on.sweep d)
  sweep_on ended h = tt

-- how a store's updates below s come to another: read by place, joined, and counted up
module _ {K : Type 0} (k : Kind K) (laws : Laws k) (S : Sight K) (s : ℕ) (Who : ℕ → Type 0) where
  -- reading a place of a store that has their updates below s
  pub carry : (source p : ℕ) → Sound (S.store source) → Has k S s Who source → p < count_of (S.store source) → Carried k S s Who source p (path_at (S.store source) p, entry_at k.blank (S.store source) p)
  carry source p ok h l =
      record { lies = held_is_found k.blank (S.store source) p ok l; covers = λ u i w b e. covered_there k laws _ _ _ _ (entry_there k.blank (S.store source) p ok l) (subst (λ q. Present k (S.store source) q u.entry) e (h u i w b)) }

  -- what was carried has come to where it was joined
  pub reach : (source target p : ℕ) (x : Path × K) → Carried k S s Who source p x → Present k (S.store target) x.0 x.1 → Reached k S s Who source target p
  reach source target p x h there =
      record { path = x.0; lies = h.lies; moved = λ u i w l e. present_less k laws _ u.path x.1 u.entry (h.covers u i w l e) (subst (λ q. Present k (S.store target) q x.1) (sym e) there) }

  -- a store that has their updates has them below its count
  pub moving_start : (source target : ℕ) → Has k S s Who source → Moving k S s Who source target (count_of (S.store source)) 0
  moving_start source target h u i w l =
      let g = h u i w l in
      record { place = g.place; below = (found_is_held k.blank (S.store source) u.path g.place g.lies).0; lies = g.lies; moved = λ b. absurd (omega (arith, b)) }

  -- the same, to another target from the first place on
  pub moving_again : (source target next n p : ℕ) → Moving k S s Who source target n p → Moving k S s Who source next n 0
  moving_again source target next n p h u i w l =
      let g = h u i w l in
      record { place = g.place; below = g.below; lies = g.lies; moved = λ b. absurd (omega (arith, b)) }

  -- one place further
  pub moving_step : (source target n p : ℕ) → Moving k S s Who source target n p → Reached k S s Who source target p → Moving k S s Who source target n (p + 1)
  moving_step source target n p h r u i w l =
      let g = h u i w l in
      record { place = g.place; below = g.below; lies = g.lies; moved = λ b. ⊎_elim g.moved (here g b) (cases_lt g.place p) }
    where
      here : (g : Stage k S source target n p u) → g.place < p + 1 → p ≤ g.place → Present k (S.store target) u.path u.entry
      here g a b =
          let e : g.place ≡ p = omega arith in
          r.moved u i w l (one_path k.blank (S.store source) u.path r.path p (g.lies ∙ ap Some e) r.lies)

  -- when the place has come to the count, all have moved
  pub moving_end : (source target n p : ℕ) → p ≡ n → Moving k S s Who source target n p → Has k S s Who target
  moving_end source target n p e h u i w l =
      let g = h u i w l in
      g.moved (omega (arith, e, g.below))
