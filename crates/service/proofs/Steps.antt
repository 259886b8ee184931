-- Steps of the machine, from what a call does on the ring alone, or on a sweep alone. Assumes nothing.
use Rattle.std.proofs.Common.{◌≡◌, ℕ, List, [], ◌∷◌, ◌++◌, get_or, set, Some, None, Ok, Err, Option, Result, ap, ◌∙◌}
use Rattle.std.proofs.lemmas.List.{set-get_or}
use Rattle.names.specs.Stamps.{stamp_at}
use Rattle.letters.specs.Mail.{letter_at}
use Rattle.machine.specs.Kinds.{Kind}
use Rattle.machine.specs.States.{State, Grounds, floor_at, first_ground, decided, settled}
use Rattle.machine.specs.Sweeps.{Sweep, ended, begin, begin_grounds, begun, turned, moved, press_grounds, pressed, collect_grounds, after_collect, spread_grounds, after_spread, confirm_grounds, after_confirm, close_grounds, abandon_grounds, stamp_of}
use Rattle.machine.specs.Worlds.{World, Got, nothing, stamped, how_far, with_sweep, begin as begins, step}
use Rattle.service.specs.declared.sweep_calls.SweepCall.{SweepCall}
use Rattle.service.specs.declared.sweep_calls.SweepCall.TheVariants as on
use Rattle.service.specs.Calls.{of_sweep_call, world_of, seen}

module _ {K : Type 0} where
  -- a call that is refused on a sweep alone
  pub refused_step : (gs : Grounds) (n : ℕ) (s t : State K) (x y : Sweep) (after : Sweep × State K) (done : Got × World K) → ◌≡◌ {A = Option ℕ × (Sweep × State K)} (Some n, (y, t)) (moved gs (x, s) after) → ◌≡◌ {A = Result Got ℕ × (State K × List Sweep)} (Err n, (t, y ∷ [])) (seen (settled gs (world_of (s, x ∷ [])) done))
  refused_step gs n s t x y after done = go (first_ground gs)
    where
      go : (o : Option ℕ) → ◌≡◌ {A = Option ℕ × (Sweep × State K)} (Some n, (y, t)) (turned o (x, s) after) → ◌≡◌ {A = Result Got ℕ × (State K × List Sweep)} (Err n, (t, y ∷ [])) (seen (decided o (world_of (s, x ∷ [])) done))
      go None e = let ground : Some n ≡ None = ap (λ p. p.0) e in cc
      go (Some g) e =
          let ground : Some n ≡ Some g = ap (λ p. p.0) e in
          let sweep : y ≡ x = ap (λ p. p.1.0) e in
          let ring : t ≡ s = ap (λ p. p.1.1) e in
          cc

  -- a begin that is accepted
  pub begin_step : (k : Kind K) (s t : State K) (ws : List Sweep) (c time : ℕ) (x : Sweep) → ◌≡◌ {A = Result Sweep ℕ × State K} (Ok x, t) (begin s c time) → ◌≡◌ {A = Result Got ℕ × (State K × List Sweep)} (Ok nothing, (t, ws ++ x ∷ [])) (seen (step k (begins c time) (world_of (s, ws))))
  begin_step k s t ws c time x = go (first_ground (begin_grounds s c time)) (begun s c time) (floor_at s c (stamp_at time c))
    where
      go : (o : Option ℕ) (w : Sweep) (s' : State K) → ◌≡◌ {A = Result Sweep ℕ × State K} (Ok x, t) (decided o s (w, s')) → ◌≡◌ {A = Result Got ℕ × (State K × List Sweep)} (Ok nothing, (t, ws ++ x ∷ [])) (seen (decided o (world_of (s, ws)) (nothing, record { ring = s'; sweeps = ws ++ w ∷ []; updates = [] })))
      go None w s' e =
          let sweep : ◌≡◌ {A = Result Sweep ℕ} (Ok x) (Ok w) = ap (λ p. p.0) e in
          let ring : t ≡ s' = ap (λ p. p.1) e in
          cc
      go (Some g) w s' e = let answer : ◌≡◌ {A = Result Sweep ℕ} (Ok x) (Err g) = ap (λ p. p.0) e in cc

  -- a call on sweep j does to it what it does to that sweep alone
  module _ (s t : State K) (ws : List Sweep) (j : ℕ) (y : Sweep) (a : Result Got ℕ) where
    among : (gs : Grounds) (got : Got) (after : Sweep × State K) → (a, (t, y ∷ [])) ≡ seen (settled gs (world_of (s, get_or ws j ended ∷ [])) (got, with_sweep (world_of (s, get_or ws j ended ∷ [])) 0 after)) → (a, (t, set ws j y)) ≡ seen (settled gs (world_of (s, ws)) (got, with_sweep (world_of (s, ws)) j after))
    among gs got after = go (first_ground gs)
      where
        go : (o : Option ℕ) → (a, (t, y ∷ [])) ≡ seen (decided o (world_of (s, get_or ws j ended ∷ [])) (got, with_sweep (world_of (s, get_or ws j ended ∷ [])) 0 after)) → (a, (t, set ws j y)) ≡ seen (decided o (world_of (s, ws)) (got, with_sweep (world_of (s, ws)) j after))
        go None e = ap (λ (p : Result Got ℕ × (State K × List Sweep)). (p.0, (p.1.0, set ws j (get_or p.1.1 0 ended)))) e
        go (Some g) e = ap (λ (p : Result Got ℕ × (State K × List Sweep)). (p.0, (p.1.0, set ws j (get_or p.1.1 0 ended)))) e ∙ ap (λ zs. (Err g, (s, zs))) (set-get_or ws j ended)

    pub step_among : (k : Kind K) (c : SweepCall) → (a, (t, y ∷ [])) ≡ seen (step k (of_sweep_call c 0) (world_of (s, get_or ws j ended ∷ []))) → (a, (t, set ws j y)) ≡ seen (step k (of_sweep_call c j) (world_of (s, ws)))
    step_among k on.Press = let x = get_or ws j ended in among (press_grounds s x) nothing (x, pressed k s x)
    step_among k (on.Collect i) =
        let x = get_or ws j ended in
        let found = letter_at s.bag.letters i in
        among (collect_grounds s x found) (how_far (after_collect k s x found).0) (after_collect k s x found)
    step_among k on.Spread = let x = get_or ws j ended in among (spread_grounds s x) nothing (after_spread s x)
    step_among k (on.Confirm i) =
        let x = get_or ws j ended in
        among (confirm_grounds s x (letter_at s.bag.letters i)) (how_far (after_confirm s x)) (after_confirm s x, s)
    step_among k on.Close = let x = get_or ws j ended in among (close_grounds x) (stamped (stamp_of x)) (ended, s)
    step_among k on.Abandon = among (abandon_grounds (get_or ws j ended)) nothing (ended, s)
