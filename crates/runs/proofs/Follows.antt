-- A list of calls, one after another, and the machine's run of it. Assumes nothing.
use Rattle.std.proofs.Common.{◌≡◌, ℕ, ◌+◌, ◌<◌, ◌≤◌, List, [], ◌∷◌, ◌++◌, map, length, get_or, drop, Some, None, Ok, Err, Option, Result, sym, refl, ap, ◌∙◌, append_assoc}
use Rattle.std.proofs.lemmas.List.{drop_more, drop_all, append-nil}
use Rattle.entries.specs.declared.recipe.Recipe.{Recipe}
use Rattle.machine.specs.Kinds.{Kind}
use Rattle.machine.specs.States.{State, first_ground, decided}
use Rattle.machine.specs.Sweeps.{Sweep}
use Rattle.machine.specs.Worlds.{World, Call, Got, posts, mail, hand, lose, begin, press, collect, spread, confirm, close, abandon, doing, step, run, answers}
use Rattle.ring.specs.Recipes.{recipes}
use Rattle.service.specs.declared.recipe_call.RecipeCall.{RecipeCall}
use Rattle.service.specs.Calls.{world_of, seen}
use Rattle.service.specs.RecipeCalls.{of_recipe_call}
use Rattle.runs.specs.Runs.{runs_from}

-- the answers so far, and what is left
abbrev pub Left : List (Result Got ℕ) → State Recipe × List Sweep → List RecipeCall → List (Result Got ℕ) × (State Recipe × List Sweep)
Left said x calls = (said ++ (runs_from x calls).0, (runs_from x calls).1)

-- one call more
pub one_more : (said : List (Result Got ℕ)) (x y : State Recipe × List Sweep) (calls : List RecipeCall) (i : ℕ) (d : RecipeCall) (a : Result Got ℕ) → i < length calls → (a, y) ≡ seen (step recipes (of_recipe_call (get_or calls i d)) (world_of x)) → Left (said ++ a ∷ []) y (drop (i + 1) calls) ≡ Left said x (drop i calls)
one_more said x y calls i d a lt e =
    ap (λ (r : Result Got ℕ × (State Recipe × List Sweep)). Left (said ++ r.0 ∷ []) r.1 (drop (i + 1) calls)) e
    ∙ ap (λ zs. (zs, (runs_from (seen (step recipes (of_recipe_call (get_or calls i d)) (world_of x))).1 (drop (i + 1) calls)).1)) (append_assoc said ((seen (step recipes (of_recipe_call (get_or calls i d)) (world_of x))).0 ∷ []) (runs_from (seen (step recipes (of_recipe_call (get_or calls i d)) (world_of x))).1 (drop (i + 1) calls)).0)
    ∙ ap (Left said x) (sym (drop_more calls i d lt))

-- none is left
pub none_left : (said : List (Result Got ℕ)) (x : State Recipe × List Sweep) (calls : List RecipeCall) (i : ℕ) → length calls ≤ i → Left said x (drop i calls) ≡ (said, x)
none_left said x calls i le = ap (Left said x) (drop_all i calls le) ∙ ap (λ zs. (zs, x)) (append-nil said)

-- what is seen of a decision goes by what is seen of the worlds before and after
same_seen : (o : Option ℕ) (w v : World Recipe) (x y : Got × World Recipe) → ◌≡◌ {A = State Recipe × List Sweep} (w.ring, w.sweeps) (v.ring, v.sweeps) → seen x ≡ seen y → seen (decided o w x) ≡ seen (decided o v y)
same_seen None w v x y before after = ap (λ (t : Got × (State Recipe × List Sweep)). (Ok t.0, t.1)) after
same_seen (Some g) w v x y before after = ap (λ (t : State Recipe × List Sweep). (Err g, t)) before

module _ (k : Kind Recipe) where
  by_parts : (x : Call Recipe) (w : World Recipe) → (doing k x w).0 ≡ (doing k x (world_of (w.ring, w.sweeps))).0 → seen (doing k x w).1 ≡ seen (doing k x (world_of (w.ring, w.sweeps))).1 → seen (step k x w) ≡ seen (step k x (world_of (w.ring, w.sweeps)))
  by_parts x w grounds done =
      same_seen (first_ground (doing k x w).0) w (world_of (w.ring, w.sweeps)) (doing k x w).1 (doing k x (world_of (w.ring, w.sweeps))).1 refl done
      ∙ ap (λ gs. seen (decided (first_ground gs) (world_of (w.ring, w.sweeps)) (doing k x (world_of (w.ring, w.sweeps))).1)) grounds

  -- a step goes by the ring and the sweeps alone, whatever updates were recorded
  blind : (x : Call Recipe) (w : World Recipe) → seen (step k x w) ≡ seen (step k x (world_of (w.ring, w.sweeps)))
  blind (posts c xs own) w = by_parts (posts c xs own) w refl refl
  blind (mail from to place) w = by_parts (mail from to place) w refl refl
  blind (hand i) w = by_parts (hand i) w refl refl
  blind (lose i) w = by_parts (lose i) w refl refl
  blind (begin c time) w = by_parts (begin c time) w refl refl
  blind (press j) w = by_parts (press j) w refl refl
  blind (collect j i) w = by_parts (collect j i) w refl refl
  blind (spread j) w = by_parts (spread j) w refl refl
  blind (confirm j i) w = by_parts (confirm j i) w refl refl
  blind (close j) w = by_parts (close j) w refl refl
  blind (abandon j) w = by_parts (abandon j) w refl refl

-- the calls one after another are the machine's run
pub runs_run : (calls : List RecipeCall) (w : World Recipe) → runs_from (w.ring, w.sweeps) calls ≡ (answers recipes (map of_recipe_call calls) w, ((run recipes (map of_recipe_call calls) w).ring, (run recipes (map of_recipe_call calls) w).sweeps))
runs_run [] w = refl
runs_run (c ∷ calls) w =
    let v = step recipes (of_recipe_call c) w in
    let same = sym (blind recipes (of_recipe_call c) w) in
    ap (λ (r : Result Got ℕ × (State Recipe × List Sweep)). (r.0 ∷ (runs_from r.1 calls).0, (runs_from r.1 calls).1)) same
    ∙ ap (λ (r : List (Result Got ℕ) × (State Recipe × List Sweep)). (v.0 ∷ r.0, r.1)) (runs_run calls v.1)
