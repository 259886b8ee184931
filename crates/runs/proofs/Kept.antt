-- The promise, from the agreement of copies and the laws of reading. Assumes nothing.
use Rattle.std.proofs.Common.{◌≡◌, ℕ, ◌<◌, false, not, eqb, List, [], ◌∷◌, map, length, Some, None, Ok, Option, sym, refl, ap, ◌∙◌, arith}
use mathlib.Core.Path.{fun_ext}
use Rattle.std.proofs.lemmas.List.{get_or-set_same}
use Rattle.std.proofs.lemmas.Bool.{lt-ltb, cond-false, or_parts, and_parts, not-false, eqb-false}
use Rattle.names.specs.declared.label.Label.{Label}
use Rattle.entries.specs.declared.recipe.Recipe.{Recipe}
use Rattle.store.specs.Meaning.{Meaning, no_store}
use Rattle.store.specs.Laws.{entry_of}
use Rattle.reading.specs.Lookup.{lookup_of}
use Rattle.reading.specs.Growth.{used_in, Unused, grown, one_step_later}
use Rattle.reading.proofs.Uses.{unused_exactly}
use Rattle.reading.proofs.Grown.{outside_as_before, inside_one_step_later}
use Rattle.listing.specs.declared.listed.Listed.{Listed}
use Rattle.listing.specs.Listing.{list_answer, list_after}
use Rattle.listing.proofs.Writes.{listings_alike}
use Rattle.machine.specs.Kinds.{Laws}
use Rattle.machine.specs.States.{State, Grounds, store_of, no_copy, first_ground, decided, settled}
use Rattle.machine.specs.Posts.{posting_grounds, posted}
use Rattle.machine.specs.Worlds.{World, Got, nothing, doing, step, opened}
use Rattle.agreement.specs.Agreement.{Fresh}
use Rattle.agreement.proofs.Agree.{agreement, finished_everywhere, stores_sound, always}
use Rattle.agreement.proofs.Calls.{run_keeps}
use Rattle.agreement.proofs.Invariant.{Invariant}
use Rattle.agreement.proofs.Passing.{Passed, none_fits, has_copy}
use Rattle.ring.specs.Recipes.{recipes, growth_update, growth_grounds, lookup_at, list_at}
use Rattle.service.specs.declared.recipe_call.RecipeCall.{RecipeCall}
use Rattle.service.specs.declared.recipe_call.RecipeCall.TheVariants.{Ring, Grow}
use Rattle.service.specs.RecipeCalls.{of_recipe_call}
use Rattle.runs.specs.Promise.{GrowthHolds, GrowthsHold, after, Promise}

-- a copy below the number of copies is there
here : (s : State Recipe) (c : ℕ) → c < s.copies → no_copy s c ≡ false
here s c lt = ap not (lt-ltb _ _ lt)

lookup_here : (s : State Recipe) (c : ℕ) → c < s.copies → (start : ℕ) (name : List Label) → lookup_at s c start name ≡ lookup_of (entry_of (store_of s c)) start name
lookup_here s c lt start name = cond-false _ _ _ (here s c lt)

list_here : (s : State Recipe) (c : ℕ) → c < s.copies → (d : ℕ) (memory : List Listed) → list_at s c d memory ≡ (list_answer (store_of s c) d memory, list_after (store_of s c) d memory)
list_here s c lt d memory = cond-false _ _ _ (here s c lt)

-- stores with the same entries answer every lookup alike
same_lookups : (m n : Meaning Recipe) → ((p : _) → entry_of m p ≡ entry_of n p) → (start : ℕ) (name : List Label) → lookup_of (entry_of m) start name ≡ lookup_of (entry_of n) start name
same_lookups m n e start name = ap (λ f. lookup_of f start name) (fun_ext e)

-- an accepted call found no ground
accepted : (gs : Grounds) (w : World Recipe) (done : Got × World Recipe) (g : Got) → (settled gs w done).0 ≡ Ok g → Passed gs × ((settled gs w done).1 ≡ done.1)
accepted gs w done g = go (first_ground gs) refl
  where
    go : (o : Option ℕ) → first_ground gs ≡ o → (decided o w done).0 ≡ Ok g → Passed gs × ((decided o w done).1 ≡ done.1)
    go None h e = (none_fits gs h, refl)
    go (Some n) h e = absurd cc

-- one accepted growth
growth_holds : (laws : Laws recipes) (start : List (Meaning Recipe)) (w : World Recipe) → Invariant recipes start w → (c stamp new : ℕ) (x : Label) (old : ℕ) → (step recipes (of_recipe_call (Grow c stamp new x old)) w).0 ≡ Ok nothing → GrowthHolds w.ring (step recipes (of_recipe_call (Grow c stamp new x old)) w).1.ring c new x old
growth_holds laws start w inv c stamp new x old e =
    let s = w.ring in
    let m = store_of s c in
    let xs = growth_update stamp new x old in
    let d = doing recipes (of_recipe_call (Grow c stamp new x old)) w in
    let a = accepted (posting_grounds recipes s c xs (growth_grounds c new old s)) w d.1 nothing e in
    let p = a.0 in
    let lt = has_copy s c p.0 in
    let free = or_parts (eqb new old) (used_in new m.pairs) p.1.1.1.1.0 in
    let unused : Unused new m.pairs = (unused_exactly new m.pairs false (sym free.1)).0 refl in
    let sound = (and_parts _ _ (and_parts _ _ (not-false _ p.1.0)).0).0 in
    let left : (step recipes (of_recipe_call (Grow c stamp new x old)) w).1.ring ≡ posted recipes s c xs = ap (λ (v : World Recipe). v.ring) a.1 in
    let store : store_of (posted recipes s c xs) c ≡ grown m stamp new x old = get_or-set_same s.stores c _ no_store (omega (arith, inv.stores, lt)) in
    let read : (start : ℕ) (name : List Label) → lookup_at (step recipes (of_recipe_call (Grow c stamp new x old)) w).1.ring c start name ≡ lookup_of (entry_of (grown m stamp new x old)) start name =
    λ start name. ap (λ (t : State Recipe). lookup_at t c start name) left ∙ lookup_here (posted recipes s c xs) c lt start name ∙ ap (λ (n : Meaning Recipe). lookup_of (entry_of n) start name) store in
    record {
      outside = λ start name ne. read start name ∙ outside_as_before m stamp new x old unused start name ne ∙ sym (lookup_here s c lt start name);
      inside = λ name one seven.
          read new (x ∷ name)
          ∙ inside_one_step_later m stamp new x old unused (eqb-false _ _ free.0) p.1.1.1.1.1.0 sound name one seven
          ∙ ap one_step_later (sym (lookup_here s c lt old name));
    }

growths_hold : (laws : Laws recipes) (start : List (Meaning Recipe)) (calls : List RecipeCall) (w : World Recipe) → Invariant recipes start w → GrowthsHold calls w
growths_hold laws start [] w inv = tt
growths_hold laws start (Ring y ∷ calls) w inv = growths_hold laws start calls _ (run_keeps recipes laws start (of_recipe_call (Ring y) ∷ []) w inv)
growths_hold laws start (Grow c stamp new x old ∷ calls) w inv =
    (growth_holds laws start w inv c stamp new x old, growths_hold laws start calls _ (run_keeps recipes laws start (of_recipe_call (Grow c stamp new x old) ∷ []) w inv))

pub promise : (laws : Laws recipes) (stores : List (Meaning Recipe)) (room : ℕ) (calls : List RecipeCall) → Fresh stores → Promise stores room calls
promise laws stores room calls fresh =
    let cs = map of_recipe_call calls in
    let w = after stores room calls in
    let inv = always recipes laws stores room cs fresh in
    let in_ring : (c : ℕ) → c < length stores → c < w.ring.copies = λ c lt. omega (arith, inv.copies, lt) in
    record {
      agreement = λ c d lc ld. agreement recipes laws stores room cs c d fresh lc ld;
      lookups = λ c d lc ld below start name.
          lookup_here w.ring c (in_ring c lc) start name
          ∙ same_lookups (store_of w.ring c) (store_of w.ring d) ((agreement recipes laws stores room cs c d fresh lc ld).alike below) start name
          ∙ sym (lookup_here w.ring d (in_ring d ld) start name);
      listings = λ c d lc ld below directory memory.
          let both = listings_alike (store_of w.ring c) (store_of w.ring d) (stores_sound recipes laws stores room cs c fresh).sound (stores_sound recipes laws stores room cs d fresh).sound ((agreement recipes laws stores room cs c d fresh lc ld).alike below) directory memory in
          list_here w.ring c (in_ring c lc) directory memory
          ∙ ap (λ a. (a, list_after (store_of w.ring c) directory memory)) both.0
          ∙ ap (λ m. (list_answer (store_of w.ring d) directory memory, m)) both.1
          ∙ sym (list_here w.ring d (in_ring d ld) directory memory);
      growths = growths_hold laws stores calls (opened stores room) (always recipes laws stores room [] fresh);
      finished_everywhere = λ j s home c lc e. finished_everywhere recipes laws stores room cs j s home c fresh lc e;
    }
