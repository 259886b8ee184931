use Rattle.std.proofs.Common.{◌≡◌, ℕ, ◌/◌, [], ◌∷◌, ◌++◌, length, Some, None, Option, sym, ap, ◌∙◌, rules, arith}
use Rattle.std.proofs.lemmas.Bool.{cond-true, lt-ltb}
use Rattle.std.proofs.lemmas.Grind.{common_steps}
use Rattle.store.specs.Meaning.{paths_of, place_in, join_pairs, join_of}
use Rattle.store.proofs.Pairs.{join_taken, join_refused}
use Rattle.folding_log.specs.declared.slot.LogSlot.{LogSlot}
use Rattle.folding_log.specs.Slots.{log_pairs, arrivals, with_path}
use Rattle.folding_log.specs.Logs.{slots_meaning, log_meaning}
use Rattle.folding_log.proofs.Folds.{push_arrivals, push_placed}
use Rattle.folding_log.proofs.Steps.{log_seated, log_unseated, log_paths, push_pairs}
use Rattle.folding_log.proofs.log_store.LogStore.join.Goals as goal

pub returns-in_err-place : goal.returns-in_err-place
returns-in_err-place g c =
    let none : ◌≡◌ {A = Option (ℕ × ℕ)} None c.place_for.result = search rules in
    let full = log_unseated g.K.Joinable.joined c.args.self.now c.args.path c.find-found.result c.find-found.ensures (none ∙ c.place_for.ensures) in
    record { answer = search rules; after = sym (join_refused _ _ _ _ full) }

pub invariant_of-self : goal.invariant_of-self
invariant_of-self g c =
    let t = c.args.self.now in
    let j = g.K.Joinable.joined in
    let p = c.args.path in
    let new : LogSlot g.row.K.Denot = record { path = p; entry = c.args.entry; place = c.in_ok-place.place } in
    let t' = c.make_room.new.self in
    let ss = t'.slots.items in
    let some : Some (c.in_ok-place.place, c.in_ok-place.held) ≡ c.place_for.result = search rules in
    let s = log_seated j t p c.find-found.result c.find-found.ensures _ _ (some ∙ c.place_for.ensures) in
    let free = c.make_room.ensures.free (omega (arith, s.some, t.half)) in
    let paths : paths_of (log_pairs j t.slots.items) ≡ arrivals ss = sym (ap paths_of c.make_room.ensures.pairs) ∙ log_paths j ss in
    let pushed = c.push.ensures.after ∙ cond-true _ _ _ (lt-ltb _ _ free) in
    let counted = s.counts ∙ ap (λ qs. length (with_path qs p)) paths ∙ sym (ap length (push_arrivals ss new)) in
    let numbered = push_placed ss new t'.numbered (ap (λ qs. place_in (with_path qs p) p) (sym paths) ∙ s.stands) in
    record {
      fits = grind (arith, common_steps, pushed, free);
      half = grind (arith, common_steps, pushed, s.within, c.make_room.ensures.places);
      counted = grind (arith, common_steps, pushed, free, counted);
      numbered = grind (arith, common_steps, pushed, free, numbered);
    }

pub returns : goal.returns
returns g c =
    let t = c.args.self.now in
    let j = g.K.Joinable.joined in
    let new : LogSlot g.row.K.Denot = record { path = c.args.path; entry = c.args.entry; place = c.in_ok-place.place } in
    let t' = c.make_room.new.self in
    let some : Some (c.in_ok-place.place, c.in_ok-place.held) ≡ c.place_for.result = search rules in
    let s = log_seated j t c.args.path c.find-found.result c.find-found.ensures _ _ (some ∙ c.place_for.ensures) in
    let free = c.make_room.ensures.free (omega (arith, s.some, t.half)) in
    let taken = c.push.ensures.answer ∙ cond-true _ _ _ (lt-ltb _ _ free) in
    let pushed = c.push.ensures.after ∙ cond-true _ _ _ (lt-ltb _ _ free) in
    let room = s.room in
    let after : slots_meaning j (record { items = t'.slots.items ++ new ∷ []; places = t'.slots.places }) ≡ join_of j (log_meaning j t) c.args.path c.args.entry =
    ap (λ ps. record { pairs = ps; places = t'.slots.places / 2 }) (push_pairs j t'.slots.items new ∙ ap (λ ps. join_pairs j ps c.args.path c.args.entry) c.make_room.ensures.pairs)
    ∙ ap (λ n. record { pairs = join_pairs j (log_pairs j t.slots.items) c.args.path c.args.entry; places = n / 2 }) c.make_room.ensures.places
    ∙ sym (join_taken j (log_meaning j t) c.args.path c.args.entry s.room) in
    record { answer = search rules; after = grind (arith, common_steps, pushed, free, after) }
