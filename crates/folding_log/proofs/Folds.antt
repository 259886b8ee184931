-- The fold of a log, slot by slot, and one slot more. Assumes nothing.
use Rattle.std.proofs.Common.{◌≡◌, ℕ, ◌+◌, ◌<◌, ◌≤◌, true, List, [], ◌∷◌, ◌++◌, map, length, get_or, take, set, Some, sym, refl, ap, ◌∙◌, subst, length-set, arith}
use lib.Seq.{take-set-lt}
use Rattle.std.proofs.lemmas.List.{length-map, map_push, get_or-take, get_or-set_other, length-take-le, take_more_set}
use Rattle.names.specs.declared.path.Path.{Path}
use Rattle.store.specs.Meaning.{paths_of, place_in, join_pairs}
use Rattle.store.specs.Joins.{join_paths, length_paths}
use Rattle.store.proofs.Pairs.{join_held, join_new}
use Rattle.store.proofs.Views.{view_length, view_here, view_set, view_push}
use Rattle.folding_log.specs.declared.slot.LogSlot.{LogSlot}
use Rattle.folding_log.specs.Slots.{pair_of, joined_to, log_pairs, with_path, with_paths, arrivals, placed}
use Rattle.folding_log.specs.Logs.{joined_distinct}
use Rattle.folding_log.proofs.Arrivals.{with_paths_append}
use Rattle.folding_log.proofs.Numbers.{placed_at, placed_push, placed_set, placed_with_path, joined_same, paths_append}
use Rattle.folding_log.proofs.Steps.{step_held, step_new, log_paths, log_step, log_place}

-- the first f of ss are the pairs of the first i of the slots from, and the slots from i on are as they were
pub record Folded {K : Type 0} (join : K → K → K) (from ss : List (LogSlot K)) (f i : ℕ) : Type 0 where
  pub fewer : f ≤ i
  pub long : length ss ≡ length from
  pub pairs : map pair_of (take f ss) ≡ log_pairs join (take i from)
  pub numbered : placed (paths_of (map pair_of (take f ss))) (take f ss) ≡ true
  pub rest : (k : ℕ) (s : LogSlot K) → i ≤ k → get_or ss k s ≡ get_or from k s

module _ {K : Type 0} (join : K → K → K) (from : List (LogSlot K)) (num : placed (arrivals from) from ≡ true) (ss : List (LogSlot K)) (f i : ℕ) (lt : i < length from) (inv : Folded join from ss f i) (slot : LogSlot K) (read : slot ≡ get_or ss i slot) where
  turn_read : get_or from i slot ≡ slot
  turn_read = sym (read ∙ inv.rest i slot (omega arith))

  turn_at : place_in (paths_of (join_pairs join (map pair_of (take f ss)) slot.path slot.entry)) slot.path ≡ Some slot.place
  turn_at =
      subst (λ xs. place_in (paths_of (join_pairs join xs slot.path slot.entry)) slot.path ≡ Some slot.place) (sym inv.pairs)
      (subst (λ (x : LogSlot K). place_in (paths_of (join_pairs join (log_pairs join (take i from)) x.path x.entry)) x.path ≡ Some x.place) turn_read (log_place join from num i slot lt))

  turn_next : join_pairs join (map pair_of (take f ss)) slot.path slot.entry ≡ log_pairs join (take (i + 1) from)
  turn_next =
      ap (λ xs. join_pairs join xs slot.path slot.entry) inv.pairs
      ∙ ap (λ (x : LogSlot K). join_pairs join (log_pairs join (take i from)) x.path x.entry) (sym turn_read)
      ∙ sym (log_step join from num i slot lt)

  turn_fits : f ≤ length ss
  turn_fits = omega (arith, inv.fewer, inv.long)

  turn_long : length (map pair_of (take f ss)) ≡ f
  turn_long = view_length pair_of f ss turn_fits

  pub fold_held : (old new : LogSlot K) → slot.place < f → old ≡ get_or ss slot.place old → new.path ≡ old.path → new.entry ≡ join old.entry slot.entry → new.place ≡ old.place → Folded join from (set ss slot.place new) f (i + 1)
  fold_held old new low read' path entry place =
      let ps = map pair_of (take f ss) in
      let m = slot.place in
      let p = slot.path in
      let e = slot.entry in
      let held = step_held join ps p e m turn_at (omega (arith, turn_long)) in
      let is : ◌≡◌ {A = Path × K} (pair_of new) ((get_or ss m old).path, join (get_or ss m old).entry e) = cc in
      let pairs : map pair_of (take f (set ss m new)) ≡ join_pairs join ps p e =
      view_set pair_of f ss m new low
      ∙ ap (set ps m) is
      ∙ ap (λ (x : Path × K). set ps m (x.0, join x.1 e)) (sym (view_here pair_of f ss m old turn_fits low))
      ∙ sym (join_held join ps p e m (pair_of old) held) in
      let qs = with_path (paths_of ps) p in
      let paths : paths_of (map pair_of (take f (set ss m new))) ≡ qs = ap paths_of pairs ∙ join_paths join ps p e in
      let rows = placed_with_path (paths_of ps) (take f ss) p inv.numbered in
      let there = placed_at qs (take f ss) m old rows (omega (arith, length-take-le f ss turn_fits)) in
      let here : get_or (take f ss) m old ≡ get_or ss m old = get_or-take f ss m old low in
      let at : place_in qs new.path ≡ Some new.place = cc in
      record {
        fewer = omega (arith, inv.fewer);
        long = length-set ss m new ∙ inv.long;
        pairs = pairs ∙ turn_next;
        numbered = ap (λ xs. placed xs (take f (set ss m new))) paths ∙ ap (placed qs) (take-set-lt f ss m new low) ∙ placed_set qs (take f ss) m new rows at;
        rest = λ k x h. get_or-set_other ss m k new x (omega (arith, inv.fewer)) ∙ inv.rest k x (omega arith);
      }

  pub fold_new : f ≤ slot.place → Folded join from (set ss f slot) (f + 1) (i + 1)
  fold_new high =
      let ps = map pair_of (take f ss) in
      let m = slot.place in
      let p = slot.path in
      let e = slot.entry in
      let new = step_new join ps p e m turn_at (omega (arith, turn_long)) in
      let within : f < length ss = omega (arith, inv.fewer, inv.long) in
      let pairs : map pair_of (take (f + 1) (set ss f slot)) ≡ join_pairs join ps p e = view_push pair_of f ss slot within ∙ sym (join_new join ps p e new.0) in
      let qs = with_path (paths_of ps) p in
      let paths : paths_of (map pair_of (take (f + 1) (set ss f slot))) ≡ qs = ap paths_of pairs ∙ join_paths join ps p e in
      let rows = placed_with_path (paths_of ps) (take f ss) p inv.numbered in
      let at : place_in qs p ≡ Some m = ap (λ xs. place_in xs p) (sym (join_paths join ps p e)) ∙ turn_at in
      record {
        fewer = omega (arith, inv.fewer);
        long = length-set ss f slot ∙ inv.long;
        pairs = pairs ∙ turn_next;
        numbered = ap (λ xs. placed xs (take (f + 1) (set ss f slot))) paths ∙ ap (placed qs) (take_more_set ss f slot within) ∙ placed_push qs (take f ss) slot rows at;
        rest = λ k x h. get_or-set_other ss f k slot x (omega (arith, inv.fewer)) ∙ inv.rest k x (omega arith);
      }

-- slots that hold the pairs of a log, one a path, are a log of the same pairs
module _ {K : Type 0} (join : K → K → K) (from ss : List (LogSlot K)) (pairs : map pair_of ss ≡ log_pairs join from) where
  pub folded_pairs : log_pairs join ss ≡ log_pairs join from
  folded_pairs = ap (joined_to join []) pairs ∙ joined_same join [] (log_pairs join from) (joined_distinct join [] (map pair_of from) refl)

  pub folded_arrivals : arrivals ss ≡ arrivals from
  folded_arrivals = sym (log_paths join ss) ∙ ap paths_of folded_pairs ∙ log_paths join from

  pub folded_paths : arrivals ss ≡ paths_of (map pair_of ss)
  folded_paths = sym (log_paths join ss) ∙ ap paths_of (folded_pairs ∙ sym pairs)

  pub folded_length : length ss ≡ length (arrivals from)
  folded_length = sym (length-map ss pair_of) ∙ sym (length_paths (map pair_of ss)) ∙ ap length (sym folded_paths ∙ folded_arrivals)

-- one slot more
module _ {K : Type 0} (ss : List (LogSlot K)) (s : LogSlot K) where
  pub push_arrivals : arrivals (ss ++ s ∷ []) ≡ with_path (arrivals ss) s.path
  push_arrivals =
      ap (λ xs. with_paths [] (paths_of xs)) (map_push pair_of ss s)
      ∙ ap (with_paths []) (paths_append (map pair_of ss) (pair_of s ∷ []))
      ∙ with_paths_append [] (paths_of (map pair_of ss)) (s.path ∷ [])

  pub push_placed : placed (arrivals ss) ss ≡ true → place_in (with_path (arrivals ss) s.path) s.path ≡ Some s.place → placed (arrivals (ss ++ s ∷ [])) (ss ++ s ∷ []) ≡ true
  push_placed rows at = ap (λ xs. placed xs (ss ++ s ∷ [])) push_arrivals ∙ placed_push (with_path (arrivals ss) s.path) ss s (placed_with_path (arrivals ss) ss s.path rows) at
