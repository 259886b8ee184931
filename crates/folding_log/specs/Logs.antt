-- What a log means. Assumes nothing.
use Rattle.std.specs.Prelude.{◌≡◌, ◌/◌, ◌≤◌, true, List, [], ◌∷◌, map, length, refl}
use Rattle.std.proofs.Common.{sym, ap, subst, ◌∙◌}
use Rattle.names.specs.declared.path.Path.{Path}
use Rattle.lent.specs.Held.{Held}
use Rattle.store.specs.Meaning.{Meaning, Sound, paths_of, distinct, join_pairs}
use Rattle.store.specs.Joins.{join_paths, join_distinct, length_paths}
use Rattle.folding_log.specs.declared.Log.{Log}
use Rattle.folding_log.specs.declared.slot.LogSlot.{LogSlot}
use Rattle.folding_log.specs.Slots.{pair_of, joined_to, log_pairs, with_paths, arrivals}

-- the pairs of the slots that are held, joined one after another, and a place for every two slots
abbrev pub slots_meaning : {K : Type 0} → (K → K → K) → Held (LogSlot K) → Meaning K
slots_meaning join h = record { pairs = log_pairs join h.items; places = h.places / 2 }

-- a log means what its slots do
abbrev pub log_meaning : {K : Type 0} → (K → K → K) → Log K → Meaning K
log_meaning join t = slots_meaning join t.slots

-- joined pairs stand under their paths in order of first arrival
pub joined_paths : {K : Type 0} (join : K → K → K) (there xs : List (Path × K)) → paths_of (joined_to join there xs) ≡ with_paths (paths_of there) (paths_of xs)
joined_paths join there [] = refl
joined_paths join there (x ∷ xs) = joined_paths join (join_pairs join there x.0 x.1) xs ∙ ap (λ qs. with_paths qs (paths_of xs)) (join_paths join there x.0 x.1)

pub joined_distinct : {K : Type 0} (join : K → K → K) (there xs : List (Path × K)) → distinct (paths_of there) ≡ true → distinct (paths_of (joined_to join there xs)) ≡ true
joined_distinct join there [] d = d
joined_distinct join there (x ∷ xs) d = joined_distinct join (join_pairs join there x.0 x.1) xs (join_distinct join there x.0 x.1 d)

-- there are as many pairs as paths that arrived
pub pairs_length : {K : Type 0} (join : K → K → K) (ss : List (LogSlot K)) → length (log_pairs join ss) ≡ length (arrivals ss)
pairs_length join ss = sym (length_paths (log_pairs join ss)) ∙ ap length (joined_paths join [] (map pair_of ss))

-- no path twice, and no more pairs than places
pub log_sound : {K : Type 0} (join : K → K → K) (t : Log K) → Sound (log_meaning join t)
log_sound join t =
    record {
      apart = joined_distinct join [] (map pair_of t.slots.items) refl;
      within = subst (λ k. k ≤ t.slots.places / 2) (t.counted ∙ sym (pairs_length join t.slots.items)) t.half;
    }
