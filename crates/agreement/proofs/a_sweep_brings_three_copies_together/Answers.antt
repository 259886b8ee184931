use Rattle.std.proofs.Common.{[], ◌∷◌, ap}
use Rattle.names.specs.Labels.{legal, is_label}
use Rattle.store.specs.Meaning.{count_of, holds, full_for, join_of}
use Rattle.store.specs.Laws.{entry_of}
use Rattle.machine.specs.States.{store_of, sweep_of}
use Rattle.machine.specs.Worlds.{sweep_number, step}
use Rattle.agreement.specs.Example.{recipes, rye, post_rye}
use Rattle.agreement.proofs.Example.{end_is}
use Rattle.agreement.proofs.a_sweep_brings_three_copies_together.Goals as goal

pub returns : goal.returns
unfolding legal is_label count_of holds full_for join_of entry_of
returns c =
    record {
      accepted = ap (λ w. w.updates) end_is;
      swept = ap (λ w. sweep_number w 0) end_is;
      noted = ap (λ w. sweep_of w.ring 0 ∷ sweep_of w.ring 1 ∷ sweep_of w.ring 2 ∷ []) end_is;
      first = ap (λ w. entry_of (store_of w.ring 0) rye) end_is;
      second = ap (λ w. entry_of (store_of w.ring 1) rye) end_is;
      third = ap (λ w. entry_of (store_of w.ring 2) rye) end_is;
      late = ap (λ w. (step recipes (post_rye 1 9) w).0) end_is;
    }
