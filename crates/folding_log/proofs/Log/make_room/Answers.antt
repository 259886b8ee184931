use Rattle.std.proofs.Common.{◌/◌, ◌≤◌, length, sym, ap, ◌∙◌, subst, arith}
use Rattle.folding_log.specs.Slots.{placed}
use Rattle.folding_log.proofs.Folds.{folded_pairs, folded_arrivals, folded_paths, folded_length}
use Rattle.folding_log.proofs.Log.make_room.Goals as goal

pub invariant_of-self : goal.invariant_of-self
invariant_of-self g c =
    let t = c.args.self.now in
    let j = g.K.Joinable.joined in
    let ss = c.fold.new.slots.items in
    record {
      fits = omega (arith, folded_length j t.slots.items ss c.fold.ensures.pairs, t.counted, t.half, c.fold.ensures.places);
      half = subst (λ n. t.held ≤ n / 2) (sym c.fold.ensures.places) t.half;
      counted = t.counted ∙ sym (ap length (folded_arrivals j t.slots.items ss c.fold.ensures.pairs));
      numbered = ap (λ qs. placed qs ss) (folded_paths j t.slots.items ss c.fold.ensures.pairs) ∙ c.fold.ensures.numbered;
    }

pub returns-then-len-places-clause-pairs : goal.returns-then-len-places-clause-pairs
returns-then-len-places-clause-pairs g c = folded_pairs g.K.Joinable.joined c.args.self.now.slots.items c.fold.new.slots.items c.fold.ensures.pairs

pub returns-then-len-places-clause-free : goal.returns-then-len-places-clause-free
returns-then-len-places-clause-free g c = λ h.
    let count = folded_length g.K.Joinable.joined c.args.self.now.slots.items c.fold.new.slots.items c.fold.ensures.pairs in
    omega (arith, c.args.self.now.counted, c.fold.ensures.places)
