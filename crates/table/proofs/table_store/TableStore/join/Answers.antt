use Rattle.std.proofs.Common.{get_or, sym, ap, ◌∙◌, rules, arith}
use Rattle.std.proofs.lemmas.Bool.{cond-false}
use Rattle.std.proofs.lemmas.Grind.{common_steps}
use Rattle.store.proofs.Pairs.{held_not_full}
use Rattle.store.specs.Meaning.{place_of}
use Rattle.table.specs.Slots.{slots_meaning}
use Rattle.table.specs.Tables.{table_meaning}
use Rattle.table.proofs.Pairs.{found_low, full_is, joined_at, pushed_on, still_sound}
use Rattle.table.proofs.table_store.TableStore.join.Goals as goal

pub bounds-as_slice-at : goal.bounds-as_slice-at
unfolding place_of
bounds-as_slice-at g c = rw c.as_slice.ensures (found_low c.args.self.now.slots.items c.args.path c.in-Some.at (sym c.in-Some.ensures))

pub offset_bounds-as_slice-at : goal.offset_bounds-as_slice-at
unfolding place_of
offset_bounds-as_slice-at g c = let lt = found_low c.args.self.now.slots.items c.args.path c.in-Some.at (sym c.in-Some.ensures) in search rules

pub invariant_of-self : goal.invariant_of-self
invariant_of-self g c =
    let t = c.args.self.now in
    let slot = c.index-as_slice-at.result in
    let read = c.index-as_slice-at.is ∙ ap (λ ss. get_or ss c.in-Some.at slot) c.as_slice.ensures in
    record { sound = still_sound g.K.Joinable.joined t.slots c.args.path c.args.entry (slots_meaning c.set.new.self) t.sound (ap slots_meaning c.set.ensures ∙ joined_at g.K.Joinable.joined t.slots c.args.path c.args.entry c.in-Some.at slot c.joined.result c.in-Some.ensures read c.joined.ensures.path c.joined.ensures.entry) }

pub returns-in-Some : goal.returns-in-Some
returns-in-Some g c =
    let t = c.args.self.now in
    let slot = c.index-as_slice-at.result in
    let read = c.index-as_slice-at.is ∙ ap (λ ss. get_or ss c.in-Some.at slot) c.as_slice.ensures in
    record {
      answer = sym (cond-false _ _ _ (held_not_full (table_meaning t) c.args.path c.in-Some.at c.in-Some.ensures));
      after = ap slots_meaning c.set.ensures ∙ joined_at g.K.Joinable.joined t.slots c.args.path c.args.entry c.in-Some.at slot c.joined.result c.in-Some.ensures read c.joined.ensures.path c.joined.ensures.entry;
    }

pub invariant_of-self-in-None : goal.invariant_of-self-in-None
invariant_of-self-in-None g c =
    let t = c.args.self.now in
    let pushed = pushed_on g.K.Joinable.joined t.slots c.args.path c.args.entry t.sound c.in-None.ensures in
    record { sound = still_sound g.K.Joinable.joined t.slots c.args.path c.args.entry _ t.sound (grind (arith, common_steps, pushed)) }

pub returns-in-None : goal.returns-in-None
returns-in-None g c =
    let t = c.args.self.now in
    let full = full_is t.slots c.args.path t.sound c.in-None.ensures in
    let pushed = pushed_on g.K.Joinable.joined t.slots c.args.path c.args.entry t.sound c.in-None.ensures in
    record { answer = search rules; after = grind (arith, common_steps, pushed) }
