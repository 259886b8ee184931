use Rattle.std.proofs.Common.{◌≡◌, get_or, ap, ◌∙◌, arith}
use Rattle.folding_log.proofs.Folds.{fold_held, fold_new}
use Rattle.folding_log.proofs.fold.fold.Goals as goal
use Rattle.folding_log.proofs.fold.fold.Goals.{then-slot-folded, else-slot-folded}

pub slots-preserved : goal.slots-preserved
slots-preserved g c =
    let from = c.args.slots.now.items in
    let ss = c.slots.slots.items in
    let i = c.slots.i in
    let slot = c.index-as_slice-i.result in
    let read : slot ≡ get_or ss i slot = c.index-as_slice-i.is ∙ ap (λ xs. get_or xs i slot) c.as_slice.ensures in
    elim c.if-slot-folded.branch [
      | then-slot-folded w ↦
          let old = w.index-as_slice-slot.result in
          let before : old ≡ get_or ss slot.place old = w.index-as_slice-slot.is ∙ ap (λ xs. get_or xs slot.place old) w.as_slice-then-slot-folded.ensures in
          rw (w.slots-is, w.set.ensures, w.folded-is)
          (record {
            folded = fold_held g.K.Joinable.joined from c.requires.numbered ss c.slots.folded i (omega arith) c.slots.invariant.folded slot read old w.joined.result w.if-slot-folded.true before w.joined.ensures.path w.joined.ensures.entry w.joined.ensures.place;
            places = c.slots.invariant.places;
          })
      | else-slot-folded w ↦
          rw (w.slots-is, w.set-else-slot-folded.ensures, w.folded-is)
          (record {
            folded = fold_new g.K.Joinable.joined from c.requires.numbered ss c.slots.folded i (omega arith) c.slots.invariant.folded slot read w.if-slot-folded.false;
            places = c.slots.invariant.places;
          })
    ]
