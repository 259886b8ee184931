use Rattle.std.proofs.Common.{◌+◌, ◌<◌, ap, ◌∙◌, subst₂, sym, arith}
use Rattle.store.specs.Meaning.{count_of}
use Rattle.listing.specs.Listing.{written}
use Rattle.listing.proofs.Writes.{Filled, filled_room, filled_some, filled_none, picks_all}
use Rattle.listing.proofs.lists.write_shown.Goals as goal
use Rattle.listing.proofs.lists.write_shown.Goals.{in-Some, in_default}

pub bounds-memory-total : goal.bounds-memory-total
bounds-memory-total g c =
    let m = g.S.Readable.meaning c.args.store.now in
    omega (arith, c.places.auto.memory, filled_room m c.args.directory _ _ _ _ _ c.requires (omega arith) c.in-Some.ensures c.places.invariant)

pub places-preserved : goal.places-preserved
places-preserved g c =
    let m = g.S.Readable.meaning c.args.store.now in
    let d = c.args.directory in
    let lt : c.places.place < count_of m = omega arith in
    elim c.match-pick.branch [
      | in-Some w ↦ subst₂ (Filled m d c.args.memory.now (c.places.place + 1)) (sym w.total-is) (sym w.memory-is) (filled_some m d _ _ _ _ _ (filled_room m d _ _ _ _ _ c.requires lt w.in-Some.ensures c.places.invariant) lt w.in-Some.ensures c.places.invariant)
      | in_default w ↦ subst₂ (Filled m d c.args.memory.now (c.places.place + 1)) (sym w.total-is) (sym w.memory-is) (filled_none m d _ _ _ _ lt w.in_default.ensures c.places.invariant)
    ]

pub returns : goal.returns
returns g c =
    let m = g.S.Readable.meaning c.args.store.now in
    c.places.invariant.filled ∙ ap (λ xs. written xs c.args.memory.now) (picks_all m c.args.directory c.places.place (omega arith))
