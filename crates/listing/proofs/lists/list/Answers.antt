use Rattle.std.proofs.Common.{◌≡◌, ◌-◌, ◌<◌, ◌≤◌, length, arith}
use Rattle.listing.specs.Listing.{all_picks}
use Rattle.listing.proofs.Writes.{sorted_front, short_answer, long_answer, answer_lists}
use Rattle.listing.proofs.lists.list.Goals as goal

pub returns-then-memory-total : goal.returns-then-memory-total
returns-then-memory-total g c =
    let m = g.S.Readable.meaning c.args.store.now in
    let d = c.args.directory in
    let short : length c.args.memory.now < length (all_picks m d) = omega arith in
    let said = short_answer m d c.args.memory.now short in
    record { answer = said.0; after = said.1; listed = answer_lists m d (g.S.Readable.sound c.args.store.now) c.args.memory.now _ _ said.0 said.1 }

pub returns : goal.returns
returns g c =
    let m = g.S.Readable.meaning c.args.store.now in
    let d = c.args.directory in
    let memory = c.args.memory.now in
    let total = c.count_shown-total.result in
    let sound = g.S.Readable.sound c.args.store.now in
    let long : length (all_picks m d) ≤ length memory = omega arith in
    let all : total - 0 ≡ length (all_picks m d) = omega arith in
    let sorted = sorted_front m d sound (total - 0) memory c.write_shown.new.memory c.sort_unstable.new.self all c.write_shown.ensures c.sort_unstable.ensures.permutation c.sort_unstable.ensures.sorted in
    let said = long_answer m d memory _ total long c.count_shown-total.ensures sorted in
    record { answer = said.0; after = said.1; listed = answer_lists m d sound memory _ _ said.0 said.1 }
