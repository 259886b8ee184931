use Rattle.std.proofs.Common.{◌≤◌, length, sym, ◌∙◌, arith, rules}
use Rattle.reading.proofs.Walks.{lookup_walks, after_first_length}
use Rattle.reading.proofs.Ruled.{exactly}
use Rattle.reading.proofs.lookups.lookup.Goals as goal

pub returns-in-len1-up : goal.returns-in-len1-up
returns-in-len1-up g c =
    let name = c.args.name.now in
    let long : 1 ≤ length name = search rules in
    let answer = c.walk.ensures.walks ∙ sym (lookup_walks _ c.args.start name c.if-is_sound_name.ensures) in
    record { answer = answer; exactly = exactly _ _ name _ answer; few = omega (arith, c.walk.ensures.few, after_first_length name long) }
