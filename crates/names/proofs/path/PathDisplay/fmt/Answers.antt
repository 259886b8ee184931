use Rattle.std.proofs.Common.{true, refl}
use Rattle.std.specs.Fmt.{HasWritten}
use Rattle.std.proofs.Output.{has_written_append}
use Rattle.names.specs.Paths.{shown_start, shown_after}
use Rattle.names.proofs.path.PathDisplay.fmt.Goals as goal

-- three texts, one after another
pub returns-clause-writes : goal.returns-clause-writes
returns-clause-writes g c plain ok =
    let took = g.W.Write.write_str_gives in
    let p = c.args.self.now in
    let a = c.args.f.now in
    let b = c.write.new.self in
    let d = c.show_after.new.f in
    let e = c.show_after-2.new.f in
    let first : HasWritten took a (shown_start p) b = c.in_ok-write.ensures.writes plain (refl {a = true}) in
    let second : HasWritten took b (shown_after p.second) d = c.in_ok-show_after.ensures first.plain (refl {a = true}) in
    let third : HasWritten took d (shown_after p.third) e = c.show_after-2.ensures second.plain ok in
    has_written_append took a _ d _ e (has_written_append took a _ b _ d first second) third
