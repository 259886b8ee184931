use Rattle.std.proofs.Common.{◌≡◌, suc, string_bytes}
use Rattle.std.specs.Iterator.Adapters.{enumerate_source, enumerate_count}
use Rattle.service.specs.Calls.{serving}
use Rattle.replaying.specs.Replays.{lines_of, replayed}
use Rattle.replaying.proofs.Lines.{Left}
use Rattle.replaying.proofs.reporting.reported.Given as goal

-- the report so far, and what the lines that are left will add, are the report of all lines
abbrev pub invariant-lines : goal.invariant-lines
invariant-lines g l =
    Left (string_bytes l.report) (suc (enumerate_count l.before-iterator)) (serving g.B.Bank g.G.Bag l.service) (lines_of (enumerate_source l.before-iterator).0.now) ≡ replayed 1 (serving g.B.Bank g.G.Bag l.initial.service) (lines_of l.input)
