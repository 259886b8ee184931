use Rattle.std.proofs.Common.{◌≡◌, suc, ◌+◌, ◌++◌, string_bytes, sym, ap, ◌∙◌, arith}
use Rattle.std.specs.Iterator.Adapters.{enumerate_source, enumerate_count}
use Rattle.service.specs.Calls.{serving}
use Rattle.report.specs.Reports.{found_of, finding_of, report_line}
use Rattle.replaying.specs.Replays.{lines_of}
use Rattle.replaying.proofs.Lines.{Left, one_more}
use Rattle.replaying.proofs.reporting.reported.Goals as goal

pub lines-preserved : goal.lines-preserved
lines-preserved g c =
    let step = c.in-Some.ensures.steps in
    let x = serving g.B.Bank g.G.Bag c.lines.service in
    let y = serving g.B.Bank g.G.Bag c.line_answered.new.service in
    let said = string_bytes c.lines.report in
    let k = c.in-Some.before + 1 in
    let f = found_of c.in_ok-outcome.outcome in
    let rest = lines_of (enumerate_source c.next.new.self).0.now in
    let one : k ≡ suc (enumerate_count c.lines.before-iterator) = omega (arith, step.1) in
    let next : enumerate_count c.next.new.self ≡ k = omega (arith, step.1, step.2) in
    let more : string_bytes c.write.new.self ≡ said ++ report_line k (finding_of f) = c.in_ok-write.ensures.bytes ∙ ap (λ x. said ++ report_line k x) c.into.ensures in
    ap (λ n. Left (string_bytes c.write.new.self) (suc n) y rest) next
    ∙ ap (λ bs. Left bs (suc k) y rest) more
    ∙ one_more said k x y f c.in-Some.line.now rest c.in_ok-outcome.ensures
    ∙ ap (Left said k x) (sym step.0)
    ∙ ap (λ n. Left said n x (lines_of (enumerate_source c.lines.before-iterator).0.now)) one
    ∙ c.lines.invariant
