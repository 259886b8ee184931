use Rattle.std.proofs.Common.{◌≡◌, true, IsUtf8, subst, rules}
use Rattle.names.specs.Labels.{is_label, text_of}
use Rattle.names.proofs.Texts.{text_utf8}
use Rattle.names.proofs.label.LabelDisplay.fmt.Goals as goal

pub returns-in-Err-clause-writes : goal.returns-in-Err-clause-writes
returns-in-Err-clause-writes g c =
    let n = c.args.self.now.number in
    let sound : is_label n ≡ true = search rules in
    let same : text_of n ≡ c.before_zero.result.now = search rules in
    absurd (c.in-Err.ensures.cases.0 (subst IsUtf8 same (text_utf8 n sound)))
