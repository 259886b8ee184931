use Rattle.std.proofs.Common.{◌≡◌, Some, sym, ◌∙◌, rules}
use Rattle.names.specs.Labels.{label, read_label}
use Rattle.names.proofs.Texts.{read_written}
use Rattle.names.proofs.Bytes.{number_of_text}
use Rattle.names.proofs.label.Label.read.Goals as goal

pub returns : goal.returns
returns c =
    let t = c.args.text.now in
    let v : Some (label c.from_be_bytes.result) ≡ read_label t = search (rules, number_of_text) in
    record { value = v; written = λ l e. read_written t l (sym v ∙ e) }
