use Rattle.std.proofs.Common.{◌≡◌, ◌^◌, ◌<◌, rules}
use Rattle.names.specs.Labels.{is_label}
use Rattle.names.proofs.Texts.{label_when_read, label_exactly}
use Rattle.names.proofs.label.Label.is_sound.Goals as goal

pub returns : goal.returns
returns c =
    let self = c.args.self.now in
    let small : self.number < 2 ^ 64 = search rules in
    let same : c.is_read_from.result ≡ is_label self.number = search (rules, label_when_read) in
    record { value = same; exactly = label_exactly _ self small same }
