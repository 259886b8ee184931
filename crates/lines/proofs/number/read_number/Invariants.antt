use Rattle.std.proofs.Common.{◌≡◌, ◌^◌, ◌<◌, drop}
use Rattle.std.specs.Str.{all_ascii_digits}
use Rattle.lines.specs.Numbers.{value_after}
use Rattle.lines.proofs.number.read_number.Given as goal

abbrev pub invariant-digits : goal.invariant-digits
invariant-digits l =
    (value_after l.value (drop l.byte-index l.text) ≡ value_after 0 l.text)
    × (all_ascii_digits (drop l.byte-index l.text) ≡ all_ascii_digits l.text)
    × (l.value < 2 ^ 32)
