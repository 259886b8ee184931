use Rattle.std.proofs.lemmas.Bool.Decides.{Decides-eqb}
use Rattle.std.proofs.lemmas.Slice.Eq.{strip_prefix_is}
use Rattle.std.proofs.Common.{Some}
use Rattle.lines.proofs.Fronts.{value_place}
use Rattle.lines.proofs.reader.place.Goals as goal

pub returns-clause-value : goal.returns-clause-value
returns-clause-value c =
    let text = c.args.text.now in
    let front = c.args.front.now in
    value_place front text c.in_ok-value.value.now c.before-2.result (strip_prefix_is Decides-eqb text front (Some c.in_ok-value.value) c.in_ok-value.ensures.cases) c.before-2.ensures.value
