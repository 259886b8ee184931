use Rattle.std.proofs.Common.{[], ◌∷◌}
use Rattle.std.proofs.lemmas.Slice.Eq.{strip_suffix_is}
use Rattle.std.proofs.lemmas.Bool.Decides.{Decides-eqb}
use Rattle.replaying.proofs.Lines.{is_unended}
use Rattle.replaying.proofs.input_lines.bare.Goals as goal

pub returns : goal.returns
returns c = is_unended c.args.line c.strip_suffix.result c.unwrap_or.ensures (strip_suffix_is Decides-eqb c.args.line.now (10 ∷ []) c.strip_suffix.result c.strip_suffix.ensures.cases)
