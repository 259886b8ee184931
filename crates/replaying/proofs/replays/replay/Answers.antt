use Rattle.std.proofs.Common.{◌≡◌, List, [], ◌∷◌, string_bytes, rules}
use Rattle.entries.specs.declared.recipe.Recipe.{Recipe}
use Rattle.entries.specs.Recipes.{join_recipes}
use Rattle.store.specs.Meaning.{Meaning}
use Rattle.table.specs.Tables.{table_meaning}
use Rattle.folding_log.specs.Logs.{log_meaning}
use Rattle.tray.specs.Trays.{tray_mail}
use Rattle.replaying.specs.Replays.{stores}
use Rattle.replaying.proofs.Runs.{covered, on_its_ring}
use Rattle.replaying.proofs.replays.replay.Goals as goal

pub returns-then-input-gt-LIMIT-clause-covered : goal.returns-then-input-gt-LIMIT-clause-covered
returns-then-input-gt-LIMIT-clause-covered c = covered c.args.input.now

pub returns-in_err-format-clause-covered : goal.returns-in_err-format-clause-covered
returns-in_err-format-clause-covered c = covered c.args.input.now

pub returns-clause-report : goal.returns-clause-report
returns-clause-report c =
    let ms : List (Meaning Recipe) = table_meaning c.new-first.result ∷ table_meaning c.new-second.result ∷ log_meaning join_recipes c.new-third.result ∷ [] in
    let same : ms ≡ stores = cc (c.new-first.ensures, c.new-second.ensures, c.new-third.ensures) in
    let ring = on_its_ring string_bytes ms (tray_mail c.new.result) same c.new.ensures c.args.input.now c.replayed_over.result c.replayed_over.ensures in
    search rules

pub returns-clause-covered : goal.returns-clause-covered
returns-clause-covered c = covered c.args.input.now
