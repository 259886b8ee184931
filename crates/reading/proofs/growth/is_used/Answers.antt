use Rattle.std.proofs.Common.{◌∙◌, arith, rules}
use Rattle.std.proofs.lemmas.Iterator.{YieldsList-from_range}
use Rattle.std.proofs.lemmas.Iterator.Search.{any_from_yields_List}
use Rattle.entries.specs.Recipes.{blank_recipe}
use Rattle.store.specs.Meaning.{count_of, path_at, entry_at}
use Rattle.reading.specs.Growth.{uses}
use Rattle.reading.proofs.Uses.{used_at_places, unused_exactly}
use Rattle.reading.proofs.growth.is_used.Goals as goal

pub returns : goal.returns
returns g c =
    let m = g.S.Readable.meaning c.args.store.now in
    let d = c.args.directory in
    let any = any_from_yields_List (λ i. uses d (path_at m i, entry_at blank_recipe m i)) _ _ _ c.any.ensures.ran (YieldsList-from_range 0 (count_of m) (count_of m) (cc) (omega arith)) (λ x b q k. search rules) in
    let value = any ∙ used_at_places d m in
    record { value = value; unused = unused_exactly _ _ _ value }
