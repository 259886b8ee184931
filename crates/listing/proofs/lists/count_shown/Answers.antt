use Rattle.std.proofs.Common.{length, ap, ◌∙◌, arith, rules}
use Rattle.std.proofs.lemmas.Iterator.{YieldsList-from_range}
use Rattle.std.proofs.lemmas.Iterator.Consumers.{YieldsList-at, YieldsList-from_filter_map, count_from_yields_List}
use Rattle.store.specs.Meaning.{count_of, path_at}
use Rattle.store.specs.Laws.{entry_of}
use Rattle.listing.specs.Listing.{pick}
use Rattle.listing.proofs.Picks.{picks_at_places}
use Rattle.listing.proofs.lists.count_shown.Goals as goal

pub returns : goal.returns
returns g c =
    let m = g.S.Readable.meaning c.args.store.now in
    let d = c.args.directory in
    count_from_yields_List _ _ c.count-2.ensures.ran (YieldsList-from_filter_map _ (λ i. pick (entry_of m) d (path_at m i)) (YieldsList-at c.filter_map.ensures.source (YieldsList-from_range 0 (count_of m) (count_of m) (cc) (omega arith))) c.filter_map.ensures.closure (λ x r q k. search rules))
    ∙ ap length (picks_at_places m d)
