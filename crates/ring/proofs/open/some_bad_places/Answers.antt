use Rattle.std.proofs.Common.{get_or, refl, rules, arith}
use Rattle.std.proofs.lemmas.Iterator.{YieldsList-from_range}
use Rattle.std.proofs.lemmas.Iterator.Search.{any_from_yields_List}
use borrow.Author.Tests.{tests}
use Rattle.store.specs.Meaning.{no_store}
use Rattle.ring.specs.Openings.{bad_places}
use Rattle.ring.proofs.Stores.{any_by_number}
use Rattle.ring.proofs.open.some_bad_places.Goals as goal

pub returns : goal.returns
returns g c =
    let ms = g.B.Bank.meanings c.args.stores.now in
    let n = c.args.copies in
    any_by_number bad_places ms n c.any.result c.requires
    (any_from_yields_List (λ i. bad_places (get_or ms i no_store)) _ _ _ c.any.ensures.ran (YieldsList-from_range 0 n n refl (omega arith)) (λ x b q k. search (rules, tests)))
