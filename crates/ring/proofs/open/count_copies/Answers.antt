use Rattle.std.proofs.Common.{not, ltb, length, refl, sym, rules, arith, ◌∙◌}
use Rattle.std.proofs.lemmas.Bool.{ltb-true}
use Rattle.std.proofs.lemmas.Iterator.{YieldsList-from_range}
use Rattle.std.proofs.lemmas.Iterator.Search.{find_from_yields_List}
use borrow.Author.Tests.{tests}
use Rattle.ring.proofs.Stores.{first_missing}
use Rattle.ring.proofs.open.count_copies.Goals as goal

pub returns : goal.returns
returns g c =
    let n = length (g.B.Bank.meanings c.args.stores.now) in
    let found = find_from_yields_List (λ k. not (ltb k n)) _ _ c.find.result c.find.ensures.ran (YieldsList-from_range 2 9 7 refl refl) (λ x b q k. search (rules, tests)) in
    let first = first_missing n (ltb-true _ _ (sym c.has.ensures ∙ c.if-not-has.false)) in
    grind (arith, found, first)
