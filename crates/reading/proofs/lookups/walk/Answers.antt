use Rattle.std.proofs.Common.{◌≡◌, ◌+◌, ◌<◌, ◌≤◌, length, Some, None, sym, ap, ◌∙◌, arith, rules}
use Rattle.store.specs.Laws.{entry_of}
use Rattle.reading.specs.Lookup.{Reading.refused, reading_of, answered}
use Rattle.reading.proofs.Walks.{walk_ends, enters_last, follows_none, onward_start, onward_enters, onward_follows, onward_last}
use Rattle.reading.proofs.lookups.walk.Goals as goal

pub labels-init : goal.labels-init
labels-init g c = onward_start _ _ _ _

-- a link, with none to follow and with some
pub returns-then-links-eq0 : goal.returns-then-links-eq0
returns-then-links-eq0 g c =
    let end = follows_none _ c.labels.rest.now _ _ _ _ _ c.if-links-eq0.true c.in-Follow.ensures in
    record { walks = onward_last _ _ _ _ c.links.steps _ _ _ _ _ end c.links.invariant; few = omega (arith, c.links.invariant.few) }

pub links-preserved : goal.links-preserved
links-preserved g c = onward_follows _ _ _ _ c.links.steps c.labels.rest.now _ _ _ _ _ c.if-links-eq0.false c.in-Follow.ensures c.links.invariant

-- neither a directory nor a link
pub returns-in-End-clause-walks : goal.returns-in-End-clause-walks
returns-in-End-clause-walks g c =
    let shown : c.content_of.result ≡ Some c.in_ok-content-in-End.content = search rules in
    let end = walk_ends _ c.labels.rest.now _ _ _ c.in-End.ensures ∙ ap answered (sym c.content_of.ensures ∙ shown) in
    onward_last _ _ _ _ c.links.steps _ _ _ _ _ end c.links.invariant

pub returns-in_err-content-in-End-clause-walks : goal.returns-in_err-content-in-End-clause-walks
returns-in_err-content-in-End-clause-walks g c =
    let none : c.content_of.result ≡ None = search rules in
    let said : reading_of c.from_residual.result ≡ refused 18 (c.links.steps + 1) = search rules in
    let end = walk_ends _ c.labels.rest.now _ _ _ c.in-End.ensures ∙ ap answered (sym c.content_of.ensures ∙ none) in
    said ∙ onward_last _ _ _ _ c.links.steps _ _ _ _ _ end c.links.invariant

-- a directory, under the last label and before others
pub returns-in_default : goal.returns-in_default
returns-in_default g c =
    let short : length c.labels.rest.now < 1 = search rules in
    let end = enters_last (entry_of (g.S.Readable.meaning c.args.store.now)) c.labels.rest.now _ _ _ _ short c.in-Enter.ensures in
    record { walks = onward_last _ _ _ _ c.links.steps _ _ _ _ _ end c.links.invariant; few = omega (arith, c.links.invariant.few) }

pub labels-preserved : goal.labels-preserved
labels-preserved g c =
    let long : 1 ≤ length c.labels.rest.now = search rules in
    onward_enters (entry_of (g.S.Readable.meaning c.args.store.now)) _ _ _ c.links.steps c.labels.rest.now _ _ _ _ long c.in-Enter.ensures c.links.invariant
