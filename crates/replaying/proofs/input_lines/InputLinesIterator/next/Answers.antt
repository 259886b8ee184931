use Rattle.std.proofs.Common.{◌≡◌, ◌∷◌, ◌-◌, eqb, length, take, drop, subst, sym, ap, ◌∙◌, rules, arith}
use Rattle.std.specs.Slice.Iter.{split_inclusive_rest}
use Rattle.std.proofs.Math.Seq.{drop-append_seam}
use Rattle.std.proofs.lemmas.List.Sorted.{answers_always}
use Rattle.std.proofs.lemmas.Slice.{between_to_end}
use Rattle.replaying.specs.Replays.{lines_of}
use Rattle.replaying.proofs.Lines.{lines_of-part}
use Rattle.replaying.proofs.input_lines.InputLinesIterator.next.Goals as goal

pub returns-clause-steps : goal.returns-clause-steps
returns-clause-steps c =
    let step = c.in_ok-line.ensures.steps in
    let bs = split_inclusive_rest c.split_inclusive.result in
    let part = c.in_ok-line.line.now in
    let rest = split_inclusive_rest c.next.new.self in
    let bare = c.bare.result.now in
    let first = (step.1.2 (λ b. eqb b 10) (answers_always _ _ _ (λ f a r g q. search rules))).1 in
    let after : take (length bs - length part) (drop (length part) bs) ≡ rest = between_to_end bs (length part) (length bs) (omega arith) ∙ ap (drop (length part)) step.0 ∙ drop-append_seam part rest in
    subst (λ xs. lines_of xs ≡ bare ∷ lines_of (take (length xs - length part) (drop (length part) xs))) c.split_inclusive.ensures.rest
    (lines_of-part bs part rest bare step.1.0 step.0 step.2 step.1.1 first c.bare.ensures ∙ ap (λ xs. bare ∷ lines_of xs) (sym after))
