use Rattle.std.proofs.Common.{◌≡◌, ◌+◌, ◌-◌, drop, replicate, eqb, [], ◌∷◌, map, None, Some, rules, sym, ap, ◌∙◌, arith}
use Rattle.std.proofs.lemmas.Iterator.Consumers.{YieldsList-turn, YieldsList-end}
use Rattle.std.proofs.lemmas.Iterator.Splits.{YieldsList-from_slice_split}
use Rattle.std.proofs.lemmas.List.{drop-drop, drop-replicate, drop-set-lt, length-set, length-take, length_push, take_more_set, map-append}
use Rattle.std.specs.Option.{option_map}
use Rattle.names.specs.Labels.{label}
use Rattle.lines.specs.Fields.{◌then◌}
use Rattle.lines.specs.Names.{parts_of, all_labels, at_most, name_labels}
use Rattle.lines.proofs.Parts.{one_more, bad_part, too_many, all_read}
use Rattle.lines.proofs.name.labels.joined_labels.Goals as goal

pub returns-in_err-label : goal.returns-in_err-label
returns-in_err-label c =
    let road = YieldsList-from_slice_split _ (λ b. eqb b 47) c.args.text.now (cc) (cc) (cc) (λ x b q k. search rules) in
    let t = YieldsList-turn road c.parts.yielded _ c.parts.yielded_by _ _ c.in-Some.part c.in-Some.is c.next.ensures.steps in
    let none = bad_part (parts_of c.args.text.now) _ _ t.0 t.1 c.in_err-label.ensures.value in
    let fails : option_map name_labels c.from_residual.result ≡ None = search rules in
    fails ∙ ap (λ o. o then at_most c.args.limit) (sym none)

pub returns-then-count-limit : goal.returns-then-count-limit
returns-then-count-limit c =
    let road = YieldsList-from_slice_split _ (λ b. eqb b 47) c.args.text.now (cc) (cc) (cc) (λ x b q k. search rules) in
    let t = YieldsList-turn road c.parts.yielded _ c.parts.yielded_by _ _ c.in-Some.part c.in-Some.is c.next.ensures.steps in
    sym (too_many (parts_of c.args.text.now) c.args.limit (omega (arith, t.0)))

pub parts-preserved : goal.parts-preserved
parts-preserved c =
    let count = c.parts.count in
    let labels = c.parts.labels in
    let l = c.in_ok-label.label in
    let fewer : 8 - count - 1 ≡ 8 - (count + 1) = omega arith in record {
      can_next = search rules;
      is_finite = tt;
      read = ap all_labels (map-append (λ part. part.now) c.parts.yielded (c.in-Some.part ∷ [])) ∙ one_more (map (λ part. part.now) c.parts.yielded) c.in-Some.part.now _ l c.parts.invariant.read c.in_ok-label.ensures.value ∙ ap Some (sym (take_more_set labels count l (omega arith)));
      counted = omega (arith, length_push c.parts.yielded c.in-Some.part);
      few = omega arith;
      eight = length-set labels count l ∙ c.parts.invariant.eight;
      blank = drop-set-lt (count + 1) labels count l (omega arith) ∙ sym (drop-drop 1 count labels) ∙ ap (drop 1) c.parts.invariant.blank ∙ drop-replicate 1 (8 - count) (label 0) ∙ ap (λ n. replicate n (label 0)) fewer;
    }

pub returns : goal.returns
returns c =
    let road = YieldsList-from_slice_split _ (λ b. eqb b 47) c.args.text.now (cc) (cc) (cc) (λ x b q k. search rules) in
    let t = YieldsList-end road c.parts.yielded _ c.parts.yielded_by _ _ c.in-None.is c.next.ensures.steps in
    sym (all_read (parts_of c.args.text.now) c.args.limit _ (ap all_labels (sym t.0) ∙ c.parts.invariant.read) (omega (arith, length-take c.parts.count c.parts.labels)))
