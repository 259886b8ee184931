use Rattle.std.proofs.Common.{◌≡◌, ◌-◌, ◌≤◌, length, drop, replicate, map, take, Some}
use Rattle.names.specs.Labels.{label}
use Rattle.lines.specs.Names.{all_labels}
use Rattle.lines.proofs.name.labels.joined_labels.Given as goal

abbrev pub invariant-parts : goal.invariant-parts
invariant-parts l = record {
  can_next : (goal.iterator-parts).can_next l.part-iterator;
  is_finite : (goal.iterator-parts).is_finite l.part-iterator;
  read : all_labels (map (λ part. part.now) l.yielded) ≡ Some (take l.count l.labels);
  counted : l.count ≡ length l.yielded;
  few : l.count ≤ l.limit;
  eight : length l.labels ≡ 8;
  blank : drop l.count l.labels ≡ replicate (8 - l.count) (label 0);
}
