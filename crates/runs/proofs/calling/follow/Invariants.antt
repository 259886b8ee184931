use Rattle.std.proofs.Common.{◌≡◌, ◌++◌, map, drop, vec_items}
use Rattle.service.specs.Calls.{by_got, serving}
use Rattle.runs.specs.Runs.{runs_from}
use Rattle.runs.proofs.calling.follow.Given as goal

-- the answers so far, and what the calls that are left will do, are what all calls do
abbrev pub invariant-calls : goal.invariant-calls
invariant-calls g l =
    let rest = runs_from (serving g.B.Bank g.G.Bag l.service) (drop l.call-index l.calls) in
    (map by_got (vec_items l.answers) ++ rest.0, rest.1) ≡ runs_from (serving g.B.Bank g.G.Bag l.initial.service) l.calls
