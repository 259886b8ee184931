use Rattle.std.proofs.Common.{◌≡◌, ◌<◌, [], ◌∷◌, map, length, get_or, set, vec_items, sym, refl, ap, ◌∙◌, subst, arith}
use Rattle.std.proofs.lemmas.List.{get_or-map, map-set}
use Rattle.machine.specs.Kinds.{kind_of}
use Rattle.machine.specs.Sweeps.{ended}
use Rattle.machine.specs.Worlds.{step}
use Rattle.ring.specs.Built.{state_of}
use Rattle.service.specs.Calls.{of_kept, of_held, of_sweep_call, by_got, world_of, seen}
use Rattle.service.proofs.Steps.{step_among}
use Rattle.service.proofs.service.Service.on_sweep.Goals as goal

pub returns : goal.returns
returns g c =
    let k = kind_of g.K.Joinable g.K.Dated in
    let s = state_of g.B.Bank g.G.Bag c.args.self.now.ring in
    let t = state_of g.B.Bank g.G.Bag c.turn-answer.new.ring in
    let xs = vec_items c.args.self.now.sweeps in
    let j = c.args.number in
    let a = by_got c.turn-answer.result.0 in
    let y = of_held c.turn-answer.result.1 in
    let lt : j < length xs = omega (arith, c.args.self.now.sweeps.ok.0, c.in-Some.ensures.variant.0 refl) in
    let here : of_held c.give-sweep.result ≡ get_or (map of_kept xs) j ended =
    ap of_held c.give-sweep.ensures ∙ ap of_kept (c.replace.ensures.value ∙ c.in-Some.ensures.value) ∙ sym (get_or-map of_kept xs j c.in-Some.kept.now ended lt) in
    let after : map of_kept (set xs j c.new-2.result) ≡ set (map of_kept xs) j y =
    map-set of_kept xs j c.new-2.result ∙ ap (λ h. set (map of_kept xs) j (of_held h)) c.new-2.ensures in
    ap (λ zs. (a, (t, zs))) after
    ∙ step_among s t (map of_kept xs) j y a k c.args.call
    (subst (λ x. (a, (t, y ∷ [])) ≡ seen (step k (of_sweep_call c.args.call 0) (world_of (s, x ∷ [])))) here c.turn-answer.ensures)
