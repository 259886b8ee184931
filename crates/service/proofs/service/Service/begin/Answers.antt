use Rattle.std.proofs.Common.{◌≡◌, [], ◌∷◌, ◌++◌, map, Ok, vec_items, ap, ◌∙◌}
use Rattle.std.proofs.lemmas.List.{map_push}
use Rattle.machine.specs.Kinds.{kind_of}
use Rattle.machine.specs.Worlds.{nothing}
use Rattle.ring.specs.Built.{state_of, of_collecting}
use Rattle.service.specs.Calls.{of_kept, of_held}
use Rattle.service.proofs.Steps.{begin_step}
use Rattle.service.proofs.service.Service.begin.Goals as goal

pub returns : goal.returns
returns g c =
    let s = state_of g.B.Bank g.G.Bag c.args.self.now.ring in
    let t = state_of g.B.Bank g.G.Bag c.begin.new.self in
    let xs = vec_items c.args.self.now.sweeps in
    let w = of_collecting c.in_ok-sweep.sweep in
    let more : map of_kept (vec_items c.push_reserved.new.self) ≡ map of_kept xs ++ w ∷ [] =
    ap (map of_kept) (c.push_reserved.ensures.items ∙ ap (λ ys. ys ++ c.new.result ∷ []) c.reserve.ensures.items)
    ∙ map_push of_kept xs c.new.result
    ∙ ap (λ h. map of_kept xs ++ of_held h ∷ []) c.new.ensures in
    ap (λ ys. (Ok nothing, (t, ys))) more
    ∙ begin_step (kind_of g.K.Joinable g.K.Dated) s t (map of_kept xs) c.args.copy c.args.time w c.in_ok-sweep.ensures
