use Rattle.std.proofs.Common.{◌≡◌, ◌+◌, [], ◌∷◌, ◌++◌, map, get_or, drop, vec_items, sym, ap, ◌∙◌}
use Rattle.std.proofs.lemmas.List.{map_push}
use Rattle.names.specs.Paths.{no_path}
use Rattle.entries.specs.Recipes.{blank_recipe}
use Rattle.service.specs.declared.call.Call.TheVariants.{Post}
use Rattle.service.specs.declared.recipe_call.RecipeCall.{RecipeCall}
use Rattle.service.specs.declared.recipe_call.RecipeCall.TheVariants.{Ring}
use Rattle.service.specs.Calls.{by_got, serving}
use Rattle.runs.proofs.Follows.{Left, one_more, none_left}
use Rattle.runs.proofs.calling.follow.Goals as goal

pub calls-init : goal.calls-init
calls-init g c = ap (λ xs. Left (map by_got xs) (serving g.B.Bank g.G.Bag c.args.service.now) c.args.calls.now) c.new-answers.ensures.items

pub calls-preserved : goal.calls-preserved
calls-preserved g c =
    let x = serving g.B.Bank g.G.Bag c.calls.service in
    let y = serving g.B.Bank g.G.Bag c.make_call.new.service in
    let said = map by_got (vec_items c.calls.answers) in
    let a = c.in_ok-answer.answer in
    let none : RecipeCall = Ring (Post 0 no_path blank_recipe) in
    let call = get_or c.args.calls.now c.calls.call-index none in
    let done = c.in_ok-answer.ensures in
    let more : map by_got (vec_items c.push_reserved.new.self) ≡ said ++ by_got a ∷ [] =
    ap (map by_got) (c.push_reserved.ensures.items ∙ ap (λ xs. xs ++ a ∷ []) c.reserve.ensures.items) ∙ map_push by_got (vec_items c.calls.answers) a in
    ap (λ zs. Left zs y (drop (c.calls.call-index + 1) c.args.calls.now)) more
    ∙ one_more said x y c.args.calls.now c.calls.call-index none (by_got a) c.calls-test.true done
    ∙ c.calls.invariant

pub returns : goal.returns
returns g c =
    sym (none_left (map by_got (vec_items c.calls.answers)) (serving g.B.Bank g.G.Bag c.calls.service) c.args.calls.now c.calls.call-index c.calls-test.false) ∙ c.calls.invariant
