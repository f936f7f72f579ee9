use Rattle.std.proofs.Common.{◌≡◌, ◌∷◌, ◌++◌, [], ◌∙◌, ap, rules, length, arith}
use Rattle.std.specs.Vec.Iter.{into_iter_items}
use Rattle.rsx_model.proofs.Mains.{main_last}
use Rattle.rsx_model.proofs.operators.lanes.lane_inputs.Goals as goal

pub returns : goal.returns
returns g c =
    let rest = into_iter_items c.loop-lane.lane-iterator in
    let none : length rest ≡ 0 = omega (arith, c.in-None.ensures.steps.0) in
    let no_items : c.new-main.result.items ≡ [] = search rules in
    let ends : c.new-main.result.ending ≡ c.args.ending = search rules in
    let pushed = c.in_ok-push-2.ensures.items ∙ ap (λ i. c.loop-lane.inputs.items ++ i ∷ []) c.in_ok-new-2.ensures in
    main_last c.loop-lane.inputs.items c.push-2.new.self.items c.args.lanes.items rest c.new-main.result c.args.ending c.loop-lane.invariant none no_items ends pushed
