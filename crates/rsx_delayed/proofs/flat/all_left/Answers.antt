use Rattle.std.proofs.Common.{◌≡◌, Some, length, map, sym, ap, ◌∙◌, arith}
use Rattle.std.proofs.lemmas.Result.{IfOk-weaker}
use Rattle.std.specs.Vec.Iter.{into_iter_items}
use Rattle.rsx_types.specs.Stream.{signals}
use Rattle.rsx_delayed.proofs.FlatLeft.{all_left, none_more, signals_left}
use Rattle.rsx_delayed.specs.Rest.{all_values}
use Rattle.rsx_delayed.proofs.flat.all_left.Goals as goal

pub returns : goal.returns
returns g c =
    let values = c.loop-lane.values.items in
    let rest = into_iter_items c.loop-lane.lane-iterator in
    let none : length rest ≡ 0 = omega (arith, c.in-None.ensures.steps.0) in
    let left : map signals values ≡ signals_left c.args.lanes = none_more (map signals values) rest (signals_left c.args.lanes) none c.loop-lane.invariant in
    IfOk-weaker c.all_values.result (λ v. v ≡ all_values (length values) c.args.kept values) _ (λ v is. all_left c.args.kept values c.args.lanes left ∙ ap Some (sym is)) c.all_values.ensures
