use Rattle.std.proofs.Common.{◌≡◌, ◌++◌, map}
use Rattle.std.specs.Vec.Iter.{into_iter_items}
use Rattle.rsx_types.specs.Plain.{chained}
use Rattle.rsx_model.proofs.operators.lanes.chain_each.Given as goal

abbrev pub invariant-loop-input : goal.invariant-loop-input
invariant-loop-input g l =
    let lane = chained (g.O.Ops.meaning l.ops) l.stages in
    l.values.items ++ map lane (into_iter_items l.input-iterator) ≡ map lane l.fn.inputs.items
