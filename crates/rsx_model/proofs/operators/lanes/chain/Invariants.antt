use Rattle.std.proofs.Common.{◌≡◌, drop}
use Rattle.rsx_types.specs.Plain.{chained}
use Rattle.rsx_model.proofs.operators.lanes.chain.Given as goal

abbrev pub invariant-loop-stage : goal.invariant-loop-stage
invariant-loop-stage g l =
    let m = g.O.Ops.meaning l.ops in
    chained m (drop l.stage-index l.stages) l.value ≡ chained m l.stages l.fn.input
