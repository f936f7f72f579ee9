use Rattle.std.proofs.Common.{◌≡◌, take}
use Rattle.rsx_plain.proofs.state.copy_stages.Given as goal

abbrev pub invariant-loop-stage : goal.invariant-loop-stage
invariant-loop-stage g l = l.copies.items ≡ take l.stage-index l.stages
