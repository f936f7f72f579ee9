use Rattle.std.proofs.Common.{◌≡◌, drop}
use Rattle.rsx_model.specs.Check.{stages_fit}
use Rattle.rsx_model.proofs.check.are_stages.Given as goal

abbrev pub invariant-loop-stage : goal.invariant-loop-stage
invariant-loop-stage g l = stages_fit (drop l.stage-index l.stages) ≡ stages_fit l.stages
