use Rattle.std.proofs.Common.{[], ◌∷◌, ◌++◌, ap, ◌∙◌}
use Rattle.rsx_values.specs.Record.{times}
use Rattle.rsx_values.specs.Eager.{eager}
use Rattle.rsx_delayed.proofs.EagerValues.{overtaken}
use Rattle.rsx_delayed.proofs.eager_law.failure_overtakes.Goals as goal

pub returns : goal.returns
returns g c count value cause within failed = ap (eager (times count 0 ++ 1 ∷ []) value.items) failed ∙ overtaken count value.items cause within
