use Rattle.std.specs.Prelude.{None}
use Rattle.rsx_rooted.specs.Fetched.{IsFetched}
use Rattle.rsx_rooted.proofs.rooted.Rooted.step_on.Given as goal

abbrev pub decreases-again : goal.decreases-again
decreases-again g l = l.left

abbrev pub invariant-again : goal.invariant-again
invariant-again g l = IsFetched g.M.Machine (g.O.Ops.meaning l.ops) l.fn.left l.fn.self None l.left l.self
