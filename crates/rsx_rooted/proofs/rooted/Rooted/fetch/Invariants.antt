use Rattle.std.specs.Prelude.{None}
use Rattle.rsx_rooted.specs.Fetched.{IsFetched}
use Rattle.rsx_rooted.proofs.rooted.Rooted.fetch.Given as goal

abbrev pub decreases-steps : goal.decreases-steps
decreases-steps g l = l.left

abbrev pub invariant-steps : goal.invariant-steps
invariant-steps g l = IsFetched g.M.Machine (g.O.Ops.meaning l.ops) l.fn.left l.fn.self None l.left l.self
