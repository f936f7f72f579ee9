use Rattle.std.proofs.Common.{take}
use Rattle.rsx_tck.specs.Passes.{BeginsAt}
use Rattle.rsx_tck.proofs.reports.next_subscriber.Given as goal

abbrev pub invariant-loop-stamped : goal.invariant-loop-stamped
invariant-loop-stamped l = BeginsAt (take l.stamped-index l.trace) l.from l.least
