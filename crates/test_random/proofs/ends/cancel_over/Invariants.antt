use Rattle.rsx_link.specs.Ends.{IsCancelSeatOf}
use Rattle.test_random.proofs.ends.cancel_over.Given as goal

abbrev pub invariant-loop : goal.invariant-loop
invariant-loop l = IsCancelSeatOf l.link l.canceller.seat
