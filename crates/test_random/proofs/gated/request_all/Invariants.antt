use Rattle.rsx_serialized.specs.Started.{IsStarted}
use Rattle.test_random.proofs.gated.request_all.Given as goal

abbrev pub invariant-loop-sub : goal.invariant-loop-sub
invariant-loop-sub g l = IsStarted l.started
