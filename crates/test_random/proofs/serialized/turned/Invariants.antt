use Rattle.rsx_serialized.specs.Started.{IsStarted}
use Rattle.test_random.proofs.serialized.turned.Given as goal

abbrev pub invariant-loop-at : goal.invariant-loop-at
invariant-loop-at l = IsStarted l.started
