use Rattle.rsx_serialized.specs.Started.{IsStarted}
use Rattle.test_random.proofs.gated.emit.Given as goal

abbrev pub invariant-loop-number : goal.invariant-loop-number
invariant-loop-number g l = IsStarted l.started
