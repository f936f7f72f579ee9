use Rattle.rsx_serialized.specs.Started.{IsStarted}
use Rattle.test_random.proofs.gated.serve.Given as goal

abbrev pub invariant-loop-batch : goal.invariant-loop-batch
invariant-loop-batch g l = IsStarted l.started
