use Rattle.test_random.specs.Returned.{HasRest}
use Rattle.test_random.proofs.serialized.taken_out.Given as goal

abbrev pub invariant-loop-sub : goal.invariant-loop-sub
invariant-loop-sub l = HasRest l.back

abbrev pub invariant-loop-hub : goal.invariant-loop-hub
invariant-loop-hub l = HasRest l.back
