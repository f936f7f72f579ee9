use Rattle.rsx_link.specs.Ends.{IsUpOf}
use Rattle.test_random.proofs.work.emit_numbers.Given as goal

abbrev pub invariant-loop : goal.invariant-loop
invariant-loop l = IsUpOf l.link l.emitter.up
