use Rattle.rsx_live.specs.Starts.{AreTapsOf}
use Rattle.rsx_app.proofs.threads.take_waiting.Given as goal

abbrev pub invariant-loop : goal.invariant-loop
invariant-loop l = AreTapsOf l.graph l.taps.items
