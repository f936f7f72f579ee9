use Rattle.rsx_runtime.proofs.Rests.{AreOwn}
use Rattle.rsx_runtime.proofs.park.ParkRest.all.Given as goal

abbrev pub invariant-loop : goal.invariant-loop
invariant-loop l = AreOwn l.counter l.unparkers.items l.parkers.items
