use Rattle.std.proofs.Common.{◌≡◌, ◌++◌}
use Rattle.rsx_runtime.specs.Resting.{AreRestsOn}
use Rattle.rsx_runtime.proofs.park.ParkRest.on.Given as goal

abbrev pub invariant-loop-own : goal.invariant-loop-own
invariant-loop-own l = record {
  all : l.yielded ++ l.own-iterator.rest.items ≡ l.fn.parkers.items;
  rests : AreRestsOn l.rouser.unparkers.items l.yielded l.rests.items;
}
