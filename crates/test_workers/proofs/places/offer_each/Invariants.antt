use Rattle.rsx_link.specs.PlaceSeats.{IsPlaceSeatOf}
use Rattle.test_workers.proofs.places.offer_each.Given as goal

abbrev pub invariant-loop-number : goal.invariant-loop-number
invariant-loop-number l = IsPlaceSeatOf l.places l.seat
