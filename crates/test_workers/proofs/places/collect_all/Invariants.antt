use Rattle.rsx_link.specs.PlaceSeats.{IsCollectorOf}
use Rattle.test_workers.proofs.places.collect_all.Given as goal

abbrev pub invariant-loop : goal.invariant-loop
invariant-loop l = IsCollectorOf l.places l.collector
