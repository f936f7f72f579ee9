use Rattle.std.proofs.Common.{◌≡◌}
use Rattle.rsx_link.specs.PlaceSeats.{IsCollectorOf, places_in, collector_steps}
use Rattle.rsx_link.specs.Collected.{missed_below}
use Rattle.rsx_link.proofs.places.Places.collect.Given as goal

abbrev pub invariant-loop-at : goal.invariant-loop-at
invariant-loop-at g l = record {
  table : IsCollectorOf l.self l.collector;
  count : l.at-end ≡ places_in l.self;
  steps : collector_steps l.collector ≡ missed_below l.at (collector_steps l.fn.collector);
}
