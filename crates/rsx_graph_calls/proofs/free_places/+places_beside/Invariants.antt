use Rattle.std.proofs.Common.{length}
use Rattle.rsx_graph_calls.proofs.free_places.+places_beside.Given as goal

abbrev pub decreases-places_beside : goal.decreases-places_beside
decreases-places_beside g l = length l.hubs.now
