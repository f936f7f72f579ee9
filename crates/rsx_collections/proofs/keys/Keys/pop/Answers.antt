use Rattle.rsx_collections.proofs.Places.{places_less}
use Rattle.rsx_collections.proofs.keys.Keys.pop.Goals as goal

pub invariant_of-self-2 : goal.invariant_of-self-2
invariant_of-self-2 c = places_less _ _ _ c.in_ok-key.key (rw c.in_ok-key.ensures.items at c.self.invariant) c.remove.ensures.updates.0
