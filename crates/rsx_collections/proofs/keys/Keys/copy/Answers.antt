use Rattle.std.proofs.Common.{◌≡◌}
use Rattle.std.specs.List.{each_same}
use Rattle.rsx_collections.proofs.Places.{pairs_same}
use Rattle.rsx_collections.proofs.keys.Keys.copy.Goals as goal

pub invariant_of-result : goal.invariant_of-result
invariant_of-result c =
    let order : c.in_ok-order.order.items ≡ c.self.inside.order.items = each_same _ _ c.in_ok-order.ensures.cases.0 in
    let places : c.in_ok-places.places.entries ≡ c.self.inside.places.entries = pairs_same _ _ c.in_ok-places.ensures.cases in
    rw (order, places) c.self.invariant

pub returns : goal.returns
returns c = let order : c.in_ok-order.order.items ≡ c.self.inside.order.items = each_same _ _ c.in_ok-order.ensures.cases.0 in cc
