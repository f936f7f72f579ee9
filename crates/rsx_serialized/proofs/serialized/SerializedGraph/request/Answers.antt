use Rattle.rsx_serialized.proofs.Numbers.{found, named}
use Rattle.rsx_serialized.proofs.serialized.SerializedGraph.request.Goals as goal

pub tap_link-link-requires-after_bounds : goal.tap_link-link-requires-after_bounds
tap_link-link-requires-after_bounds g c κs within = named c.args.self.now.links.taps.items _ _ _ c.link.ensures c.requires

pub returns-clause-end : goal.returns-clause-end
returns-clause-end g c = found c.args.self.now.links.taps.items _ _ c.tap_link-link.result.now _ c.link.ensures c.tap_link-link.ensures c.request_over.ensures.end
