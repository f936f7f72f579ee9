use Rattle.rsx_serialized.proofs.Numbers.{found, named}
use Rattle.rsx_serialized.proofs.serialized.SerializedGraph.emit.Goals as goal

pub emitter_link-link-requires-after_bounds : goal.emitter_link-link-requires-after_bounds
emitter_link-link-requires-after_bounds g c κs within = named c.args.self.now.links.emitters.items _ _ _ c.link.ensures c.requires

pub returns-clause-end : goal.returns-clause-end
returns-clause-end g c = found c.args.self.now.links.emitters.items _ _ c.emitter_link-link.result.now _ c.link.ensures c.emitter_link-link.ensures c.emit_over.ensures.end
