use Rattle.std.proofs.Common.{◌≡◌, length}
use Rattle.rsx_graph.specs.InGraph.{state_of}
use Rattle.rsx_serialized.specs.Regions.{AreEndsOf}
use Rattle.rsx_serialized.specs.Resting.{HasSeenBefore}
use Rattle.rsx_serialized.proofs.region.GraphRegion.look.Given as goal

abbrev pub invariant-loop-at : goal.invariant-loop-at
invariant-loop-at g l = record {
  ends : AreEndsOf l.links l.self;
  looked : HasSeenBefore (g.O.Ops.meaning l.fn.self.graph.ops) l.at l.fn.self l.self;
  joins : (state_of l.self.graph).joins ≡ (state_of l.fn.self.graph).joins;
  count : l.subscribed ≡ length (state_of l.fn.self.graph).joins;
}
