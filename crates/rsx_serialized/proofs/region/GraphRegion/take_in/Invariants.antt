use Rattle.std.proofs.Common.{◌≡◌, false, length, true}
use Rattle.rsx_graph.specs.InGraph.{state_of}
use Rattle.rsx_serialized.specs.Regions.{GoesOn}
use Rattle.rsx_serialized.specs.Resting.{HasLeftBefore}
use Rattle.rsx_serialized.specs.Rounds.{IsBusy}
use Rattle.rsx_serialized.proofs.region.GraphRegion.take_in.Given as goal

abbrev pub invariant-loop-at : goal.invariant-loop-at
invariant-loop-at g l = record {
  goes : GoesOn l.links l.fn.self l.self;
  none : l.taken ≡ false → HasLeftBefore l.at l.fn.self l.self;
  busy : l.taken ≡ true → IsBusy (g.O.Ops.meaning l.fn.self.graph.ops) l.fn.self l.self;
  pending : l.self.pending ≡ l.fn.self.pending;
  outlets : l.self.outlets ≡ l.fn.self.outlets;
  joins : (state_of l.self.graph).joins ≡ (state_of l.fn.self.graph).joins;
  count : l.at-end ≡ length l.self.inlets.items;
}
