use Rattle.std.proofs.Common.{◌≡◌, false, length, true}
use Rattle.rsx_graph.specs.InGraph.{state_of}
use Rattle.rsx_serialized.specs.Regions.{GoesOn}
use Rattle.rsx_serialized.specs.Rounds.{IsBusy}
use Rattle.rsx_serialized.proofs.region.GraphRegion.take_from.Given as goal

abbrev pub invariant-loop-signal : goal.invariant-loop-signal
invariant-loop-signal g l = record {
  goes : GoesOn l.links l.fn.self l.self;
  none : l.taken ≡ false → (l._signal ≡ 0) × (l.self ≡ l.fn.self);
  busy : l.taken ≡ true → IsBusy (g.O.Ops.meaning l.fn.self.graph.ops) l.fn.self l.self;
  pending : l.self.pending ≡ l.fn.self.pending;
  outlets : l.self.outlets ≡ l.fn.self.outlets;
  joins : (state_of l.self.graph).joins ≡ (state_of l.fn.self.graph).joins;
  count : length l.self.inlets.items ≡ length l.fn.self.inlets.items;
}
