use Rattle.std.proofs.Common.{◌≡◌, ◌+◌, false, length, true}
use Rattle.rsx_serialized.specs.Regions.{GoesOn}
use Rattle.rsx_serialized.specs.Resting.{AreStill}
use Rattle.rsx_serialized.specs.Rounds.{IsBusy}
use Rattle.rsx_serialized.proofs.region.GraphRegion.send_out.Given as goal

abbrev pub invariant-loop-signal : goal.invariant-loop-signal
invariant-loop-signal g l = record {
  goes : GoesOn l.links l.fn.self l.self;
  still : AreStill l.fn.self.outlets.items l.self.outlets.items;
  same : l.self.graph ≡ l.fn.self.graph;
  none : l.sent ≡ false → (l._signal ≡ 0) × (l.self ≡ l.fn.self);
  busy : l.sent ≡ true → IsBusy (g.O.Ops.meaning l.fn.self.graph.ops) l.fn.self l.self;
  left : length l.self.pending.items + l._signal ≡ length l.fn.self.pending.items;
  count : l._signal-end ≡ length l.fn.self.pending.items;
}
