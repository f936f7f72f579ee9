use Rattle.std.proofs.Common.{◌≡◌, ◌<◌}
use Rattle.rsx_serialized.specs.Regions.{GoesOn}
use Rattle.rsx_serialized.specs.Resting.{HasSeenAll}
use Rattle.rsx_serialized.specs.Rounds.{AreRounds}
use Rattle.rsx_serialized.proofs.region.GraphRegion.serve.Given as goal

abbrev pub invariant-loop-round : goal.invariant-loop-round
invariant-loop-round g l = record {
  goes : GoesOn l.links l.fn.self l.self;
  first : l._round ≡ 0 → l.self ≡ l.fn.self;
  rounds : AreRounds (g.O.Ops.meaning l.fn.self.graph.ops) l._round l.fn.self l.self;
  looked : 0 < l._round → HasSeenAll (g.O.Ops.meaning l.fn.self.graph.ops) l.fn.self l.self;
}
