use Rattle.std.proofs.Common.{◌≡◌, ◌+◌, List, length}
use Rattle.rsx_types.specs.Meaning.{Meaning}
use Rattle.rsx_types.specs.Stream.{Stream}
use Rattle.rsx_region.specs.Trees.{CanBeJoined, HaveGoneSince, Stage}
use Rattle.rsx_region.proofs.trees.CutTrees.join_all.Given as goal

abbrev pub invariant-loop : goal.invariant-loop
invariant-loop g l = record {
  can : CanBeJoined g.N.Machine g.N.CrossingNodes l.self;
  since : (m : Meaning g.row.T.Denot) (first hubs : List (Stream g.row.T.Denot)) (whole opening : Stage g.row.N.Denot g.row.T.Denot) → HaveGoneSince g.N.Machine g.N.CrossingNodes m first hubs whole opening l.fn.self → (before : Stage g.row.N.Denot g.row.T.Denot) × HaveGoneSince g.N.Machine g.N.CrossingNodes m first hubs whole before l.self;
  count : length l.self.edges.items + l.counter ≡ l.end;
}
