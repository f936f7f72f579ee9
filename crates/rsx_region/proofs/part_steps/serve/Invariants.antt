use Rattle.std.proofs.Common.{◌≡◌, List}
use Rattle.rsx_types.specs.Stream.{Stream}
use Rattle.rsx_types.specs.declared.signal.Signal.{Signal}
use Rattle.rsx_tree.specs.declared.node.Node.{Node}
use Rattle.rsx_tree.specs.declared.edge.EdgeState.TheVariants.{Live}
use Rattle.rsx_link.specs.Ends.{SameUp, sent_signals}
use Rattle.rsx_region.specs.Inlet.{InletStands}
use Rattle.rsx_region.specs.Moves.{IsServed}
use Rattle.rsx_region.specs.Piece.{IsInStep, PieceStands}
use Rattle.rsx_region.specs.declared.inlet.Inlet.{Inlet}
use Rattle.rsx_region.proofs.part_steps.serve.Given as goal

abbrev pub invariant-loop-made : goal.invariant-loop-made
invariant-loop-made g l =
    let m = g.O.Ops.meaning l.ops in record {
      end : SameUp l.link l.fn.up l.up;
      step : IsInStep l.part l.up;
      after : (l.fn.part.root.state ≡ Live → ⊥) → (l.part ≡ l.fn.part) × (sent_signals l.up ≡ sent_signals l.fn.up);
      served : IsServed g.N.Machine m l.made l.fn.part l.fn.up l.part l.up;
      stands : (taken : List (Stream g.row.O-Item.Denot)) (old : Node g.row.N.Denot) (queued : List (Signal g.row.O-Item.Denot)) → PieceStands g.N.Machine m taken old queued l.fn.part l.fn.up → PieceStands g.N.Machine m taken old queued l.part l.up;
      inlets : (taken : List (Stream g.row.O-Item.Denot)) (i : Inlet g.row.O-Item.Denot) → InletStands g.N.Machine taken l.fn.part i → InletStands g.N.Machine taken l.part i;
    }
