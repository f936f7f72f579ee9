use Rattle.std.proofs.Common.{◌≡◌, ◌+◌, ◌-◌, ◌≤◌, List}
use Rattle.rsx_types.specs.Stream.{Stream}
use Rattle.rsx_region.specs.Pieces.{IsPieceOf, StandsSince}
use Rattle.rsx_region.specs.Steps.{Goes}
use Rattle.rsx_region.specs.declared.piece.Piece.{Piece}
use Rattle.rsx_region.proofs.piece.Piece.move_on.Given as goal

abbrev pub invariant-loop-made : goal.invariant-loop-made
invariant-loop-made g l =
    let m = g.O.Ops.meaning l.ops in record {
      ends : IsPieceOf l.links l.self;
      run : Goes g.N.Machine m l.links l.made l.taken l.fn.self l.self;
      stands : (hubs : List (Stream g.row.T.Denot)) (opening : Piece g.row.N.Denot g.row.T.Denot) → StandsSince g.N.Machine m hubs opening l.fn.self → StandsSince g.N.Machine m hubs opening l.self;
      most : l.made + l.taken ≤ l.budget;
      first : l.made + l.taken ≡ 0 → l.self ≡ l.fn.self;
    }

abbrev pub decreases-loop-made : goal.decreases-loop-made
decreases-loop-made g l = l.budget - (l.made + l.taken)
