use Rattle.std.proofs.Common.{◌+◌, ◌-◌, ◌≤◌, List}
use Rattle.rsx_types.specs.Stream.{Stream}
use Rattle.rsx_region.specs.Pieces.{IsPieceOf, StandsSince}
use Rattle.rsx_region.specs.Steps.{Goes}
use Rattle.rsx_region.specs.declared.piece.Piece.{Piece}
use Rattle.rsx_region.proofs.piece.Piece.serve_by.Given as goal

abbrev pub invariant-loop-moves : goal.invariant-loop-moves
invariant-loop-moves g l =
    let m = g.O.Ops.meaning l.ops in record {
      ends : IsPieceOf l.links l.self;
      run : Goes g.N.Machine m l.links l.moves l.pops l.fn.self l.self;
      stands : (hubs : List (Stream g.row.T.Denot)) (opening : Piece g.row.N.Denot g.row.T.Denot) → StandsSince g.N.Machine m hubs opening l.fn.self → StandsSince g.N.Machine m hubs opening l.self;
      most : l.moves + l.pops ≤ l.budget;
    }

abbrev pub decreases-loop-moves : goal.decreases-loop-moves
decreases-loop-moves g l = l.budget - (l.moves + l.pops)
