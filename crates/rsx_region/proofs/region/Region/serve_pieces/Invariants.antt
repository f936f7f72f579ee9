use Rattle.std.proofs.Common.{◌≡◌, ◌+◌, ◌-◌, ◌≤◌, List}
use Rattle.rsx_types.specs.Stream.{Stream}
use Rattle.rsx_region.specs.Regions.{ArePiecesOf, RegionGoes, RegionStands}
use Rattle.rsx_region.specs.declared.piece.Piece.{Piece}
use Rattle.rsx_region.proofs.region.Region.serve_pieces.Given as goal

abbrev pub invariant-loop-moves : goal.invariant-loop-moves
invariant-loop-moves g l =
    let m = g.O.Ops.meaning l.ops in record {
      ends : ArePiecesOf l.links l.self.pieces.items;
      number : l.self.number ≡ l.fn.self.number;
      run : RegionGoes g.N.Machine m l.links l.moves l.pops l.fn.self.pieces.items l.self.pieces.items;
      stands : (hubs : List (Stream g.row.T.Denot)) (opening : List (Piece g.row.N.Denot g.row.T.Denot)) → RegionStands g.N.Machine m hubs opening l.fn.self.pieces.items → RegionStands g.N.Machine m hubs opening l.self.pieces.items;
      most : l.moves + l.pops ≤ l.budget;
    }

abbrev pub decreases-loop-moves : goal.decreases-loop-moves
decreases-loop-moves g l = l.budget - (l.moves + l.pops)
