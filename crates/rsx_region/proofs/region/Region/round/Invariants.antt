use Rattle.std.proofs.Common.{◌≡◌, ◌+◌, ◌≤◌, List, length}
use Rattle.rsx_types.specs.Stream.{Stream}
use Rattle.rsx_region.specs.Regions.{ArePiecesOf, RegionGoes, RegionStands}
use Rattle.rsx_region.specs.Serving.{EachBefore, IsAtRest}
use Rattle.rsx_region.specs.declared.piece.Piece.{Piece}
use Rattle.rsx_region.proofs.region.Region.round.Given as goal

abbrev pub invariant-loop-at : goal.invariant-loop-at
invariant-loop-at g l =
    let m = g.O.Ops.meaning l.ops in record {
      ends : ArePiecesOf l.links l.self.pieces.items;
      number : l.self.number ≡ l.fn.self.number;
      run : RegionGoes g.N.Machine m l.links l.moves l.pops l.fn.self.pieces.items l.self.pieces.items;
      stands : (hubs : List (Stream g.row.T.Denot)) (opening : List (Piece g.row.N.Denot g.row.T.Denot)) → RegionStands g.N.Machine m hubs opening l.fn.self.pieces.items → RegionStands g.N.Machine m hubs opening l.self.pieces.items;
      most : l.moves + l.pops ≤ l.budget;
      count : l.at-end ≡ length l.self.pieces.items;
      rests : EachBefore l.at (IsAtRest g.N.Machine m) l.self.pieces.items;
    }
