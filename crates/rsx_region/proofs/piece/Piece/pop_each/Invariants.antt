use Rattle.std.proofs.Common.{◌≡◌, ◌≤◌, length, List}
use Rattle.rsx_types.specs.Meaning.{Meaning}
use Rattle.rsx_types.specs.Stream.{Stream}
use Rattle.rsx_region.specs.Pieces.{IsPieceOf, StandsSince}
use Rattle.rsx_region.specs.Serving.{HasLeftBefore}
use Rattle.rsx_region.specs.Steps.{Goes}
use Rattle.rsx_region.specs.declared.piece.Piece.{Piece}
use Rattle.rsx_region.proofs.piece.Piece.pop_each.Given as goal

abbrev pub invariant-loop-at : goal.invariant-loop-at
invariant-loop-at g l = record {
  ends : IsPieceOf l.links l.self;
  run : (m : Meaning g.row.T.Denot) → Goes g.N.Machine m l.links 0 l.pops l.fn.self l.self;
  stands : (m : Meaning g.row.T.Denot) (hubs : List (Stream g.row.T.Denot)) (opening : Piece g.row.N.Denot g.row.T.Denot) → StandsSince g.N.Machine m hubs opening l.fn.self → StandsSince g.N.Machine m hubs opening l.self;
  count : l.at-end ≡ length l.self.inlets.items;
  within : l.pops ≤ l.budget;
  left : l.pops ≡ 0 → HasLeftBefore g.N.Machine l.at l.fn.self l.self;
}
