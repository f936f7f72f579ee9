use Rattle.std.proofs.Common.{◌≡◌, length, List}
use Rattle.rsx_types.specs.Meaning.{Meaning}
use Rattle.rsx_pipe.specs.Published.{reader_edge}
use Rattle.rsx_types.specs.Stream.{Stream}
use Rattle.rsx_region.specs.Pieces.{IsPieceOf, StandsSince}
use Rattle.rsx_region.specs.Serving.{EachBefore, IsPassedOn}
use Rattle.rsx_region.specs.Steps.{Goes}
use Rattle.rsx_region.specs.declared.piece.Incoming.{Incoming}
use Rattle.rsx_region.specs.declared.piece.Piece.{Piece}
use Rattle.rsx_region.proofs.piece.Piece.ask_each.Given as goal

abbrev pub invariant-loop-at : goal.invariant-loop-at
invariant-loop-at g l = record {
  ends : IsPieceOf l.links l.self;
  run : (m : Meaning g.row.T.Denot) → Goes g.N.Machine m l.links 0 0 l.fn.self l.self;
  stands : (m : Meaning g.row.T.Denot) (hubs : List (Stream g.row.T.Denot)) (opening : Piece g.row.N.Denot g.row.T.Denot) → StandsSince g.N.Machine m hubs opening l.fn.self → StandsSince g.N.Machine m hubs opening l.self;
  part : l.self.part ≡ l.fn.self.part;
  up : l.self.up ≡ l.fn.self.up;
  count : l.at-end ≡ length l.self.inlets.items;
  passed : EachBefore l.at (λ (i : Incoming g.row.T.Denot). IsPassedOn (reader_edge g.N.Machine i.inlet.hub l.self.part) i.inlet) l.self.inlets.items;
}
