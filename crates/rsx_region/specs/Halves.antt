-- The halves of a piece that was cut.
use Rattle.std.specs.Prelude.{◌≡◌, ◌≤◌, ℕ, List, [], ◌∷◌, ◌++◌}
use Rattle.rsx_link.specs.Ends.{AreEnds, capacity_of}
use Rattle.rsx_region.specs.declared.halves.Below.{Below}
use Rattle.rsx_region.specs.declared.halves.TheConstants.{LINK_PLACES}
use Rattle.rsx_region.specs.declared.piece.Incoming.{Incoming}
use Rattle.rsx_region.specs.declared.piece.Piece.{Piece}

-- the upper half of a piece, and the lower one, with the number of the edge in the upper one between them
pub record Halves (M T : Type 0) : Type 0 where
  pub upper : Piece M T
  pub lower : Piece M T
  pub at : ℕ

-- the upper one, and what was cut off it
abbrev pub halves_of : {M T : Type 0} → Piece M T → Below M T → Halves M T
halves_of upper below = record { upper = upper; lower = below.piece; at = below.at }

-- the last link that comes into the upper half is that into which the lower one sends, it holds at most so much, and the queue is empty
pub record AreHalves {M T : Type 0} (upper : Piece M T) (below : Below M T) : Type 0 where
  pub others : List (Incoming T)
  pub last : Incoming T
  pub ins : upper.inlets.items ≡ others ++ last ∷ []
  pub ends : AreEnds below.link below.piece.up last.inlet.down last.inlet.closer
  pub small : capacity_of below.link ≤ LINK_PLACES
  pub empty : below.queue ≡ []
