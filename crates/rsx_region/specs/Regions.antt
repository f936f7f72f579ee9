-- Many pieces, side by side.
use Rattle.std.specs.Prelude.{◌≡◌, ℕ, List, Some, length, slice_get, slice_set}
use Rattle.rsx_sources.specs.Prelude.{Meaning, Stream}
use Rattle.rsx_sources.specs.declared.machine.Machine.{Ghosts as Machine}
use Rattle.rsx_tree.specs.Runs.{Leads}
use Rattle.rsx_link.specs.declared.link.Link.{Link}
use Rattle.rsx_region.specs.Pieces.{Each, IsPieceOf, StandsSince}
use Rattle.rsx_region.specs.Serving.{IsAtRest}
use Rattle.rsx_region.specs.Steps.{IsStep, moves_in, pops_in}
use Rattle.rsx_region.specs.declared.piece.Piece.{Piece}
use Rattle.rsx_region.specs.declared.region.Region.{Region}
use Rattle.rsx_region.specs.declared.step.Step.{Step}

module _ {M T : Type 0} where
  -- the ends of each piece are those of its links
  abbrev pub ArePiecesOf : List (Link T) → List (Piece M T) → Type 0
  ArePiecesOf links ps = Each (IsPieceOf links) ps

  -- each piece is at rest
  abbrev pub AreAtRest : Machine M T → Meaning T → List (Piece M T) → Type 0
  AreAtRest b m ps = Each (IsAtRest b m) ps

  -- Each piece stands for what it stood for since its opening, where the hubs took in these values. No piece came or went.
  pub record RegionStands (b : Machine M T) (m : Meaning T) (hubs : List (Stream T)) (opening now : List (Piece M T)) : Type 0 where
    pub count : length now ≡ length opening
    pub each : (k : ℕ) (was is : Piece M T) → slice_get opening k ≡ Some was → slice_get now k ≡ Some is → StandsSince b m hubs was is

  -- one piece made a step
  pub record IsStepOfOne (b : Machine M T) (m : Meaning T) (links : List (Link T)) (old : List (Piece M T)) (label : Step) (new : List (Piece M T)) : Type 0 where
    pub at : ℕ
    pub was : Piece M T
    pub is : Piece M T
    pub there : slice_get old at ≡ Some was
    pub put : new ≡ slice_set old at is
    pub step : IsStep b m links was label is

  -- steps of single pieces lead from one to the other, of which so many are moves, and so many took a signal from a link
  pub record RegionGoes (b : Machine M T) (m : Meaning T) (links : List (Link T)) (moves pops : ℕ) (old new : List (Piece M T)) : Type 0 where
    pub labels : List Step
    pub made : moves_in labels ≡ moves
    pub popped : pops_in labels ≡ pops
    pub run : Leads (IsStepOfOne b m links) old labels new

  -- the piece at the place is at rest, and the others are as they were
  pub record IsServedAt (b : Machine M T) (m : Meaning T) (at : ℕ) (old new : List (Piece M T)) : Type 0 where
    pub is : Piece M T
    pub put : new ≡ slice_set old at is
    pub rests : IsAtRest b m is

  -- A region whenever no one works on it: each piece stands for what it stood for since the opening, and its ends are those of its links.
  pub record RegionFits (b : Machine M T) (m : Meaning T) (k : ℕ) (hubs : List (Stream T)) (opening : List (Piece M T)) (links : List (Link T)) (r : Region M T) : Type 0 where
    pub number : r.number ≡ k
    pub ends : ArePiecesOf links r.pieces.items
    pub stands : RegionStands b m hubs opening r.pieces.items
