-- One link of a piece, at its place.
use Rattle.std.proofs.Common.{◌≡◌, ℕ, ◌<◌, List, length, refl, sym, subst, Some, slice_get, slice_index_or}
use Rattle.std.proofs.lemmas.Option.{slice_get_read}
use Rattle.rsx_link.specs.Ends.{IsCancelSeatOf}
use Rattle.rsx_link.specs.declared.cancel.CancelSeat.{CancelSeat}
use Rattle.rsx_link.specs.declared.link.Link.{Link}
use Rattle.rsx_region.specs.Inlet.{IsInletOf}
use Rattle.rsx_region.specs.Moves.{SameInlet}
use Rattle.rsx_region.specs.declared.inlet.Inlet.{Inlet}
use Rattle.rsx_region.specs.Pieces.{IsAt, IsPieceOf}
use Rattle.rsx_region.specs.declared.piece.Incoming.{Incoming}
use Rattle.rsx_region.specs.declared.piece.Piece.{Piece}
use Rattle.rsx_region.proofs.Ends.{link_is}

pub read_there : {M T : Type 0} (p : Piece M T) (at : ℕ) (was : Incoming T) → at < length p.inlets.items → was ≡ slice_index_or p.inlets.items at was → slice_get p.inlets.items at ≡ Some was
read_there p at was within read = slice_get_read p.inlets.items (length p.inlets.items) at was refl within read

pub link_there : {M T : Type 0} (links : List (Link T)) (p : Piece M T) (at : ℕ) (was : Incoming T) → IsPieceOf links p → at < length p.inlets.items → was ≡ slice_index_or p.inlets.items at was → IsAt links was.link (λ l. IsInletOf l was.inlet)
link_there links p at was h within read = h.takes at was (read_there p at was within read)

pub inlet_there : {M T : Type 0} (links : List (Link T)) (p : Piece M T) (at : ℕ) (was : Incoming T) (l : Link T) → IsPieceOf links p → at < length p.inlets.items → was ≡ slice_index_or p.inlets.items at was → slice_get links was.link ≡ Some l → IsInletOf l was.inlet
inlet_there links p at was l h within read is = link_is links was.link (λ k. IsInletOf k was.inlet) l is (link_there links p at was h within read)

pub inlet_same : {T : Type 0} (l : Link T) (was is : Inlet T) → SameInlet l was is → IsInletOf l was → IsInletOf l is
inlet_same {T} l was is same h = let S : CancelSeat → Type 0 = λ s. IsCancelSeatOf l s in (same.0, subst S (sym same.2) h.1)
