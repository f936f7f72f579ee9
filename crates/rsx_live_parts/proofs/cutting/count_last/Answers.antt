use Rattle.std.proofs.Common.{◌-◌, length, refl, subst, sym, take}
use Rattle.rsx_region.specs.declared.piece.Piece.{Piece}
use Rattle.rsx_live_parts.specs.Cutting.{CountsCrossing}
use Rattle.rsx_live_parts.proofs.Sweeps.{split_last}
use Rattle.rsx_live_parts.proofs.cutting.count_last.Goals as goal

pub returns : goal.returns
returns g c =
    let pieces = c.args.pieces.now in
    let last = c.index-pieces-pieces.result in
    (take (length pieces - 1) pieces, last, split_last pieces (length pieces - 1) last c.requires refl c.index-pieces-pieces.is, subst (λ (p : Piece _ _). CountsCrossing g.N.Machine p.part c.count_crossing.result) (sym c.index-pieces-pieces.is) c.count_crossing.ensures)
