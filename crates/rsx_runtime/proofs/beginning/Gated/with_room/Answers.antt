use Rattle.std.proofs.Common.{◌≡◌, ◌∷◌, ◌++◌, [], Vec, ap, arith, ◌∙◌}
use Rattle.rsx_region.specs.declared.piece.Piece.{Piece}
use Rattle.rsx_region.specs.declared.region.Region.{Region}
use Rattle.rsx_runtime.proofs.Begins.{one_more}
use Rattle.rsx_runtime.proofs.Gates.{each_pushed, each_same}
use Rattle.rsx_runtime.proofs.beginning.Gated.with_room.Goals as goal

pub loop-number-preserved : goal.loop-number-preserved
loop-number-preserved g c =
    let old = c.loop-number.regions.items in
    let P : Region _ _ → Type 0 = λ r. r.pieces.items ≡ [] in
    let l = one_more c.push_reserved.new.self.items old _ c.push_reserved.ensures.items in
    let i = c.loop-number.invariant.count in
    let r = c.loop-number.invariant.room in
    let k = c.push_reserved.ensures.capacity in
    let none = ap (λ (p : Vec (Piece _ _) _). p.items) c.new-in-loop-number.ensures.1 ∙ c.new.ensures.items in
    record {
      count = omega (arith, l, i);
      empty = each_same P (old ++ c.new-in-loop-number.result ∷ []) c.push_reserved.new.self.items c.push_reserved.ensures.items (each_pushed P old c.new-in-loop-number.result c.loop-number.invariant.empty none);
      room = omega (arith, r, k);
    }
