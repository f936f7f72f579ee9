use Rattle.std.proofs.Common.{◌≡◌, ◌≤◌, [], length}
use Rattle.std.specs.Vec.{vec_capacity}
use Rattle.rsx_region.specs.Pieces.{Each}
use Rattle.rsx_region.specs.declared.region.Region.{Region}
use Rattle.rsx_runtime.proofs.beginning.Gated.with_room.Given as goal

abbrev pub invariant-loop-number : goal.invariant-loop-number
invariant-loop-number g l = record {
  count : length l.regions.items ≡ l.number;
  empty : Each (λ (r : Region g.row.N.Denot g.row.T.Denot). r.pieces.items ≡ []) l.regions.items;
  room : l.count ≤ vec_capacity l.regions;
}
