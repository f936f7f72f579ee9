use Rattle.std.proofs.Common.{◌≡◌, ◌<◌, length, Some, slice_get}
use Rattle.rsx_live_parts.specs.Cutting.{AreCutStill, AreTried, sweep_of}
use Rattle.rsx_live_parts.specs.declared.cutting.Cursor.{Cursor}
use Rattle.rsx_live_parts.proofs.cutting.cut_piece.Given as goal

abbrev pub invariant-loop-at : goal.invariant-loop-at
invariant-loop-at g l = record {
  there : l.above < length l.trees.pieces.items;
  beside : length l.placed.places.items ≡ length l.trees.pieces.items;
  count : l.placed.count ≡ l.fn.placed.count;
  tried : (begin : Cursor) × (slice_get l.fn.placed.cursors.items l.above ≡ Some begin) × AreTried g.N.Machine g.N.CrossingNodes l.fn.placed.count l.senders l.above l.at (sweep_of l.fn.trees l.fn.placed.places l.fn.placed.cursors) begin (sweep_of l.trees l.placed.places l.placed.cursors) l.cursor;
  from : AreCutStill g.N.Machine g.N.CrossingNodes l.fn.trees l.trees;
}
