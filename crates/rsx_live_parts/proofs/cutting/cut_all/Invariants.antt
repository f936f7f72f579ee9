use Rattle.std.proofs.Common.{◌≡◌, length, map}
use Rattle.rsx_live_parts.specs.Cursors.{first_of, root_in}
use Rattle.rsx_live_parts.specs.Cutting.{AreCutStill, AreSwept, sweep_of}
use Rattle.rsx_live_parts.proofs.cutting.cut_all.Given as goal

abbrev pub invariant-loop-above : goal.invariant-loop-above
invariant-loop-above g l = record {
  beside : length l.placed.places.items ≡ length l.trees.pieces.items;
  count : l.placed.count ≡ l.count;
  swept : AreSwept g.N.Machine g.N.CrossingNodes l.count l.senders l.above (record { trees = l.fn.trees; places = map (root_in l.count l.roots) l.taps; cursors = map first_of l.taps }) (sweep_of l.trees l.placed.places l.placed.cursors);
  from : AreCutStill g.N.Machine g.N.CrossingNodes l.fn.trees l.trees;
}
