use Rattle.std.proofs.Common.{◌+◌, ◌-◌, ◌≤◌}
use Rattle.std.specs.Vec.{vec_len, vec_capacity}
use Rattle.rsx_link.specs.Ends.{IsDownOf}
use Rattle.rsx_region.specs.Taken.{AreTakenInTurn}
use Rattle.rsx_region.proofs.inlet.take_each.Given as goal

abbrev pub invariant-loop-count : goal.invariant-loop-count
invariant-loop-count g l = record {
  end : IsDownOf l.link l.down;
  taken : AreTakenInTurn l.count l.fn.down l.fn.items.items l.items.items l.down;
  room : vec_len l.items + (l.most - l.count) ≤ vec_capacity l.items;
}
