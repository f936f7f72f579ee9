use Rattle.std.proofs.Common.{◌≡◌, ◌≤◌}
use Rattle.rsx_live_parts.specs.Cutting.{crossing_to}
use Rattle.rsx_live_parts.proofs.cutting.count_crossing.Given as goal

abbrev pub invariant-loop-at : goal.invariant-loop-at
invariant-loop-at g l = record {
  few : l.count ≤ l.at;
  is : l.count ≡ crossing_to g.N.Machine l.part l.at;
}
