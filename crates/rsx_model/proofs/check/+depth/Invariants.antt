use Rattle.std.proofs.Common.{◌≡◌, map, drop, nat_le}
use Rattle.rsx_model.specs.Shape.{depth, max_of}
use Rattle.rsx_model.proofs.check.+depth.Given as goal

abbrev pub invariant-are_within_depth-loop-input : goal.invariant-are_within_depth-loop-input
invariant-are_within_depth-loop-input g l = nat_le (max_of (map depth (drop l.input-index l.inputs))) l.most ≡ nat_le (max_of (map depth l.inputs)) l.most
