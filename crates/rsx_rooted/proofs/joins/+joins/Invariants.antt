use Rattle.std.proofs.Common.{◌≡◌, ◌++◌, map, drop}
use Rattle.rsx_rooted.specs.Built.{in_a_row, new_joins}
use Rattle.rsx_rooted.proofs.joins.+joins.Given as goal

abbrev pub invariant-add_joins_of-loop-input : goal.invariant-add_joins_of-loop-input
invariant-add_joins_of-loop-input g l = l.joins.items ++ in_a_row (map (new_joins l.hubs) (drop l.input-index l.inputs)) ≡ l.initial.joins.items ++ in_a_row (map (new_joins l.hubs) l.inputs)
