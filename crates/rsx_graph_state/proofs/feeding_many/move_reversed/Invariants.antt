use Rattle.std.proofs.Common.{◌≡◌, ◌+◌, ◌≤◌, ◌++◌, length, reverse, vec_len, vec_capacity}
use Rattle.rsx_graph_state.proofs.feeding_many.move_reversed.Given as goal

abbrev pub decreases-loop-item : goal.decreases-loop-item
decreases-loop-item g l = length l.from.items

abbrev pub invariant-loop-item : goal.invariant-loop-item
invariant-loop-item g l = record {
  moved : l.items.items ++ reverse l.from.items ≡ l.initial.items.items ++ reverse l.initial.from.items;
  fits : vec_len l.items + length l.from.items ≤ vec_capacity l.items;
}
