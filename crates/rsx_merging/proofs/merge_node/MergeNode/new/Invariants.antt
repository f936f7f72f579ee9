use Rattle.std.proofs.Common.{◌≡◌}
use Rattle.std.proofs.Math.ListN.{replicate}
use Rattle.rsx_queued.specs.Input.{fresh_input}
use Rattle.rsx_merging.proofs.merge_node.MergeNode.new.Given as goal

abbrev pub invariant-loop : goal.invariant-loop
invariant-loop g l = l.row.items ≡ replicate l.counter (fresh_input l.capacity)
