use Rattle.std.proofs.Common.{◌≡◌, ℕ, ◌<◌, false}
use Rattle.rsx_merging.specs.Merge.{merge_picks}
use Rattle.rsx_merging.proofs.merge_node.MergeNodeMachine.next_pick.Given as goal

abbrev pub invariant-loop-at : goal.invariant-loop-at
invariant-loop-at g l = (i : ℕ) → i < l.at → merge_picks l.self i l.asked l.sent ≡ false
