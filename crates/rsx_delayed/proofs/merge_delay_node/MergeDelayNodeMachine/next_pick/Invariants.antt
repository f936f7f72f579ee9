use Rattle.std.proofs.Common.{◌≡◌, ℕ, ◌<◌, false}
use Rattle.rsx_delayed.specs.MergeDelay.{delayed_picks}
use Rattle.rsx_delayed.proofs.merge_delay_node.MergeDelayNodeMachine.next_pick.Given as goal

abbrev pub invariant-loop-at : goal.invariant-loop-at
invariant-loop-at g l = (i : ℕ) → i < l.at → delayed_picks l.self i l.asked l.sent ≡ false
