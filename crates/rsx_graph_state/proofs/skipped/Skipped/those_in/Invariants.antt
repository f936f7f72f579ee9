use Rattle.std.proofs.Common.{ℕ, ◌-◌, ◌<◌, ◌≤◌}
use Rattle.rsx_graph_state.specs.SubscriptionSet.{IsIn}
use Rattle.rsx_graph_state.proofs.skipped.Skipped.those_in.Given as goal

abbrev pub invariant-others : goal.invariant-others
invariant-others l = record {
  before : (i : ℕ) → i < l.first → IsIn l.set i;
  between : (i : ℕ) → l.end ≤ i → i < l.at → IsIn l.set i;
}

abbrev pub decreases-others : goal.decreases-others
decreases-others l = l.count - l.at
