use Rattle.std.proofs.Common.{ℕ, ◌-◌, ◌<◌, ◌≤◌}
use Rattle.rsx_graph_state.specs.SubscriptionSet.{IsIn}
use Rattle.rsx_graph_state.proofs.subscription_set.SubscriptionSet.next_outside.Given as goal

abbrev pub invariant-words : goal.invariant-words
invariant-words l = record {
  above : l.fn.from ≤ l.at;
  first : (i : ℕ) → l.fn.from ≤ i → i < l.at → IsIn l.self i;
}

abbrev pub decreases-words : goal.decreases-words
decreases-words l = 256 - l.at
