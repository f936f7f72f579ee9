use Rattle.std.proofs.Common.{◌≡◌, ◌<◌, ℕ, Some, slice_get}
use Rattle.rsx_graph_state.specs.SubscriptionSet.{IsIn}
use Rattle.rsx_graph_state.specs.declared.subscription_set.SubscriptionSet.{SubscriptionSet}
use Rattle.rsx_graph_moves.proofs.IdleSets.{WasFound}
use Rattle.rsx_graph_moves.proofs.idle_set.IdleSet.forget_moved.Given as goal

abbrev pub invariant-loop-at : goal.invariant-loop-at
invariant-loop-at l = record {
  idle : l.self.idle ≡ l.fn.self.idle;
  moved : l.self.moved ≡ l.fn.self.moved;
  known : l.self.known ≡ l.fn.self.known;
  found : (h i : ℕ) (now : SubscriptionSet) → slice_get l.self.apart h ≡ Some now → IsIn now i → WasFound l.fn.self.apart h i;
  forgot : (h i : ℕ) (now : SubscriptionSet) → h < l.at → slice_get l.self.apart h ≡ Some now → IsIn now i → IsIn l.moved i → ⊥;
}
