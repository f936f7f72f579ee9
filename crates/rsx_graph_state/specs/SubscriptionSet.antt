-- Sets of numbers of subscriptions, and which subscriptions a walk skips.
use Rattle.rsx_sources.specs.declared.machine.Machine.{Ghosts as Machine}
use Rattle.std.specs.Prelude.{◌≡◌, ℕ, ◌+◌, ◌/◌, ◌%◌, ◌^◌, ◌<◌, ◌≤◌, ◌⊎◌, List, Some, slice_get, slice_index}
use Rattle.std.specs.Int.{bit_at}
use Rattle.rsx_pipe.specs.Published.{readers}
use Rattle.rsx_subscriber.specs.declared.subscription.Subscription.{Subscription}
use Rattle.rsx_graph_state.specs.declared.skipped.Skipped.{Skipped}
use Rattle.rsx_graph_state.specs.declared.subscription_set.TheConstants.{MOST_IN_SET}
use Rattle.rsx_graph_state.specs.declared.subscription_set.SubscriptionSet.{SubscriptionSet}

-- the number is in the set
unfoldable pub IsIn : SubscriptionSet → ℕ → Type 0
IsIn set i = (i < MOST_IN_SET) × (bit_at (slice_index set.words (i / 64)) (i % 64) ≡ 1)

-- none is
abbrev pub IsEmpty : SubscriptionSet → Type 0
IsEmpty set = (i : ℕ) → IsIn set i → ⊥

-- a walk skips the subscription with this number
unfoldable pub IsSkipped : Skipped → ℕ → Type 0
IsSkipped k i = (i < k.first) ⊎ (((k.end ≤ i) × (k.end + 1 < 2 ^ 64)) ⊎ IsIn k.set i)

-- none of those that are skipped has a node that reads the hub with this number, and so may take something in of it
unfoldable pub NoneReads : {M T : Type 0} → Machine M T → ℕ → Skipped → List (Subscription M T) → Type 0
NoneReads {M} {T} mc h skipped subs = (i : ℕ) → IsSkipped skipped i → (s : Subscription M T) → slice_get subs i ≡ Some s → readers mc h s.part ≡ 0
