-- What a request and a cancel change.
use Rattle.rsx_sources.specs.declared.machine.Machine.{Ghosts as Machine}
use Rattle.std.specs.Prelude.{◌≡◌, ℕ, ℤ, pos, negsuc, zero, suc, false, [], map}
use Rattle.rsx_demand.specs.Demand.{saturating_total}
use Rattle.rsx_tree.specs.Edges.{EdgeView, edge_view, closed_view}
use Rattle.rsx_pipe.specs.Part.{all_edges}
use Rattle.rsx_pipe.specs.Tree.{notes_of}
use Rattle.rsx_subscription.specs.declared.State.{State}
use Rattle.rsx_subscription.specs.declared.State.TheVariants.{Cancelled as CancelledState, Failed as FailedState}
use Rattle.rsx_subscriber.specs.declared.state.SubscriptionState.{SubscriptionState}
use Rattle.rsx_subscriber.specs.declared.state.SubscriptionState.TheVariants.{Open, Ended, Cancelled, Refused}
use Rattle.rsx_subscriber.specs.declared.subscription.Subscription.{Subscription}

-- an edge of which so many items more were asked, at most 2^63-1 in all
abbrev pub raised : ℕ → EdgeView → EdgeView
raised n e = record { asked = saturating_total e.asked n; sent = e.sent; state = e.state }

-- so many items more were asked for, over the root edge and in the subscriber's own demand, and nothing else changed
pub record IsRaised {M T : Type 0} (old : Subscription M T) (n : ℕ) (new : Subscription M T) : Type 0 where
  pub root : edge_view new.part.root ≡ raised n (edge_view old.part.root)
  pub tree : new.part.tree ≡ old.part.tree
  pub queue : new.queue ≡ old.queue
  pub state : new.state ≡ old.state
  pub live : new.live ≡ old.live
  pub requested : new.demand.asked ≡ saturating_total old.demand.asked n
  pub delivered : new.demand.sent ≡ old.demand.sent

-- the subscriber is gone, and stands so in the table: each edge on which signals still went is closed, and nothing is queued;
-- what was asked and sent over each edge stays, and so do the subscriber's demand and what the nodes recorded
pub record IsShut {M T : Type 0} (mc : Machine M T) (old : Subscription M T) (stands : State) (new : Subscription M T) : Type 0 where
  pub edges : all_edges new.part ≡ map closed_view (all_edges old.part)
  pub notes : notes_of mc new.part.tree ≡ notes_of mc old.part.tree
  pub queue : new.queue ≡ []
  pub state : new.state ≡ stands
  pub live : new.live ≡ false
  pub requested : new.demand.asked ≡ old.demand.asked
  pub delivered : new.demand.sent ≡ old.demand.sent

-- what a request of n changes in a subscription that stands so: nothing, unless it is open
abbrev pub IsRequested : {M T : Type 0} → Machine M T → SubscriptionState → ℤ → Subscription M T → Subscription M T → Type 0
IsRequested mc Open (pos zero) old new = IsShut mc old FailedState new
IsRequested mc Open (pos (suc n)) old new = IsRaised old (suc n) new
IsRequested mc Open (negsuc n) old new = IsShut mc old FailedState new
IsRequested mc Ended n old new = new ≡ old
IsRequested mc Cancelled n old new = new ≡ old
IsRequested mc Refused n old new = new ≡ old

-- what a cancel changes in a subscription that stands so: nothing, unless it is open
abbrev pub IsCancelled : {M T : Type 0} → Machine M T → SubscriptionState → Subscription M T → Subscription M T → Type 0
IsCancelled mc Open old new = IsShut mc old CancelledState new
IsCancelled mc Ended old new = new ≡ old
IsCancelled mc Cancelled old new = new ≡ old
IsCancelled mc Refused old new = new ≡ old
