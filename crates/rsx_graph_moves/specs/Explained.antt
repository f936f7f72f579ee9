-- What a subscriber waits for.
use Rattle.std.specs.Prelude.{◌≡◌, ℕ, ◌<◌, Bool, true, false, List, Some, slice_get, length}
use Rattle.rsx_sources.specs.Prelude.{Meaning, Stream, Sub, SubId}
use Rattle.rsx_sources.specs.declared.machine.Machine.{Ghosts as Machine}
use Rattle.rsx_rooted.specs.declared.nodes.Nodes.{Ghosts as Nodes}
use Rattle.rsx_types.specs.declared.names.HubId.{HubId}
use Rattle.rsx_types.specs.declared.names.NodeId.{NodeId}
use Rattle.rsx_subscriber.specs.Prelude.{IsAwake, IsQuiet, IsWithin, Past, Stands, standing_of, tree_of}
use Rattle.rsx_subscriber.specs.declared.state.SubscriptionState.TheVariants as state
use Rattle.rsx_graph_state.specs.Prelude.{Rows, Subscription}
use Rattle.rsx_graph_moves.specs.Moves.{is_enabled}
use Rattle.rsx_graph_moves.specs.Hubs.{IsHubWait}
use Rattle.rsx_graph_moves.specs.Waiting.{Waits}
use Rattle.rsx_waits.specs.declared.wait.HubWait.{HubWait}
use Rattle.rsx_waits.specs.declared.wait.HubWait.TheVariants as hub_wait
use Rattle.rsx_waits.specs.declared.wait.Wait.{Wait}
use Rattle.rsx_waits.specs.declared.wait.Wait.TheVariants.{Ended, Cancelled, Refused, Enabled, Request, Hub, Unknown}

-- an open subscription none of whose moves is enabled
pub record IsIdleOpen {M T : Type 0} (mc : Machine M T) (m : Meaning T) (s : Subscription M T) : Type 0 where
  pub open_still : standing_of s ≡ state.Open
  pub quiet : IsQuiet mc m s

-- its subscriber asked for so many items, and received as many
pub record AwaitsRequest {M T : Type 0} (mc : Machine M T) (m : Meaning T) (s : Subscription M T) (count : ℕ) : Type 0 where
  pub idle : IsIdleOpen mc m s
  pub asked : s.demand.asked ≡ count
  pub received : s.demand.sent ≡ count

-- its subscriber asked for more than it received, this node of its tree waits for this hub, and this is why nothing comes from there
pub record AwaitsHub {M T : Type 0} (mc : Machine M T) (kd : Nodes M T) (m : Meaning T) (g : Rows M T) (s : Subscription M T) (node : NodeId) (hub : HubId) (wait : HubWait) : Type 0 where
  pub idle : IsIdleOpen mc m s
  pub more : s.demand.sent < s.demand.asked
  pub leaf : Waits mc s.part.root s.part.tree node.0 hub.0
  pub why : IsHubWait mc kd m g hub wait

-- its subscriber asked for more than it received, and some edge of its tree has carried 2^63-1 items, where the subscription stands
-- for a past over the hubs that there are
pub record IsUnknown {M T : Type 0} (mc : Machine M T) (m : Meaning T) (g : Rows M T) (s : Subscription M T) : Type 0 where
  pub idle : IsIdleOpen mc m s
  pub more : s.demand.sent < s.demand.asked
  pub never : (published : List (Stream T)) (past : Past T) → length published ≡ length g.hubs → Stands mc m published s past → IsWithin s.part.tree → ⊥

-- this is what the subscriber of the subscription `i` waits for
abbrev pub IsWaitOf : {M T : Type 0} → Machine M T → Nodes M T → Meaning T → Rows M T → SubId → Subscription M T → Wait → Type 0
IsWaitOf mc kd m g i s Ended = standing_of s ≡ state.Ended
IsWaitOf mc kd m g i s Cancelled = standing_of s ≡ state.Cancelled
IsWaitOf mc kd m g i s Refused = standing_of s ≡ state.Refused
IsWaitOf mc kd m g i s (Enabled move) = (standing_of s ≡ state.Open) × IsAwake mc m s × (tree_of move ≡ Sub i) × (is_enabled mc kd m g move ≡ true)
IsWaitOf mc kd m g i s (Request count) = AwaitsRequest mc m s count
IsWaitOf mc kd m g i s (Hub node hub why) = AwaitsHub mc kd m g s node hub why
IsWaitOf mc kd m g i s Unknown = IsUnknown mc m g s

-- the subscription with this number is there, and this is what its subscriber waits for
pub record IsWait {M T : Type 0} (mc : Machine M T) (kd : Nodes M T) (m : Meaning T) (g : Rows M T) (i : SubId) (answer : Wait) : Type 0 where
  pub sub : Subscription M T
  pub there : slice_get g.subs i.0 ≡ Some sub
  pub wait : IsWaitOf mc kd m g i sub answer

-- whether it is the pump alone for which it waits: some move is enabled
abbrev pub is_for_pump : Wait → Bool
is_for_pump (Enabled move) = true
is_for_pump (Hub node hub (hub_wait.Enabled move)) = true
is_for_pump _ = false
