-- Why nothing comes from a hub.
use Rattle.std.specs.Prelude.{◌≡◌, ℕ, true, false, List, Option, Some, None, slice_get}
use Rattle.rsx_types.specs.declared.names.HubId.{HubId}
use Rattle.rsx_sources.specs.Prelude.{Meaning, Signal, Next, Tree, Sub, Feed as FeedOf}
use Rattle.rsx_sources.specs.declared.machine.Machine.{Ghosts as Machine}
use Rattle.rsx_rooted.specs.declared.nodes.Nodes.{Ghosts as Nodes}
use Rattle.rsx_pipe.specs.Published.{has_room_for}
use Rattle.rsx_subscriber.specs.Prelude.{IsNumbered, IsQuietInside, next_out, tree_of}
use Rattle.rsx_graph_state.specs.Prelude.{HubState, Rows, Subscription, feed_of, has_room_at, takes_next, waiting}
use Rattle.rsx_graph_state.specs.declared.feed.Feed.{Feed}
use Rattle.rsx_graph_moves.specs.Moves.{is_enabled}
use Rattle.rsx_waits.specs.declared.wait.HubWait.{HubWait}
use Rattle.rsx_waits.specs.declared.wait.HubWait.TheVariants.{Nothing, Feed as OfFeed, Enabled, HeldBy}

-- ---- no room for an item

-- some node of the feed of this hub reads the hub with the number `h`, and has no room for an item of it
pub record IsFullFeed {M T : Type 0} (mc : Machine M T) (feeds : List (Feed M)) (h fed : ℕ) : Type 0 where
  pub at : ℕ
  pub feed : Feed M
  pub there : slice_get feeds at ≡ Some feed
  pub named : feed.hub ≡ fed
  pub full : has_room_at mc h feed ≡ false

-- the same of this subscription
pub record IsFullSub {M T : Type 0} (mc : Machine M T) (subs : List (Subscription M T)) (h i : ℕ) : Type 0 where
  pub sub : Subscription M T
  pub there : slice_get subs i ≡ Some sub
  pub full : has_room_for mc h sub.part ≡ false

-- the same of this tree
abbrev pub IsFull : {M T : Type 0} → Machine M T → List (Feed M) → List (Subscription M T) → ℕ → Tree → Type 0
IsFull mc feeds subs h (Sub i) = IsFullSub mc subs h i.0
IsFull mc feeds subs h (FeedOf k) = IsFullFeed mc feeds h k.0

-- ---- a hub

-- the signal that waits in front of a hub, at the root of its feed or in its inbox
abbrev pub next_in : {M T : Type 0} → Machine M T → Meaning T → Option (Feed M) → HubState T → Option (Signal T)
next_in mc m None hub = waiting hub
next_in mc m (Some f) hub = next_out mc m f.part

-- an item waits in front of a hub, and some node of this tree, which reads the hub, has no room for it
pub record IsHeldBy {M T : Type 0} (mc : Machine M T) (m : Meaning T) (g : Rows M T) (h : ℕ) (hub : HubState T) (tree : Tree) : Type 0 where
  pub item : T
  pub waits : next_in mc m (feed_of g.feeds h) hub ≡ Some (Next item)
  pub full : IsFull mc g.feeds g.subs h tree

-- a hub has a feed, no move of which is enabled, and the feed's root edge carries nothing that the hub takes in, whatever room there is
pub record IsFeedSilent {M T : Type 0} (mc : Machine M T) (m : Meaning T) (g : Rows M T) (h : ℕ) (hub : HubState T) : Type 0 where
  pub feed : Feed M
  pub fed : feed_of g.feeds h ≡ Some feed
  pub quiet : IsQuietInside mc m feed.part
  pub nothing : takes_next (next_out mc m feed.part) hub true ≡ false

-- this is why nothing comes from the hub
abbrev pub IsWhy : {M T : Type 0} → Machine M T → Nodes M T → Meaning T → Rows M T → HubId → HubState T → HubWait → Type 0
IsWhy mc kd m g h hub Nothing = (feed_of g.feeds h.0 ≡ None) × (waiting hub ≡ None)
IsWhy mc kd m g h hub OfFeed = IsFeedSilent mc m g h.0 hub
IsWhy mc kd m g h hub (Enabled move) = IsNumbered move × (tree_of move ≡ FeedOf h) × (is_enabled mc kd m g move ≡ true)
IsWhy mc kd m g h hub (HeldBy tree) = IsHeldBy mc m g h.0 hub tree

-- the hub with this number is there, and this is why nothing comes from it
pub record IsHubWait {M T : Type 0} (mc : Machine M T) (kd : Nodes M T) (m : Meaning T) (g : Rows M T) (h : HubId) (wait : HubWait) : Type 0 where
  pub hub : HubState T
  pub there : slice_get g.hubs h.0 ≡ Some hub
  pub why : IsWhy mc kd m g h hub wait
