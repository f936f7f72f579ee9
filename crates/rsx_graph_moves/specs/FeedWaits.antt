-- What the feed of a hub waits for.
use Rattle.std.specs.Prelude.{◌≡◌, ℕ, ◌<◌, ◌≤◌, Bool, true, false, List, Some, slice_get, length}
use Rattle.rsx_sources.specs.Prelude.{Meaning, Stream, Feed as FeedOf}
use Rattle.rsx_sources.specs.declared.machine.Machine.{Ghosts as Machine}
use Rattle.rsx_rooted.specs.declared.nodes.Nodes.{Ghosts as Nodes}
use Rattle.rsx_types.specs.declared.names.HubId.{HubId}
use Rattle.rsx_types.specs.declared.names.NodeId.{NodeId}
use Rattle.rsx_tree.specs.declared.edge.EdgeState.TheVariants as edge
use Rattle.rsx_subscriber.specs.Prelude.{IsNumbered, IsQuietInside, IsWithin, MOST_NODES, all_edges, next_out, tree_of}
use Rattle.rsx_graph_state.specs.Prelude.{HubPast, HubState, HubStands, MOST_ACCEPTED, Rows, feed_of, takes_next}
use Rattle.rsx_graph_state.specs.declared.feed.Feed.{Feed}
use Rattle.rsx_graph_moves.specs.Moves.{is_enabled}
use Rattle.rsx_graph_moves.specs.Hubs.{IsHeldBy, IsHubWait}
use Rattle.rsx_graph_moves.specs.Waiting.{Waits}
use Rattle.rsx_waits.specs.declared.wait.FeedWait.{FeedWait}
use Rattle.rsx_waits.specs.declared.wait.FeedWait.TheVariants.{Ended, Enabled, HeldBy, Hub, Unknown}
use Rattle.rsx_waits.specs.declared.wait.HubWait.{HubWait}
use Rattle.rsx_waits.specs.declared.wait.HubWait.TheVariants as hub_wait

-- no move inside a feed is enabled, and its root edge carries nothing that its hub takes in, whatever room there is
pub record IsSilent {M T : Type 0} (mc : Machine M T) (m : Meaning T) (f : Feed M) (hub : HubState T) : Type 0 where
  pub quiet : IsQuietInside mc m f.part
  pub nothing : takes_next (next_out mc m f.part) hub true ≡ false

-- no edge of a feed has carried 2^63-1 items, and it has no more nodes, each with its edge, than an expression may have
pub record IsFeedBounded {M : Type 0} (f : Feed M) : Type 0 where
  pub fewer : f.part.root.demand.sent < MOST_ACCEPTED
  pub within : IsWithin f.part.tree
  pub few : length (all_edges f.part) ≤ MOST_NODES

-- such a feed, of which this node waits for this hub, and this is why nothing comes from there
pub record FeedAwaitsHub {M T : Type 0} (mc : Machine M T) (kd : Nodes M T) (m : Meaning T) (g : Rows M T) (f : Feed M) (hub : HubState T) (node : NodeId) (source : HubId) (wait : HubWait) : Type 0 where
  pub silent : IsSilent mc m f hub
  pub leaf : Waits mc f.part.root f.part.tree node.0 source.0
  pub why : IsHubWait mc kd m g source wait

-- such a feed, some edge of which has carried 2^63-1 items, where its hub stands for what has happened there
pub record IsFeedUnknown {M T : Type 0} (mc : Machine M T) (m : Meaning T) (g : Rows M T) (h : ℕ) (f : Feed M) (hub : HubState T) : Type 0 where
  pub silent : IsSilent mc m f hub
  pub never : (taken : List (Stream T)) (v : Stream T) (past : HubPast T) → length taken ≡ length g.hubs → slice_get taken h ≡ Some v → HubStands mc m g.feeds taken h v hub past → IsFeedBounded f → ⊥

-- this is what the feed of the hub `h` waits for
abbrev pub IsFeedWaitOf : {M T : Type 0} → Machine M T → Nodes M T → Meaning T → Rows M T → HubId → Feed M → HubState T → FeedWait → Type 0
IsFeedWaitOf mc kd m g h f hub Ended = f.part.root.state ≡ edge.Ended
IsFeedWaitOf mc kd m g h f hub (Enabled move) = IsNumbered move × (tree_of move ≡ FeedOf h) × (is_enabled mc kd m g move ≡ true)
IsFeedWaitOf mc kd m g h f hub (HeldBy tree) = IsHeldBy mc m g h.0 hub tree
IsFeedWaitOf mc kd m g h f hub (Hub node source why) = FeedAwaitsHub mc kd m g f hub node source why
IsFeedWaitOf mc kd m g h f hub Unknown = IsFeedUnknown mc m g h.0 f hub

-- the hub with this number is there and has a feed, and this is what the feed waits for
pub record IsFeedWait {M T : Type 0} (mc : Machine M T) (kd : Nodes M T) (m : Meaning T) (g : Rows M T) (h : HubId) (answer : FeedWait) : Type 0 where
  pub hub : HubState T
  pub there : slice_get g.hubs h.0 ≡ Some hub
  pub feed : Feed M
  pub fed : feed_of g.feeds h.0 ≡ Some feed
  pub wait : IsFeedWaitOf mc kd m g h feed hub answer

-- whether it is the pump alone for which it waits: some move is enabled
abbrev pub is_feed_for_pump : FeedWait → Bool
is_feed_for_pump (Enabled move) = true
is_feed_for_pump (Hub node source (hub_wait.Enabled move)) = true
is_feed_for_pump _ = false
