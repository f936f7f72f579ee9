-- What the hubs, feeds and subscriptions of a graph stand for.
use Rattle.rsx_sources.specs.declared.machine.Machine.{Ghosts as Machine}
use Rattle.std.specs.Prelude.{◌≡◌, ℕ, suc, true, false, nat_eq, if◌then◌else◌, List, [], ◌∷◌, length, Option, Some, None, option_map, slice_get}
use Rattle.rsx_hub.specs.Hub.{HubState, hub_value}
use Rattle.rsx_graph_state.specs.Subscriptions.{AllStand}
use Rattle.rsx_subscriber.specs.Prelude.{Expr, IsTaken}
use Rattle.rsx_graph_state.specs.Feeds.{FeedStands}
use Rattle.rsx_graph_state.specs.declared.feed.Feed.{Feed}
use Rattle.rsx_subscriber.specs.declared.subscription.Subscription.{Subscription}
use Rattle.rsx_sources.specs.Prelude.{Meaning, Stream, Open}
use Rattle.rsx_graph_state.specs.History.{History, HubPast, Source, emitted, fed}

-- the hubs, the feeds and the subscriptions of a graph
pub record Rows (M T : Type 0) : Type 0 where
  pub hubs : List (HubState T)
  pub feeds : List (Feed M)
  pub subs : List (Subscription M T)

-- where among the feeds that of the hub with this number stands, if the hub has one
abbrev pub place_of : {M : Type 0} → List (Feed M) → ℕ → Option ℕ
place_of [] h = None
place_of (f ∷ fs) h = if nat_eq f.hub h then Some 0 else option_map suc (place_of fs h)

-- that feed
abbrev pub feed_of : {M : Type 0} → List (Feed M) → ℕ → Option (Feed M)
feed_of [] h = None
feed_of (f ∷ fs) h = if nat_eq f.hub h then Some f else feed_of fs h

-- the hub with this number is fed by this expression, where the hubs took in `taken`: nothing waits in front of it
pub record IsFedBy {M T : Type 0} (mc : Machine M T) (m : Meaning T) (feeds : List (Feed M)) (taken : List (Stream T)) (i : ℕ) (s : HubState T) (e : Expr T) (joins : List ℕ) : Type 0 where
  pub feed : Feed M
  pub there : feed_of feeds i ≡ Some feed
  pub stands : FeedStands mc m taken feed e joins
  pub empty : s.inbox ≡ []
  pub unended : s.has_ended ≡ false → s.ending ≡ Open

-- a hub that took in v stands for what it publishes: with an emitter, v is the beginning of that, and the rest waits in its inbox
abbrev pub SourceStands : {M T : Type 0} → Machine M T → Meaning T → List (Feed M) → List (Stream T) → ℕ → Stream T → HubState T → Source T → Type 0
SourceStands mc m feeds taken i v s (emitted w) = (feed_of feeds i ≡ None) × (w ≡ hub_value s v.items)
SourceStands mc m feeds taken i v s (fed e joins) = IsFedBy mc m feeds taken i s e joins

-- the hub with this number stands for what has happened there
pub record HubStands {M T : Type 0} (mc : Machine M T) (m : Meaning T) (feeds : List (Feed M)) (taken : List (Stream T)) (i : ℕ) (v : Stream T) (s : HubState T) (p : HubPast T) : Type 0 where
  pub kind : s.kind ≡ p.kind
  pub count : s.count ≡ p.count
  pub taken_in : IsTaken s v
  pub ended : s.has_ended ≡ true → s.inbox ≡ []
  pub source : SourceStands mc m feeds taken i v s p.source

abbrev pub HubsStand : {M T : Type 0} → Machine M T → Meaning T → Rows M T → List (Stream T) → List (HubPast T) → Type 0
HubsStand {M} {T} mc m g taken ps =
    (i : ℕ) (v : Stream T) (s : HubState T) (p : HubPast T) → slice_get taken i ≡ Some v → slice_get g.hubs i ≡ Some s → slice_get ps i ≡ Some p → HubStands mc m g.feeds taken i v s p

-- a graph stands for a history
pub record StandsFor {M T : Type 0} (mc : Machine M T) (m : Meaning T) (g : Rows M T) (h : History T) : Type 0 where
  -- what each hub took in, and handed to its readers
  pub taken : List (Stream T)
  pub many : length g.hubs ≡ length h.hubs
  pub each : length taken ≡ length h.hubs
  pub hub : HubsStand mc m g taken h.hubs
  -- each subscription stands for its past, where the hubs published what they took in
  pub all : AllStand mc m taken g.subs h.pasts
