-- The moves of a graph with feeds: when each is enabled, and what it changes.
use Rattle.rsx_sources.specs.declared.machine.Machine.{Ghosts as Machine}
use Rattle.std.specs.Prelude.{◌≡◌, ℕ, Bool, true, false, ◌&&◌, nat_eq, if◌then◌else◌, List, Option, Some, None, is_some, is_none, option_and_then, slice_get, set}
use Rattle.rsx_graph_state.specs.declared.refusal.Refusal.{Refusal}
use Rattle.rsx_graph_state.specs.declared.refusal.Refusal.TheVariants.{UnknownHub, NotEnabled, NoMemory}
use Rattle.rsx_hub.specs.Hub.{HubState}
use Rattle.rsx_subscriber.specs.Prelude.{IsMadeInside, inside_enabled, next_out, NodeMove, Ask as NodeAsk, Send as NodeSend, Pick as NodePick, Row as NodeRow}
use Rattle.rsx_pipe.specs.Part.{IsAlone, Part, make_allocates}
use Rattle.rsx_graph_state.specs.Publishing.{IsAccepted, can_accept}
use Rattle.rsx_graph_state.specs.Sending.{IsFed, can_feed}
use Rattle.rsx_graph_state.specs.declared.feed.Feed.{Feed}
use Rattle.rsx_subscriber.specs.declared.subscription.Subscription.{Subscription}
use Rattle.rsx_sources.specs.Prelude.{Meaning, Allocates, Signal}
use Rattle.rsx_graph_state.specs.History.{History, with_sent}
use Rattle.rsx_graph_state.specs.Stands.{Rows, feed_of, place_of}

-- the rows of a graph
abbrev pub rows_of : {M T : Type 0} → List (HubState T) → List (Feed M) → List (Subscription M T) → Rows M T
rows_of hubs feeds subs = record { hubs = hubs; feeds = feeds; subs = subs }

-- ---- moves of feeds

-- the hub with this number is there and has a feed
abbrev pub has_feed : {M T : Type 0} → Rows M T → ℕ → Bool
has_feed g h = is_some (slice_get g.hubs h) && is_some (feed_of g.feeds h)

-- the Send over the root edge, by which a signal goes straight into the hub
abbrev pub is_out : NodeMove → Bool
is_out (NodeAsk n) = false
is_out (NodeSend n) = nat_eq n 0
is_out (NodePick n i) = false
is_out (NodeRow n) = false

-- whether that is enabled for the feed of the hub with this number: the feed has a signal, the hub takes it in, and for an item
-- all nodes that read the hub have room
abbrev pub sends_where : {M T : Type 0} → Machine M T → Meaning T → Rows M T → Option (HubState T) → Option (Feed M) → Bool
sends_where mc m g None f = false
sends_where mc m g (Some hub) None = false
sends_where mc m g (Some hub) (Some f) = can_feed mc m f hub g.feeds g.subs

abbrev pub sends : {M T : Type 0} → Machine M T → Meaning T → Rows M T → ℕ → Bool
sends mc m g h = sends_where mc m g (slice_get g.hubs h) (feed_of g.feeds h)

-- whether another move is enabled, inside the feed
abbrev pub works_where : {M T : Type 0} → Machine M T → Meaning T → Option (Feed M) → NodeMove → Bool
works_where mc m None step = false
works_where mc m (Some f) step = inside_enabled mc m f.part step

abbrev pub works : {M T : Type 0} → Machine M T → Meaning T → List (Feed M) → ℕ → NodeMove → Bool
works mc m feeds h step = works_where mc m (feed_of feeds h) step

-- whether a move of the feed of the hub with this number is enabled
abbrev pub feed_enabled : {M T : Type 0} → Machine M T → Meaning T → Rows M T → ℕ → NodeMove → Bool
feed_enabled mc m g h step = has_feed g h && (if is_out step then sends mc m g h else works mc m g.feeds h step)

-- whether such a move may allocate, where these of the caller's functions may: the Send into the hub always may, since it makes
-- copies for the nodes that read the hub
abbrev pub allocates_inside : {M T : Type 0} → Machine M T → Allocates → Option (Feed M) → NodeMove → Bool
allocates_inside mc a None step = false
allocates_inside mc a (Some f) step = make_allocates mc a f.part step

abbrev pub feed_allocates : {M T : Type 0} → Machine M T → Allocates → List (Feed M) → ℕ → NodeMove → Bool
feed_allocates mc a feeds h step = if is_out step then true else allocates_inside mc a (feed_of feeds h) step

-- why such a move is refused: a hub that isn't there or has no feed first, then a move that isn't enabled, and memory last
abbrev pub IsFeedRefusal : Bool → Bool → Refusal → Type 0
IsFeedRefusal known enabled UnknownHub = known ≡ false
IsFeedRefusal known enabled NotEnabled = (known ≡ true) × (enabled ≡ false)
IsFeedRefusal known enabled NoMemory = (known ≡ true) × (enabled ≡ true)
IsFeedRefusal known enabled r = ⊥

-- the feed of the hub with this number sent its next signal into the hub, and all nodes that read the hub got it
pub record IsFedAt {M T : Type 0} (mc : Machine M T) (m : Meaning T) (h : ℕ) (old new : Rows M T) : Type 0 where
  pub hub : HubState T
  pub after : HubState T
  pub at : ℕ
  pub there : slice_get old.hubs h ≡ Some hub
  pub place : place_of old.feeds h ≡ Some at
  pub others : new.hubs ≡ set old.hubs h after
  pub effect : IsFed mc m at hub after old.feeds new.feeds old.subs new.subs

-- a move was made inside the feed of the hub with this number, and no other feed changed
pub record IsWorkedAt {M T : Type 0} (mc : Machine M T) (m : Meaning T) (step : NodeMove) (h : ℕ) (feeds news : List (Feed M)) : Type 0 where
  pub feed : Feed M
  pub part : Part M
  pub at : ℕ
  pub place : place_of feeds h ≡ Some at
  pub there : slice_get feeds at ≡ Some feed
  pub effect : IsMadeInside mc m step feed.part part
  pub others : news ≡ set feeds at (record { part = part; hub = feed.hub })

-- What a call that makes just this move inside the feed of the hub with this number says of that feed besides: no step of a node was made
-- besides. A signal that goes into the hub is only taken out of the feed, and each node that reads the hub is what it says of that signal.
abbrev pub IsAloneInFeed : {M T : Type 0} → Machine M T → Meaning T → NodeMove → ℕ → List (Feed M) → List (Feed M) → Type 0
IsAloneInFeed {M} mc m step h feeds news =
    (at : ℕ) (old new : Feed M) → place_of feeds h ≡ Some at → slice_get feeds at ≡ Some old → slice_get news at ≡ Some new → IsAlone mc m step old.part new.part

-- and nothing else did
pub record IsMadeInFeed {M T : Type 0} (mc : Machine M T) (m : Meaning T) (step : NodeMove) (h : ℕ) (old new : Rows M T) : Type 0 where
  pub made : IsWorkedAt mc m step h old.feeds new.feeds
  pub hubs : new.hubs ≡ old.hubs
  pub subs : new.subs ≡ old.subs

-- what a move of a feed changes
abbrev pub IsMovedBy : {M T : Type 0} → Machine M T → Meaning T → NodeMove → Bool → ℕ → Rows M T → Rows M T → Type 0
IsMovedBy mc m step true h old new = IsFedAt mc m h old new
IsMovedBy mc m step false h old new = IsMadeInFeed mc m step h old new

abbrev pub IsFeedMoved : {M T : Type 0} → Machine M T → Meaning T → NodeMove → ℕ → Rows M T → Rows M T → Type 0
IsFeedMoved mc m step h old new = IsMovedBy mc m step (is_out step) h old new

-- the signal that the feed of the hub with this number would send into it now
abbrev pub next_sent : {M T : Type 0} → Machine M T → Meaning T → Rows M T → ℕ → Option (Signal T)
next_sent mc m g h = option_and_then (λ f. next_out mc m f.part) (feed_of g.feeds h)

-- what goes into the hub by a move of its feed
abbrev pub sent_by : {M T : Type 0} → Machine M T → Meaning T → Rows M T → NodeMove → ℕ → Option (Signal T)
sent_by mc m g step h = if is_out step then next_sent mc m g h else None

-- what has happened by it
abbrev pub with_feed_moved : {M T : Type 0} → Machine M T → Meaning T → Rows M T → NodeMove → ℕ → History T → History T
with_feed_moved mc m g step i h = with_sent (sent_by mc m g step i) i h

-- ---- hubs with emitters

abbrev pub accepts_in : {M T : Type 0} → Machine M T → Rows M T → Option (HubState T) → ℕ → Bool
accepts_in mc g None h = false
accepts_in mc g (Some hub) h = is_none (feed_of g.feeds h) && can_accept mc h hub g.feeds g.subs

-- whether the hub with this number can take its next signal in: one waits, the hub has no feed, and for an item all nodes that
-- read the hub have room
abbrev pub accepts_at : {M T : Type 0} → Machine M T → Rows M T → ℕ → Bool
accepts_at mc g h = accepts_in mc g (slice_get g.hubs h) h

-- it took that signal in, which all nodes got that read it, and nothing else changed
pub record IsAcceptedAt {M T : Type 0} (mc : Machine M T) (h : ℕ) (old new : Rows M T) : Type 0 where
  pub hub : HubState T
  pub after : HubState T
  pub there : slice_get old.hubs h ≡ Some hub
  pub unfed : feed_of old.feeds h ≡ None
  pub others : new.hubs ≡ set old.hubs h after
  pub effect : IsAccepted mc h hub after old.feeds new.feeds old.subs new.subs
