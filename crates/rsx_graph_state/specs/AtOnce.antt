-- A hub takes in all that waits in its inbox at once, or many items of its feed.
use Rattle.std.specs.Prelude.{◌≡◌, ℕ, ◌+◌, true, List, [], ◌∷◌, length, Some}
use Rattle.rsx_sources.specs.declared.machine.Machine.{Ghosts as Machine}
use Rattle.rsx_types.specs.declared.signal.Signal.TheVariants.{Next}
use Rattle.rsx_sources.specs.Prelude.{Meaning}
use Rattle.rsx_hub.specs.Hub.{AllByOne, AreTakenIn, HubState}
use Rattle.rsx_tree.specs.Runs.{Leads}
use Rattle.rsx_tree.specs.declared.look.NodeMove.{NodeMove}
use Rattle.rsx_pipe.specs.Fetched.{AreFed}
use Rattle.rsx_pipe.specs.Taking.{spaces_for}
use Rattle.rsx_subscriber.specs.declared.subscription.Subscription.{Subscription}
use Rattle.rsx_graph_state.specs.Moves.{IsAcceptedAt, IsFeedMoved, accepts_at, feed_enabled}
use Rattle.rsx_graph_state.specs.Feeds.{spaces_at}
use Rattle.rsx_graph_state.specs.Publishing.{AllFeedsHanded, AllHanded, feeds_have_room, have_room}
use Rattle.rsx_graph_state.specs.Stands.{Rows, feed_of}
use Rattle.rsx_graph_state.specs.declared.feed.Feed.{Feed}

-- all nodes of these subscriptions that read the hub had room for an item of it, and took it in
pub record IsItemHandedToAll {M T : Type 0} (mc : Machine M T) (h : ℕ) (old : List (Subscription M T)) (x : T) (new : List (Subscription M T)) : Type 0 where
  pub room : have_room mc h old ≡ true
  pub handed : AllHanded mc h (Next x) old new

-- all nodes of these feeds that read the hub did
pub record IsItemHandedToFeeds {M T : Type 0} (mc : Machine M T) (h : ℕ) (old : List (Feed M)) (x : T) (new : List (Feed M)) : Type 0 where
  pub room : feeds_have_room mc h old ≡ true
  pub handed : AllFeedsHanded mc h (Next x) old new

-- so many items, which were all that waited, were taken in one after the other, and each was handed to all of these nodes
pub record AreAccepted {M T : Type 0} (mc : Machine M T) (h n : ℕ) (hub hub' : HubState T) (feeds feeds' : List (Feed M)) (old new : List (Subscription M T)) : Type 0 where
  pub items : List T
  pub count : length items ≡ n
  pub taken : AllByOne hub items hub'
  pub fed : Leads (IsItemHandedToFeeds mc h) feeds items feeds'
  pub handed : Leads (IsItemHandedToAll mc h) old items new

-- the least of the numbers of items for which the nodes of these subscriptions have room at once, but at most so many
abbrev pub spaces_of_all : {M T : Type 0} → Machine M T → (M → ℕ) → ℕ → ℕ → List (Subscription M T) → ℕ
spaces_of_all mc spaces h most [] = most
spaces_of_all mc spaces h most (x ∷ xs) = spaces_of_all mc spaces h (spaces_for mc spaces h most x.part) xs

-- the same of the nodes of these feeds
abbrev pub spaces_of_feeds : {M T : Type 0} → Machine M T → (M → ℕ) → ℕ → ℕ → List (Feed M) → ℕ
spaces_of_feeds mc spaces h most [] = most
spaces_of_feeds mc spaces h most (f ∷ fs) = spaces_of_feeds mc spaces h (spaces_at mc spaces h most f) fs

-- an Accept of the hub with this number that was enabled
pub record IsAccept {M T : Type 0} (mc : Machine M T) (h : ℕ) (old new : Rows M T) : Type 0 where
  pub enabled : accepts_at mc old h ≡ true
  pub effect : IsAcceptedAt mc h old new

-- ---- many items of a feed

-- a move of the feed of the hub with this number that was enabled
pub record IsFeedMove {M T : Type 0} (mc : Machine M T) (m : Meaning T) (h : ℕ) (old new : Rows M T) : Type 0 where
  pub feed : Feed M
  pub named : feed_of old.feeds h ≡ Some feed
  pub step : NodeMove
  pub enabled : feed_enabled mc m old h step ≡ true
  pub effect : IsFeedMoved mc m step h old new

-- by so many moves of the feed some items went into the hub one after the other, and each was handed to all of these nodes
pub record AreSent {M T : Type 0} (mc : Machine M T) (m : Meaning T) (h n : ℕ) (hub hub' : HubState T) (old new : Feed M) (subs subs' : List (Subscription M T)) : Type 0 where
  pub items : List T
  pub budget : ℕ
  pub left : ℕ
  pub count : n + left ≡ budget
  pub fed : AreFed mc m budget old.part items left new.part
  pub number : new.hub ≡ old.hub
  pub taken : AreTakenIn hub items hub'
  pub handed : Leads (IsItemHandedToAll mc h) subs items subs'
