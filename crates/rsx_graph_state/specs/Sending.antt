-- What a feed sends into its hub.
use Rattle.rsx_sources.specs.declared.machine.Machine.{Ghosts as Machine}
use Rattle.std.specs.Prelude.{◌≡◌, ℕ, Bool, true, false, ◌&&◌, List, Option, Some, None, set, slice_get}
use Rattle.rsx_subscriber.specs.Prelude.{Expr, is_room_for, times, IsSentOut, next_out, with_signal, with_signal_at, IsTaken, Part}
use Rattle.rsx_sources.specs.Prelude.{Meaning, Stream, Open, Signal}
use Rattle.rsx_hub.specs.Hub.{HubState, taken_in, takes_signal}
use Rattle.rsx_subscriber.specs.declared.subscription.Subscription.{Subscription}
use Rattle.rsx_graph_state.specs.Feeds.{FeedStands}
use Rattle.rsx_graph_state.specs.Publishing.{AllFeedsHanded, AllHanded, all_have_room}
use Rattle.rsx_graph_state.specs.declared.feed.Feed.{Feed}

-- whether a hub takes this signal in from its feed, where its readers have room for an item or not
abbrev pub takes_next : {T : Type 0} → Option (Signal T) → HubState T → Bool → Bool
takes_next None hub room = false
takes_next (Some s) hub room = takes_signal hub s && is_room_for s room

-- whether the Send of a feed over its root edge is enabled: the edge carries a signal, which the hub takes in, and for an item all
-- nodes that read the hub have room
abbrev pub can_feed : {M T : Type 0} → Machine M T → Meaning T → Feed M → HubState T → List (Feed M) → List (Subscription M T) → Bool
can_feed mc m feed hub fs xs = takes_next (next_out mc m feed.part) hub (all_have_room mc feed.hub fs xs)

-- the same of the feed with this index, where there is one
abbrev pub can_feed_of : {M T : Type 0} → Machine M T → Meaning T → Option (Feed M) → HubState T → List (Feed M) → List (Subscription M T) → Bool
can_feed_of mc m None hub fs xs = false
can_feed_of mc m (Some f) hub fs xs = can_feed mc m f hub fs xs

abbrev pub can_feed_at : {M T : Type 0} → Machine M T → Meaning T → ℕ → HubState T → List (Feed M) → List (Subscription M T) → Bool
can_feed_at mc m at hub fs xs = can_feed_of mc m (slice_get fs at) hub fs xs

-- a feed's signal was taken out of its part and into its hub, and stands in a list once for each of so many readers
pub record IsTakenOut {M T : Type 0} (mc : Machine M T) (m : Meaning T) (old : Feed M) (hub : HubState T) (count : ℕ) (given : List (Signal T)) (new : Feed M) (hub' : HubState T) : Type 0 where
  pub signal : Signal T
  pub sent : IsSentOut mc m old.part signal new.part
  pub number : new.hub ≡ old.hub
  pub takes : takes_signal hub signal ≡ true
  pub taken : hub' ≡ taken_in hub signal
  pub copies : given ≡ times count signal

-- the feed with this index sent its next signal into its hub, and it was handed to all nodes that read that hub
pub record IsFed {M T : Type 0} (mc : Machine M T) (m : Meaning T) (at : ℕ) (hub hub' : HubState T) (fs fs' : List (Feed M)) (xs xs' : List (Subscription M T)) : Type 0 where
  pub feed : Feed M
  pub from : slice_get fs at ≡ Some feed
  pub signal : Signal T
  pub part : Part M
  pub sent : IsSentOut mc m feed.part signal part
  pub takes : takes_signal hub signal ≡ true
  pub taken : hub' ≡ taken_in hub signal
  pub fed : AllFeedsHanded mc feed.hub signal (set fs at (record { part = part; hub = feed.hub })) fs'
  pub handed : AllHanded mc feed.hub signal xs xs'
  -- where a value is what the hub took in before, the hub had not ended, and that value with the signal is what it took in now
  pub published : (v : Stream T) → IsTaken hub v → (v.ending ≡ Open) × IsTaken hub' (with_signal signal v)
  -- and the feed stands for the same expression as before
  pub stands : (published : List (Stream T)) (v : Stream T) (e : Expr T) (joins : List ℕ) → slice_get published feed.hub ≡ Some v → IsTaken hub v → FeedStands mc m published feed e joins →
      (after : Feed M) × (slice_get fs' at ≡ Some after) × FeedStands mc m (with_signal_at feed.hub signal published) after e joins
