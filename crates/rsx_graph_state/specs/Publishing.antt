-- Subscriptions and feeds to whose nodes a signal of a hub is handed.
use Rattle.rsx_sources.specs.declared.machine.Machine.{Ghosts as Machine}
use Rattle.std.specs.Prelude.{◌≡◌, ℕ, ◌+◌, Bool, true, false, ◌&&◌, List, [], Option, Some, None}
use Rattle.rsx_sources.specs.Prelude.{Stream, Open, Signal}
use Rattle.rsx_hub.specs.Hub.{HubState, accepted, waiting}
use Rattle.rsx_subscriber.specs.Prelude.{is_room_for, with_signal, IsTaken, IsHanded}
use Rattle.rsx_pipe.specs.Published as Part
use Rattle.rsx_subscriber.specs.declared.subscription.Subscription.{Subscription}
use Rattle.rsx_graph_state.specs.Feeds.{IsFeedHanded, has_room_at, reads_at}
use Rattle.rsx_graph_state.specs.Lists.{AllChanged, every, total}
use Rattle.rsx_graph_state.specs.declared.feed.Feed.{Feed}

-- how many nodes of their parts read the hub with this number
abbrev pub readers : {M T : Type 0} → Machine M T → ℕ → List (Subscription M T) → ℕ
readers mc h xs = total (λ x. Part.readers mc h x.part) xs

abbrev pub feed_readers : {M T : Type 0} → Machine M T → ℕ → List (Feed M) → ℕ
feed_readers mc h fs = total (reads_at mc h) fs

abbrev pub all_readers : {M T : Type 0} → Machine M T → ℕ → List (Feed M) → List (Subscription M T) → ℕ
all_readers mc h fs xs = feed_readers mc h fs + readers mc h xs

-- whether all of them have room for an item
abbrev pub have_room : {M T : Type 0} → Machine M T → ℕ → List (Subscription M T) → Bool
have_room mc h xs = every (λ x. Part.has_room_for mc h x.part) xs

abbrev pub feeds_have_room : {M T : Type 0} → Machine M T → ℕ → List (Feed M) → Bool
feeds_have_room mc h fs = every (has_room_at mc h) fs

abbrev pub all_have_room : {M T : Type 0} → Machine M T → ℕ → List (Feed M) → List (Subscription M T) → Bool
all_have_room mc h fs xs = feeds_have_room mc h fs && have_room mc h xs

-- a signal waits, and there is room for it
abbrev pub is_ready : {T : Type 0} → Option (Signal T) → Bool → Bool
is_ready None room = false
is_ready (Some s) room = is_room_for s room

-- whether the hub with this number can take its next signal in: one waits, and for an item all nodes that read the hub have room
abbrev pub can_accept : {M T : Type 0} → Machine M T → ℕ → HubState T → List (Feed M) → List (Subscription M T) → Bool
can_accept mc h hub fs xs = is_ready (waiting hub) (all_have_room mc h fs xs)

-- each subscription's nodes that read the hub took the signal in, and nothing else changed
abbrev pub AllHanded : {M T : Type 0} → Machine M T → ℕ → Signal T → List (Subscription M T) → List (Subscription M T) → Type 0
AllHanded mc h s old new = AllChanged (IsHanded mc h s) old new

-- so did each feed's
abbrev pub AllFeedsHanded : {M T : Type 0} → Machine M T → ℕ → Signal T → List (Feed M) → List (Feed M) → Type 0
AllFeedsHanded mc h s old new = AllChanged (IsFeedHanded mc h s) old new

-- the signal that waited in front of the hub was taken in, and handed to all nodes of the feeds and the subscriptions that read it
pub record IsAccepted {M T : Type 0} (mc : Machine M T) (h : ℕ) (hub hub' : HubState T) (fs fs' : List (Feed M)) (xs xs' : List (Subscription M T)) : Type 0 where
  pub signal : Signal T
  pub waited : waiting hub ≡ Some signal
  pub taken : hub' ≡ accepted hub (Some signal)
  pub fed : AllFeedsHanded mc h signal fs fs'
  pub handed : AllHanded mc h signal xs xs'
  -- where a value is what the hub took in before, the hub had not ended, and that value with the signal is what it took in now
  pub published : (v : Stream T) → IsTaken hub v → (hub.has_ended ≡ true → hub.inbox ≡ []) →
      (v.ending ≡ Open) × IsTaken hub' (with_signal signal v)
