-- Feeds: parts whose signals hubs take in.
use Rattle.rsx_sources.specs.declared.machine.Machine.{Ghosts as Machine}
use Rattle.std.specs.Prelude.{◌≡◌, ℕ, Bool, true, false, nat_lt, if◌then◌else◌, List, take, Some, slice_get}
use Rattle.rsx_demand.specs.declared.TheConstants.{UNBOUNDED}
use Rattle.rsx_subscriber.specs.Prelude.{Expr, Closed, Live, IsOpenAt, with_signal_at, PartStands}
use Rattle.rsx_sources.specs.Prelude.{Meaning, Stream, signals, Signal, Next}
use Rattle.rsx_pipe.specs.Published as Part
use Rattle.rsx_pipe.specs.Taking.{spaces_for}
use Rattle.rsx_tree.specs.Edges.{EdgeView}
use Rattle.rsx_graph_state.specs.declared.feed.Feed.{Feed}

-- the root edge of a feed that has just begun: as much as can be was asked over it
abbrev pub begun_edge : EdgeView
begun_edge = record { asked = UNBOUNDED; sent = 0; state = Live }

-- how many nodes of a feed read the hub with this number; a feed reads only hubs that were there before its own
abbrev pub reads_at : {M T : Type 0} → Machine M T → ℕ → Feed M → ℕ
reads_at mc h f = if nat_lt h f.hub then Part.readers mc h f.part else 0

-- whether all of them have room for an item
abbrev pub has_room_at : {M T : Type 0} → Machine M T → ℕ → Feed M → Bool
has_room_at mc h f = if nat_lt h f.hub then Part.has_room_for mc h f.part else true

-- a feed stands for an expression, where `published` is what the hubs took in and handed to their readers: what went over the
-- feed's root edge is what its hub took in, so that, followed by what still comes out of the part, is the expression evaluated
-- from scratch over the hubs before its own
pub record FeedStands {M T : Type 0} (mc : Machine M T) (m : Meaning T) (published : List (Stream T)) (feed : Feed M) (e : Expr T) (joins : List ℕ) : Type 0 where
  pub value : Stream T
  pub taken : slice_get published feed.hub ≡ Some value
  pub part : PartStands mc m (take feed.hub published) feed.part e joins (signals value)
  -- as much as can be was asked of it, and its root edge isn't closed
  pub asked : feed.part.root.demand.asked ≡ UNBOUNDED
  pub unclosed : feed.part.root.state ≡ Closed → ⊥

-- each node that reads the hub took the signal in, and nothing else changed
pub record IsFeedHanded {M T : Type 0} (mc : Machine M T) (h : ℕ) (s : Signal T) (old new : Feed M) : Type 0 where
  pub hub : new.hub ≡ old.hub
  pub part : nat_lt h old.hub ≡ true → Part.IsHanded mc h s old.part new.part
  pub same : nat_lt h old.hub ≡ false → new ≡ old
  -- a feed of another hub stands for the same, where this hub published that signal besides
  pub stands : (m : Meaning T) (published : List (Stream T)) (e : Expr T) (joins : List ℕ) → IsOpenAt h published → (old.hub ≡ h → ⊥) → FeedStands mc m published old e joins → FeedStands mc m (with_signal_at h s published) new e joins

-- ---- several items at once

-- each node of the feed that reads the hub had room for an item of it, and took it in
pub record IsItemHandedToFeed {M T : Type 0} (mc : Machine M T) (h : ℕ) (old : Feed M) (x : T) (new : Feed M) : Type 0 where
  pub room : has_room_at mc h old ≡ true
  pub handed : IsFeedHanded mc h (Next x) old new

-- for how many items of the hub all of them have room at once, but at most so many
abbrev pub spaces_at : {M T : Type 0} → Machine M T → (M → ℕ) → ℕ → ℕ → Feed M → ℕ
spaces_at mc spaces h most f = if nat_lt h f.hub then spaces_for mc spaces h most f.part else most
