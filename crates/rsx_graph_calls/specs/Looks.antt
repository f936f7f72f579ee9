-- What the looks at a graph with feeds answer, and why they are refused.
use Rattle.rsx_sources.specs.declared.machine.Machine.{Ghosts as Machine}
use Rattle.std.specs.Prelude.{◌≡◌, ℕ, ◌<◌, true, false, List, [], length, Some, slice_get}
use Rattle.rsx_graph_state.specs.Prelude.{AreFeedJoins, AreValues, History, HubState, HubPast, fed, has_feed, Rows, feed_of, HasJoins, IsLookRefusal, HasNotesAt, OwedAt}
use Rattle.rsx_graph_state.specs.declared.refusal.Refusal.{Refusal}
use Rattle.rsx_graph_state.specs.declared.refusal.Refusal.TheVariants.{UnknownHub, NoMemory}
use Rattle.rsx_subscriber.specs.Prelude.{Expr, notes_of}
use Rattle.rsx_graph_state.specs.declared.feed.Feed.{Feed}
use Rattle.rsx_sources.specs.Prelude.{Meaning, Stream, SubId, Tree, Sub, Feed as FeedOf, Note}

-- this is what the subscriber with this number is owed, over the values of the hubs
pub record IsOwed {M T : Type 0} (mc : Machine M T) (m : Meaning T) (g : Rows M T) (h : History T) (i : SubId) (v : Stream T) : Type 0 where
  pub published : List (Stream T)
  pub values : AreValues mc m g.feeds [] h.hubs published
  pub owed : OwedAt mc m published g.subs h.pasts i.0 v

-- the hub with this number is there and has a feed, whose nodes recorded this
pub record HasFeedNotes {M T : Type 0} (mc : Machine M T) (g : Rows M T) (h : ℕ) (ns : List Note) : Type 0 where
  pub known : has_feed g h ≡ true
  pub feed : Feed M
  pub there : feed_of g.feeds h ≡ Some feed
  pub notes : ns ≡ notes_of mc feed.part.tree

-- these are the notes of a tree
abbrev pub HasNotes : {M T : Type 0} → Machine M T → Rows M T → Tree → List Note → Type 0
HasNotes mc g (Sub i) ns = HasNotesAt mc g.subs i ns
HasNotes mc g (FeedOf h) ns = HasFeedNotes mc g h.0 ns

-- the hub with this number is fed by an expression, whose leaves have these joins
abbrev pub HasFedJoins : {T : Type 0} → List (HubPast T) → ℕ → List ℕ → Type 0
HasFedJoins {T} ps h js = (p : HubPast T) × (e : Expr T) × (slice_get ps h ≡ Some p) × (p.source ≡ fed e js)

-- these are the joins of a tree, of those that are kept beside the subscriptions and beside the feeds
abbrev pub AreJoins : {M T : Type 0} → List (HubState T) → List (Feed M) → List (List ℕ) → List (List ℕ) → Tree → List ℕ → Type 0
AreJoins hubs feeds sub_joins feed_joins (Sub i) js = slice_get sub_joins i.0 ≡ Some js
AreJoins hubs feeds sub_joins feed_joins (FeedOf i) js = (i.0 < length hubs) × AreFeedJoins feeds feed_joins i.0 js

-- these are the joins of a tree
abbrev pub HasTreeJoins : {T : Type 0} → History T → Tree → List ℕ → Type 0
HasTreeJoins h (Sub i) js = HasJoins h.pasts i.0 js
HasTreeJoins h (FeedOf i) js = HasFedJoins h.hubs i.0 js

-- why a look at the feed of a hub is refused
abbrev pub IsFeedLookRefusal : {M T : Type 0} → Rows M T → ℕ → Refusal → Type 0
IsFeedLookRefusal g h UnknownHub = has_feed g h ≡ false
IsFeedLookRefusal g h NoMemory = has_feed g h ≡ true
IsFeedLookRefusal g h r = ⊥

-- why a look at a tree is refused, where there are so many subscriptions: an unknown name first, and then memory
abbrev pub IsTreeLookRefusal : {M T : Type 0} → Rows M T → ℕ → Tree → Refusal → Type 0
IsTreeLookRefusal g count (Sub i) r = IsLookRefusal count i r
IsTreeLookRefusal g count (FeedOf h) r = IsFeedLookRefusal g h.0 r
