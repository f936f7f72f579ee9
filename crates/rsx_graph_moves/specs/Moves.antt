-- Any move of a graph with feeds: when it is enabled, and what it changes.
use Rattle.rsx_sources.specs.declared.machine.Machine.{Ghosts as Machine}
use Rattle.rsx_rooted.specs.declared.nodes.Nodes.{Ghosts as Nodes}
use Rattle.std.specs.Prelude.{◌≡◌, ⊤, ℕ, Bool, true, false, ◌||◌, List, length, Option, Some, None}
use Rattle.rsx_graph_state.specs.Prelude.{IsAcceptedAt, IsAloneAt, IsAloneInFeed, IsFeedMoved, IsFeedRefusal, accepts_at, feed_allocates, feed_enabled, has_feed, sent_by, Rows, feed_of, IsAcceptRefusal, IsSubMoveRefusal, signals_wait, IsMadeAt, allocates_at, enabled_at, pump_allocates}
use Rattle.rsx_graph_state.specs.declared.refusal.Refusal.{Refusal}
use Rattle.rsx_graph_state.specs.declared.feed.Feed.{Feed}
use Rattle.rsx_subscriber.specs.Prelude.{route, inside_node, name_of, node_move, node_of, NodeMove}
use Rattle.rsx_sources.specs.Prelude.{Meaning, Allocates, HubId, Move, Ask, Send, Take, Pick, Row, Accept, SubId, Tree, Sub, Feed as FeedOf, Signal}

-- ---- when it is enabled

-- the move inside its part that a move of a feed names
abbrev pub move_in : {M T : Type 0} → Nodes M T → Option (Feed M) → Move → Option NodeMove
move_in kd None mv = None
move_in kd (Some f) mv = node_move (route kd f.part (node_of mv)) mv

abbrev pub feed_move : {M T : Type 0} → Nodes M T → List (Feed M) → ℕ → Move → Option NodeMove
feed_move kd feeds h mv = move_in kd (feed_of feeds h) mv

-- the name of a move inside that part
abbrev pub name_in : {M T : Type 0} → Nodes M T → Feed M → HubId → NodeMove → Move
name_in kd f h inside = name_of (route kd f.part (inside_node inside)) (FeedOf h) inside

-- a move in the tree of a feed
abbrev pub feed_move_enabled : {M T : Type 0} → Machine M T → Meaning T → Rows M T → ℕ → Option NodeMove → Bool
feed_move_enabled mc m g h None = false
feed_move_enabled mc m g h (Some step) = feed_enabled mc m g h step

abbrev pub enabled_in_tree : {M T : Type 0} → Machine M T → Nodes M T → Meaning T → Rows M T → Tree → Move → Bool
enabled_in_tree mc kd m g (Sub i) mv = enabled_at mc kd m g.subs i.0 mv
enabled_in_tree mc kd m g (FeedOf h) mv = feed_move_enabled mc m g h.0 (feed_move kd g.feeds h.0 mv)

abbrev pub is_enabled : {M T : Type 0} → Machine M T → Nodes M T → Meaning T → Rows M T → Move → Bool
is_enabled mc kd m g (Ask t n) = enabled_in_tree mc kd m g t (Ask t n)
is_enabled mc kd m g (Send t n) = enabled_in_tree mc kd m g t (Send t n)
is_enabled mc kd m g (Take t n) = enabled_in_tree mc kd m g t (Take t n)
is_enabled mc kd m g (Pick t n i) = enabled_in_tree mc kd m g t (Pick t n i)
is_enabled mc kd m g (Row t n) = enabled_in_tree mc kd m g t (Row t n)
is_enabled mc kd m g (Accept h) = accepts_at mc g h.0

-- ---- whether it may allocate, where these of the caller's functions may

abbrev pub feed_move_allocates : {M T : Type 0} → Machine M T → Allocates → List (Feed M) → ℕ → Option NodeMove → Bool
feed_move_allocates mc a feeds h None = false
feed_move_allocates mc a feeds h (Some step) = feed_allocates mc a feeds h step

abbrev pub allocates_in_tree : {M T : Type 0} → Machine M T → Nodes M T → Allocates → Rows M T → Tree → Move → Bool
allocates_in_tree mc kd a g (Sub i) mv = allocates_at mc kd a g.subs i.0 mv
allocates_in_tree mc kd a g (FeedOf h) mv = feed_move_allocates mc a g.feeds h.0 (feed_move kd g.feeds h.0 mv)

-- an Accept may always, since it makes copies for the nodes that read its hub
abbrev pub may_allocate : {M T : Type 0} → Machine M T → Nodes M T → Allocates → Rows M T → Move → Bool
may_allocate mc kd a g (Ask t n) = allocates_in_tree mc kd a g t (Ask t n)
may_allocate mc kd a g (Send t n) = allocates_in_tree mc kd a g t (Send t n)
may_allocate mc kd a g (Take t n) = allocates_in_tree mc kd a g t (Take t n)
may_allocate mc kd a g (Pick t n i) = allocates_in_tree mc kd a g t (Pick t n i)
may_allocate mc kd a g (Row t n) = allocates_in_tree mc kd a g t (Row t n)
may_allocate mc kd a g (Accept h) = true

-- whether driving the subscriptions and the hubs with emitters may: some move in a subscription's tree may, or a signal waits in a
-- hub's inbox
abbrev pub drives_allocate : {M T : Type 0} → Machine M T → Allocates → Rows M T → Bool
drives_allocate mc a g = pump_allocates mc a g.subs || signals_wait g.hubs

-- ---- what goes out of a feed into its hub by it

abbrev pub sent_by_feed : {M T : Type 0} → Machine M T → Meaning T → Rows M T → ℕ → Option NodeMove → Option (Signal T)
sent_by_feed mc m g h None = None
sent_by_feed mc m g h (Some step) = sent_by mc m g step h

abbrev pub sent_in_tree : {M T : Type 0} → Machine M T → Nodes M T → Meaning T → Rows M T → Tree → Move → Option (Signal T)
sent_in_tree mc kd m g (Sub i) mv = None
sent_in_tree mc kd m g (FeedOf h) mv = sent_by_feed mc m g h.0 (feed_move kd g.feeds h.0 mv)

abbrev pub sent : {M T : Type 0} → Machine M T → Nodes M T → Meaning T → Rows M T → Move → Option (Signal T)
sent mc kd m g (Ask t n) = sent_in_tree mc kd m g t (Ask t n)
sent mc kd m g (Send t n) = sent_in_tree mc kd m g t (Send t n)
sent mc kd m g (Take t n) = sent_in_tree mc kd m g t (Take t n)
sent mc kd m g (Pick t n i) = sent_in_tree mc kd m g t (Pick t n i)
sent mc kd m g (Row t n) = sent_in_tree mc kd m g t (Row t n)
sent mc kd m g (Accept h) = None

-- ---- what it changes

-- a move in the tree of a feed
abbrev pub IsMovedInFeed : {M T : Type 0} → Machine M T → Meaning T → Option NodeMove → ℕ → Rows M T → Rows M T → Type 0
IsMovedInFeed mc m None h old new = ⊥
IsMovedInFeed mc m (Some step) h old new = IsFeedMoved mc m step h old new

-- a move in the tree of a subscription changes nothing else
abbrev pub IsMovedInTree : {M T : Type 0} → Machine M T → Nodes M T → Meaning T → Move → Tree → Rows M T → Rows M T → Option (SubId × Signal T) → Type 0
IsMovedInTree mc kd m mv (Sub i) old new o = IsMadeAt mc kd m mv i.0 old.subs new.subs o × (new.hubs ≡ old.hubs) × (new.feeds ≡ old.feeds)
IsMovedInTree mc kd m mv (FeedOf h) old new o = IsMovedInFeed mc m (feed_move kd old.feeds h.0 mv) h.0 old new

-- what a move changes, where it delivers this
abbrev pub IsMoved : {M T : Type 0} → Machine M T → Nodes M T → Meaning T → Move → Rows M T → Rows M T → Option (SubId × Signal T) → Type 0
IsMoved mc kd m (Ask t n) old new o = IsMovedInTree mc kd m (Ask t n) t old new o
IsMoved mc kd m (Send t n) old new o = IsMovedInTree mc kd m (Send t n) t old new o
IsMoved mc kd m (Take t n) old new o = IsMovedInTree mc kd m (Take t n) t old new o
IsMoved mc kd m (Pick t n i) old new o = IsMovedInTree mc kd m (Pick t n i) t old new o
IsMoved mc kd m (Row t n) old new o = IsMovedInTree mc kd m (Row t n) t old new o
IsMoved mc kd m (Accept h) old new o = IsAcceptedAt mc h.0 old new

-- ---- what a call that makes just one move says besides

-- of the feed of the hub with this number, where the move is one in it
abbrev pub IsAloneByFeed : {M T : Type 0} → Machine M T → Meaning T → Option NodeMove → ℕ → List (Feed M) → List (Feed M) → Type 0
IsAloneByFeed mc m None h feeds news = ⊤
IsAloneByFeed mc m (Some step) h feeds news = IsAloneInFeed mc m step h feeds news

-- of the tree in which it made it: no step of a node was made besides, not even one that leaves no trace in what comes out
abbrev pub IsAloneInTree : {M T : Type 0} → Machine M T → Nodes M T → Meaning T → Move → Tree → Rows M T → Rows M T → Type 0
IsAloneInTree mc kd m mv (Sub i) old new = IsAloneAt mc kd m mv i.0 old.subs new.subs
IsAloneInTree mc kd m mv (FeedOf h) old new = IsAloneByFeed mc m (feed_move kd old.feeds h.0 mv) h.0 old.feeds new.feeds

-- what an Accept does to each node that reads the hub, its effect says
abbrev pub IsMadeAlone : {M T : Type 0} → Machine M T → Nodes M T → Meaning T → Move → Rows M T → Rows M T → Type 0
IsMadeAlone mc kd m (Ask t n) old new = IsAloneInTree mc kd m (Ask t n) t old new
IsMadeAlone mc kd m (Send t n) old new = IsAloneInTree mc kd m (Send t n) t old new
IsMadeAlone mc kd m (Take t n) old new = IsAloneInTree mc kd m (Take t n) t old new
IsMadeAlone mc kd m (Pick t n i) old new = IsAloneInTree mc kd m (Pick t n i) t old new
IsMadeAlone mc kd m (Row t n) old new = IsAloneInTree mc kd m (Row t n) t old new
IsMadeAlone mc kd m (Accept h) old new = ⊤

-- ---- why it is refused

-- an unknown name first, then a move that isn't enabled, and memory last
abbrev pub IsTreeRefusal : {M T : Type 0} → Rows M T → Bool → Tree → Refusal → Type 0
IsTreeRefusal g enabled (Sub i) r = IsSubMoveRefusal (length g.subs) enabled i r
IsTreeRefusal g enabled (FeedOf h) r = IsFeedRefusal (has_feed g h.0) enabled r

abbrev pub IsMakeRefusal : {M T : Type 0} → Rows M T → Bool → Move → Refusal → Type 0
IsMakeRefusal g enabled (Ask t n) r = IsTreeRefusal g enabled t r
IsMakeRefusal g enabled (Send t n) r = IsTreeRefusal g enabled t r
IsMakeRefusal g enabled (Take t n) r = IsTreeRefusal g enabled t r
IsMakeRefusal g enabled (Pick t n i) r = IsTreeRefusal g enabled t r
IsMakeRefusal g enabled (Row t n) r = IsTreeRefusal g enabled t r
IsMakeRefusal g enabled (Accept h) r = IsAcceptRefusal (length g.hubs) enabled h.0 r
