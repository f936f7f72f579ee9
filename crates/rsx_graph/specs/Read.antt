-- What the nodes that read hubs have got, where each hub in front of which a signal waits has one reader at most.
use Rattle.rsx_graph.specs.Kinds.{AreValues, Rows, AllHaveRead, all_readers, goes_out, Feed}
use Rattle.std.specs.Prelude.{◌≡◌, ℕ, ◌<◌, ◌≤◌, Bool, true, false, ◌||◌, List, [], Option, Some, None, is_some, slice_get}
use Rattle.rsx_graph_state.specs.Prelude.{History, feed_of, HubState, waiting, MOST_ACCEPTED}
use Rattle.rsx_sources.specs.Prelude.{Meaning, Stream}
use Rattle.rsx_graph.specs.Limits.{HaveCarriedFewer}
use Rattle.rsx_graph.specs.Stands.{GraphStands, GraphState}

-- ---- where a signal waits in front of a hub

-- the root edge of this feed, if there is one, carries a signal, which waits there for its hub
abbrev pub feed_waits : {T : Type 0} → Meaning T → Option (Feed T) → Bool
feed_waits m None = false
feed_waits m (Some f) = goes_out m f.part

-- a signal waits in front of the hub with this number: in its inbox, or at the root of its feed
abbrev pub waits_at : {T : Type 0} → Meaning T → Rows T → ℕ → HubState T → Bool
waits_at m g i s = is_some (waiting s) || feed_waits m (feed_of g.feeds i)

-- each hub in front of which a signal waits has one reader at most, of all nodes of the subscriptions and of the feeds
abbrev pub WaitForOne : {T : Type 0} → Meaning T → Rows T → Type 0
WaitForOne {T} m g = (i : ℕ) (s : HubState T) → slice_get g.hubs i ≡ Some s → waits_at m g i s ≡ true → all_readers i g.feeds g.subs ≤ 1

-- none of these hubs has taken in 2^63-1 items
abbrev pub HaveTakenFewer : {T : Type 0} → Meaning T → Rows T → Type 0
HaveTakenFewer {T} m g = (i : ℕ) (s : HubState T) → slice_get g.hubs i ≡ Some s → waits_at m g i s ≡ true → s.count < MOST_ACCEPTED

-- ---- what is read

-- over the values of the hubs: each node of a subscription that reads a hub has got all that was published there, where it offers
-- nothing, though more is asked over its edge than it sent, and can make no step
abbrev pub HaveAllRead : {T : Type 0} → Meaning T → Rows T → History T → Type 0
HaveAllRead {T} m g h = (published : List (Stream T)) → AreValues m g.feeds [] h.hubs published → AllHaveRead m published g.subs

-- whatever history the graph stands for: by it each did, where each hub in front of which a signal waits has one reader at most, as
-- long as no edge of a feed has carried 2^63-1 items
abbrev pub IsAllRead : {T : Type 0} → Meaning T → GraphState T → Type 0
IsAllRead {T} m g = (h : History T) → GraphStands m g h → WaitForOne m g.rows → HaveCarriedFewer g.rows.feeds → HaveAllRead m g.rows h
