-- The headline of a graph with feeds, over the definitions alone.
use Rattle.rsx_sources.specs.declared.machine.Machine.{Ghosts as Machine}
use Rattle.std.specs.Prelude.{◌≡◌, List, [], ◌∷◌, ◌++◌, length, Some}
use Rattle.rsx_graph_state.specs.Holding.{AllHold}
use Rattle.rsx_model.specs.Eval.{environment, eval}
use Rattle.rsx_subscriber.specs.Prelude.{notes_of}
use Rattle.rsx_graph_state.specs.declared.feed.Feed.{Feed}
use Rattle.rsx_sources.specs.Prelude.{Meaning, Stream}
use Rattle.rsx_graph_state.specs.History.{History, HubPast, Source, emitted, fed}
use Rattle.rsx_graph_state.specs.Stands.{Rows, feed_of}

-- the value of a hub with an emitter is what was published there; that of a hub with a feed is the value of its expression over
-- the hubs before it, under its joins and what the nodes of the feed recorded
abbrev pub IsValue : {M T : Type 0} → Machine M T → Meaning T → List (Feed M) → List (Stream T) → Source T → Stream T → Type 0
IsValue mc m feeds before (emitted w) v = v ≡ w
IsValue {M} {T} mc m feeds before (fed e joins) v = (f : Feed M) × (feed_of feeds (length before) ≡ Some f) × (eval (environment m before joins (notes_of mc f.part.tree)) e ≡ Some v)

-- the values of hubs, in the order of their numbers, behind those with these values
abbrev pub AreValues : {M T : Type 0} → Machine M T → Meaning T → List (Feed M) → List (Stream T) → List (HubPast T) → List (Stream T) → Type 0
AreValues mc m feeds before [] vs = vs ≡ []
AreValues mc m feeds before (p ∷ ps) [] = ⊥
AreValues mc m feeds before (p ∷ ps) (v ∷ vs) = IsValue mc m feeds before p.source v × AreValues mc m feeds (before ++ v ∷ []) ps vs

-- the sentence for a whole graph after a history, over the values of its hubs
pub record Headline {M T : Type 0} (mc : Machine M T) (m : Meaning T) (g : Rows M T) (h : History T) : Type 0 where
  pub published : List (Stream T)
  pub values : AreValues mc m g.feeds [] h.hubs published
  pub all : AllHold mc m published g.subs h.pasts
