-- What is still to come of the hubs of a graph with feeds, by what stands in it now.
use Rattle.rsx_sources.specs.declared.machine.Machine.{Ghosts as Machine}
use Rattle.std.specs.Prelude.{◌≡◌, ⊤, List, [], ◌∷◌, ◌++◌, length, Option, Some, None}
use Rattle.rsx_graph_state.specs.Prelude.{feed_of, HubState, IsPartResidual}
use Rattle.rsx_rooted.specs.Inboxes.{waiting_of}
use Rattle.rsx_graph_state.specs.declared.feed.Feed.{Feed}
use Rattle.rsx_sources.specs.Prelude.{Meaning, Stream}

-- this is still to come of a hub, where `before` is still to come of those before it: of a hub with an emitter what waits in its
-- inbox, and of one with a feed what still comes out of the feed, where nothing more is chosen
abbrev pub IsToCome : {M T : Type 0} → Machine M T → Meaning T → List (Stream T) → HubState T → Option (Feed M) → Stream T → Type 0
IsToCome mc m before hub None v = v ≡ waiting_of hub
IsToCome mc m before hub (Some f) v = IsPartResidual mc m before f.part v

-- of each of these hubs, in the order of their numbers, behind those of which `before` is still to come
abbrev pub AreToCome : {M T : Type 0} → Machine M T → Meaning T → List (Feed M) → List (Stream T) → List (HubState T) → List (Stream T) → Type 0
AreToCome mc m feeds before [] [] = ⊤
AreToCome mc m feeds before (s ∷ ss) (v ∷ vs) = IsToCome mc m before s (feed_of feeds (length before)) v × AreToCome mc m feeds (before ++ v ∷ []) ss vs
AreToCome mc m feeds before [] (v ∷ vs) = ⊥
AreToCome mc m feeds before (s ∷ ss) [] = ⊥
