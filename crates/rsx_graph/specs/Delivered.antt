-- Idle means delivered, in a graph in which no hub has two live members.
use Rattle.rsx_graph.specs.Kinds.{AreValues, Rows, Subscription, all_readers, notes_of}
use Rattle.std.specs.Prelude.{◌≡◌, ⊤, ℕ, ◌<◌, ◌≤◌, List, [], ◌∷◌, length, Some}
use Rattle.rsx_graph_state.specs.Prelude.{History}
use Rattle.rsx_subscriber.specs.Prelude.{IsLive, IsServed, IsWithin, Past}
use Rattle.rsx_model.specs.Eval.{environment, eval}
use Rattle.rsx_sources.specs.Prelude.{Meaning, Stream}
use Rattle.rsx_graph.specs.Limits.{HaveCarriedFewer}
use Rattle.rsx_graph.specs.Stands.{GraphStands, GraphState}

-- no hub has two live members: of all nodes of the subscriptions and of the feeds, one at most reads it
abbrev pub HaveOneMember : {T : Type 0} → Rows T → Type 0
HaveOneMember g = (hub : ℕ) → hub < length g.hubs → all_readers hub g.feeds g.subs ≤ 1

-- a subscriber got what it asked for, over these values of the hubs: its expression, evaluated from scratch under what its nodes
-- recorded and at its joins, has a value; the items that it received are the first of that value, as many as it asked for or as
-- there are; and where it asked for more than there are and the value has an ending, it got the ending too
pub record IsDelivered {T : Type 0} (m : Meaning T) (published : List (Stream T)) (sub : Subscription T) (past : Past T) : Type 0 where
  pub value : Stream T
  pub scratch : eval (environment m published past.joins (notes_of sub.part.tree)) past.expression ≡ Some value
  pub served : IsServed sub past value

-- so did each live subscriber, as long as no edge of its tree has carried 2^63-1 items
abbrev pub AllDelivered : {T : Type 0} → Meaning T → List (Stream T) → List (Subscription T) → List (Past T) → Type 0
AllDelivered m published [] [] = ⊤
AllDelivered m published (s ∷ ss) (p ∷ ps) = (IsLive p.state → IsWithin s.part.tree → IsDelivered m published s p) × AllDelivered m published ss ps
AllDelivered m published [] (p ∷ ps) = ⊥
AllDelivered m published (s ∷ ss) [] = ⊥

-- over all that was published: at a hub with an emitter what was published there, and of one with a feed the value of the feed's
-- expression over the hubs before it
pub record HaveDelivered {T : Type 0} (m : Meaning T) (g : Rows T) (h : History T) : Type 0 where
  pub published : List (Stream T)
  pub values : AreValues m g.feeds [] h.hubs published
  pub all : AllDelivered m published g.subs h.pasts

-- whatever history the graph stands for: by it each live subscriber got what it asked for over all that was published, where no hub
-- has two live members, as long as no edge has carried 2^63-1 items
abbrev pub IsAllDelivered : {T : Type 0} → Meaning T → GraphState T → Type 0
IsAllDelivered {T} m g = (h : History T) → GraphStands m g h → HaveOneMember g.rows → HaveCarriedFewer g.rows.feeds → HaveDelivered m g.rows h
