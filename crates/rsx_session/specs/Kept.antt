-- What a session keeps of each hub and of each subscriber: a look of what has happened to it.
use Rattle.std.specs.Prelude.{List, [], ◌∷◌, ◌++◌, length, map, take, ◌-◌}
use Rattle.rsx_types.specs.Stream.{Stream}
use Rattle.rsx_types.specs.declared.names.SubId.{SubId}
use Rattle.rsx_types.specs.declared.signal.Ending.{Ending}
use Rattle.rsx_types.specs.declared.signal.Ending.TheVariants.{Open, Done, Failed}
use Rattle.rsx_types.specs.declared.signal.Signal.{Signal}
use Rattle.rsx_types.specs.declared.signal.Signal.TheVariants.{Next, Complete, Error}
use Rattle.rsx_demo.specs.declared.val.Val.{Val}
use Rattle.rsx_subscriber.specs.Prelude.{Expr, Past, items_in, with_signal}
use Rattle.rsx_graph_state.specs.Answers.{changed}
use Rattle.rsx_graph.specs.Rows.{History, Source, emitted, fed}
use Rattle.rsx_session.specs.declared.published.HubSource.{HubSource}
use Rattle.rsx_session.specs.declared.published.HubSource.TheVariants.{Emitted, Fed}
use Rattle.rsx_session.specs.declared.session.Record.{Record}

-- the ending after a signal
abbrev pub ending_by : Ending → Signal Val → Ending
ending_by e (Next x) = e
ending_by e Complete = Done
ending_by e (Error c) = Failed c

-- the ending after signals
abbrev pub ending_after : Ending → List (Signal Val) → Ending
ending_after e [] = e
ending_after e (s ∷ ss) = ending_after (ending_by e s) ss

-- the ending among signals; Open where there is none
abbrev pub ending_in : List (Signal Val) → Ending
ending_in ss = ending_after Open ss

-- an ending, or where there is none yet another one
abbrev pub ending_then : Ending → Ending → Ending
ending_then Open e = e
ending_then Done e = Done
ending_then (Failed c) e = Failed c

-- a subscriber's expression, the items that it received, and the ending
pub record Known : Type 0 where
  pub expression : Expr Val
  pub items : List Val
  pub ending : Ending

-- what a session keeps
abbrev pub known : Record → Known
known r = record { expression = r.expr; items = r.received.items; ending = r.ending }

-- what has happened
abbrev pub seen : Past Val → Known
seen p = record { expression = p.expression; items = items_in p.received; ending = ending_in p.received }

-- a signal more was received
abbrev pub taken : Signal Val → Known → Known
taken (Next x) k = record { expression = k.expression; items = k.items ++ x ∷ []; ending = k.ending }
taken Complete k = record { expression = k.expression; items = k.items; ending = Done }
taken (Error c) k = record { expression = k.expression; items = k.items; ending = Failed c }

-- these signals more were received, each by its subscriber
abbrev pub all_taken : List (SubId × Signal Val) → List Known → List Known
all_taken [] ks = ks
all_taken (d ∷ ds) ks = all_taken ds (changed (taken d.1) ks d.0.0)

-- these items and this ending, and then what is owed
abbrev pub followed_by : List Val → Ending → Stream Val → Stream Val
followed_by items e owed = record { items = items ++ owed.items; ending = ending_then e owed.ending }

-- ---- what is kept of a hub

-- of what it publishes: what its emitter was answered ok for, or the expression that feeds it
abbrev pub source_of : Source Val → HubSource
source_of (emitted v) = Emitted v
source_of (fed e joins) = Fed e

abbrev pub sources_of : History Val → List HubSource
sources_of h = map (λ p. source_of p.source) h.hubs

-- a signal more was published at an emitter
abbrev pub source_with : Signal Val → HubSource → HubSource
source_with s (Emitted v) = Emitted (with_signal s v)
source_with s (Fed e) = Fed e

-- the last item was let go
abbrev pub source_without_last : HubSource → HubSource
source_without_last (Emitted v) = Emitted (record { items = take (length v.items - 1) v.items; ending = v.ending })
source_without_last (Fed e) = Fed e

-- it ended so
abbrev pub source_ended : Ending → HubSource → HubSource
source_ended x (Emitted v) = Emitted (record { items = v.items; ending = x })
source_ended x (Fed e) = Fed e
