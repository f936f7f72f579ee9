-- What has happened to a graph whose hubs are published to by emitters or fed by expressions.
use Rattle.std.specs.Prelude.{ℕ, ◌+◌, nat_lt, if◌then◌else◌, List, length, Option, Some, None}
use Rattle.rsx_hub.specs.Hub.{items_of}
use Rattle.rsx_graph_state.specs.Answers.{changed, pasts_after}
use Rattle.rsx_subscriber.specs.Prelude.{Expr, Past, given}
use Rattle.rsx_sources.specs.Prelude.{Stream, HubId, HubKind, Move, Ask, Send, Take, Pick, Row, Accept, SubId, Tree, Sub, Feed as FeedOf, Signal}

-- what a hub publishes: what its emitter was answered ok for, or the value of this expression, whose leaves have these joins
pub data Source (T : Type 0) : Type 0 where
  emitted : Stream T → Source T
  fed : Expr T → List ℕ → Source T

-- what has happened at a hub: what a new member gets, what it publishes, and how many items it took in
pub record HubPast (T : Type 0) : Type 0 where
  pub kind : HubKind
  pub source : Source T
  pub count : ℕ

-- what has happened at each hub, and to each subscriber
pub record History (T : Type 0) : Type 0 where
  pub hubs : List (HubPast T)
  pub pasts : List (Past T)

-- ---- what a move adds

-- how many items a hub took in, with the next one that its emitter published, if there is one
abbrev pub counted : {T : Type 0} → Source T → ℕ → ℕ
counted (emitted v) n = if nat_lt n (length v.items) then n + 1 else n
counted (fed e joins) n = n

-- a hub with an emitter took its next signal in: one item more, if there is one
abbrev pub accepted_at : {T : Type 0} → HubPast T → HubPast T
accepted_at p = record { kind = p.kind; source = p.source; count = counted p.source p.count }

abbrev pub with_accepted : {T : Type 0} → HubId → History T → History T
with_accepted i h = record { hubs = changed accepted_at h.hubs i.0; pasts = h.pasts }

-- a hub took this signal of its feed in: one item more, if it is one
abbrev pub sent_at : {T : Type 0} → Signal T → HubPast T → HubPast T
sent_at s p = record { kind = p.kind; source = p.source; count = p.count + items_of s }

-- the hub with this number did so, if the feed sent one
abbrev pub with_sent : {T : Type 0} → Option (Signal T) → ℕ → History T → History T
with_sent None i h = h
with_sent (Some s) i h = record { hubs = changed (sent_at s) h.hubs i; pasts = h.pasts }

-- this was delivered, if anything was
abbrev pub with_delivery : {T : Type 0} → Option (SubId × Signal T) → History T → History T
with_delivery None h = h
with_delivery (Some d) h = record { hubs = h.hubs; pasts = changed (given d.1) h.pasts d.0.0 }

-- these were delivered, one after the other
abbrev pub delivered : {T : Type 0} → History T → List (SubId × Signal T) → History T
delivered h ds = record { hubs = h.hubs; pasts = pasts_after ds h.pasts }

-- a move was made in this tree: of a subscription, and delivered this, or of a feed, and this went into its hub
abbrev pub with_moved : {T : Type 0} → Tree → Option (SubId × Signal T) → Option (Signal T) → History T → History T
with_moved (Sub i) o s h = with_delivery o h
with_moved (FeedOf i) o s h = with_sent s i.0 h

-- a move was made, and delivered this, or this went out of a feed into its hub
abbrev pub with_made : {T : Type 0} → Move → Option (SubId × Signal T) → Option (Signal T) → History T → History T
with_made (Ask t n) o s h = with_moved t o s h
with_made (Send t n) o s h = with_moved t o s h
with_made (Take t n) o s h = with_moved t o s h
with_made (Pick t n i) o s h = with_moved t o s h
with_made (Row t n) o s h = with_moved t o s h
with_made (Accept i) o s h = with_accepted i h
