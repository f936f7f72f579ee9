-- What is published at the hubs of a graph with feeds: what has happened by it, and why it is refused.
use Rattle.std.specs.Prelude.{◌≡◌, ℕ, ◌<◌, ◌≤◌, Bool, true, false, ◌&&◌, List, length, Some, is_none, is_some, slice_get}
use Rattle.rsx_graph_state.specs.Prelude.{History, HubPast, Source, emitted, fed, feed_of, changed, HubState, accepted_items, is_open, MOST_ACCEPTED}
use Rattle.rsx_graph_state.specs.declared.refusal.Refusal.{Refusal}
use Rattle.rsx_graph_state.specs.declared.refusal.Refusal.TheVariants.{UnknownHub, Ended, Full, TooMany, NoMemory}
use Rattle.rsx_pipe.specs.Output.{with_signal}
use Rattle.rsx_graph_state.specs.declared.feed.Feed.{Feed}
use Rattle.rsx_sources.specs.Prelude.{HubId, Signal}

-- ---- what has happened

-- the signal stands behind what the hub's emitter published; a hub that is fed publishes what its expression gives
abbrev pub published_from : {T : Type 0} → Signal T → Source T → Source T
published_from s (emitted w) = emitted (with_signal s w)
published_from s (fed e joins) = fed e joins

abbrev pub published_at : {T : Type 0} → Signal T → HubPast T → HubPast T
published_at s p = record { kind = p.kind; source = published_from s p.source; count = p.count }

-- this signal was published at the hub with this number
abbrev pub with_published : {T : Type 0} → Signal T → HubId → History T → History T
with_published s i h = record { hubs = changed (published_at s) h.hubs i.0; pasts = h.pasts }

-- ---- why it is refused

-- the hub with this number is there, and has an emitter
abbrev pub has_emitter : {M T : Type 0} → List (HubState T) → List (Feed M) → ℕ → Bool
has_emitter hubs feeds i = is_some (slice_get hubs i) && is_none (feed_of feeds i)

-- that is so, and this holds of it
abbrev pub OfEmitter : {M T : Type 0} → List (HubState T) → List (Feed M) → ℕ → (HubState T → Type 0) → Type 0
OfEmitter {M} {T} hubs feeds i P = (has_emitter hubs feeds i ≡ true) × ((hub : HubState T) × (slice_get hubs i ≡ Some hub) × P hub)

-- why an item is not accepted: a hub that isn't there or has a feed first, then one that has ended, then one that has accepted as
-- many items as it may in its life, and then a full inbox
abbrev pub IsEmitRefusal : {M T : Type 0} → List (HubState T) → List (Feed M) → ℕ → Refusal → Type 0
IsEmitRefusal hubs feeds i UnknownHub = has_emitter hubs feeds i ≡ false
IsEmitRefusal hubs feeds i Ended = OfEmitter hubs feeds i (λ h. is_open h.ending ≡ false)
IsEmitRefusal hubs feeds i TooMany = OfEmitter hubs feeds i (λ h. (is_open h.ending ≡ true) × (MOST_ACCEPTED ≤ accepted_items h))
IsEmitRefusal hubs feeds i Full = OfEmitter hubs feeds i (λ h. (is_open h.ending ≡ true) × (accepted_items h < MOST_ACCEPTED) × (h.capacity ≤ length h.inbox))
IsEmitRefusal hubs feeds i r = ⊥

-- the same where a copy of the item is made first
abbrev pub IsCopyRefusal : {M T : Type 0} → List (HubState T) → List (Feed M) → ℕ → Refusal → Type 0
IsCopyRefusal hubs feeds i NoMemory = has_emitter hubs feeds i ≡ true
IsCopyRefusal hubs feeds i r = IsEmitRefusal hubs feeds i r

-- why a hub is not ended
abbrev pub IsEndRefusal : {M T : Type 0} → List (HubState T) → List (Feed M) → ℕ → Refusal → Type 0
IsEndRefusal hubs feeds i UnknownHub = has_emitter hubs feeds i ≡ false
IsEndRefusal hubs feeds i Ended = OfEmitter hubs feeds i (λ h. is_open h.ending ≡ false)
IsEndRefusal hubs feeds i r = ⊥
