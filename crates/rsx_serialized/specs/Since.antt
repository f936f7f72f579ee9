-- What has happened to hubs and subscribers since a graph was put between its links.
use Rattle.std.specs.Prelude.{◌≡◌, ℕ, ◌+◌, Bool, true, false, List, [], ◌∷◌, ◌++◌, length, Some, slice_get}
use Rattle.rsx_graph.specs.Rows.{History, HubPast, Source, joins_in, published_from}
use Rattle.rsx_runtime.specs.Ordered.{is_unended}
use Rattle.rsx_subscriber.specs.Past.{Past, cancelled_state, subscribed as new_past}
use Rattle.rsx_subscriber.specs.Prelude.{Expr}
use Rattle.rsx_subscriber.specs.declared.state.SubscriptionState.{SubscriptionState}
use Rattle.rsx_subscriber.specs.declared.state.SubscriptionState.TheVariants.{Ended, Open}
use Rattle.rsx_types.specs.declared.signal.Signal.{Signal}
use Rattle.rsx_serialized.specs.Events.{AreKnown, Event, after_events, asked_in, given_in, published_in, stopped_in, subscribed, subscribed_in}

-- how a subscriber stands that got signals, of which none was an ending or one was, and that was cancelled or wasn't
abbrev pub state_since : Bool → Bool → SubscriptionState → SubscriptionState
state_since false stopped s = Ended
state_since true true s = cancelled_state s
state_since true false s = s

module _ {T : Type 0} where
  -- a source at which these signals were published, one after the other
  abbrev pub published_all : List (Signal T) → Source T → Source T
  published_all [] s = s
  published_all (x ∷ xs) s = published_all xs (published_from x s)

  -- these signals were published at a hub
  pub record HubSince (ss : List (Signal T)) (old new : HubPast T) : Type 0 where
    pub kind : new.kind ≡ old.kind
    pub source : new.source ≡ published_all ss old.source

  -- a subscriber received these signals, and where it is open still, it asked for what it asked for before and since
  pub record PastSince (k : ℕ) (es : List (Event T)) (old new : Past T) : Type 0 where
    pub expression : new.expression ≡ old.expression
    pub joins : new.joins ≡ old.joins
    pub received : new.received ≡ old.received ++ given_in k es
    pub state : new.state ≡ state_since (is_unended (given_in k es)) (stopped_in k es) old.state
    pub asked : new.state ≡ Open → new.asked ≡ asked_in k old.asked es

  -- There was a subscription to this expression, when so many others had been made since: its leaves joined the hubs as these were by then.
  -- It has this number, and what was delivered and asked for under it, came to it.
  pub record LateSince (k j : ℕ) (es : List (Event T)) (h : History T) (e : Expr T) : Type 0 where
    pub before : List (Event T)
    pub later : List (Event T)
    pub parts : es ≡ before ++ subscribed e ∷ later
    pub place : length (subscribed_in before) ≡ j
    pub past : Past T
    pub there : slice_get (after_events h es).pasts k ≡ Some past
    pub since : PastSince k es (new_past e (joins_in (after_events h before) e)) past

  -- of each hub and each subscriber of a history: what has happened to it
  pub record AreSince (es : List (Event T)) (h : History T) : Type 0 where
    pub hubs : (k : ℕ) (p : HubPast T) → slice_get h.hubs k ≡ Some p → (q : HubPast T) × (slice_get (after_events h es).hubs k ≡ Some q) × HubSince (published_in k es) p q
    pub pasts : (k : ℕ) (p : Past T) → slice_get h.pasts k ≡ Some p → (q : Past T) × (slice_get (after_events h es).pasts k ≡ Some q) × PastSince k es p q
    -- each subscription that was made since stands behind those of the history, and no other does
    pub late : AreKnown (length h.pasts) es → (j : ℕ) (e : Expr T) → slice_get (subscribed_in es) j ≡ Some e → LateSince (length h.pasts + j) j es h e
    pub count : length (after_events h es).pasts ≡ length h.pasts + length (subscribed_in es)
