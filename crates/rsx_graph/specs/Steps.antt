-- What has happened by steps with their answers, and which answers a step can have.
use Rattle.std.specs.Prelude.{◌≡◌, ⊤, ℕ, ◌<◌, ◌≤◌, Bool, true, false, List, [], ◌∷◌, length, Option, Some, None, slice_get}
use Rattle.rsx_graph_calls.specs.Edits.{fault_of, with_fed_hub, with_hub}
use Rattle.rsx_graph_calls.specs.Publishes.{with_published}
use Rattle.rsx_graph_calls.specs.Requests.{with_past}
use Rattle.rsx_graph_calls.specs.Subscribing.{with_subscriber}
use Rattle.rsx_graph_state.specs.Prelude.{History, HubPast, Source, emitted, fed, with_made, IsFeedRefusal, IsAcceptRefusal, IsHubRefusal, IsSubMoveRefusal, IsSubscribeId, state_at, are_numbers, is_open, SubscriptionState}
use Rattle.rsx_graph_state.specs.declared.TheConstants.{MOST_HUBS, MOST_SUBSCRIPTIONS}
use Rattle.rsx_graph_state.specs.declared.refusal.Refusal.{Refusal}
use Rattle.rsx_graph_state.specs.declared.refusal.Refusal.TheVariants.{UnknownHub, UnknownSub, Ended, Full, TooMany, BadExpr, NoMemory}
use Rattle.rsx_graph_state.specs.declared.step.Answer.{Answer}
use Rattle.rsx_graph_state.specs.declared.step.Answer.TheVariants.{Opened, Published, Subscribed, Requested, Cancelled as CancelTaken, Made, Refused as NotDone}
use Rattle.rsx_subscriber.specs.Prelude.{refusal, Expr, cancelled, request_answer, requested, IsMadeAnswer}
use Rattle.rsx_sources.specs.Prelude.{HubKind, Move, Ask, Send, Take, Pick, Row, Accept, Tree, Sub, Feed as FeedOf, User, Signal, Next, Complete as Completion, Error}
use Rattle.rsx_graph.specs.declared.step.Step.{Step}
use Rattle.rsx_graph.specs.declared.step.Step.TheVariants.{Hub, FeedHub, Emit, Complete, Fail, Subscribe, Request, Cancel, Make}

-- nothing has happened
abbrev pub no_history : {T : Type 0} → History T
no_history = record { hubs = []; pasts = [] }

-- the history after one step with its answer, where this went out of a feed into its hub by it
abbrev pub extended : {T : Type 0} → History T → Step T → Answer T → Option (Signal T) → History T
extended h (Subscribe e) (Subscribed i) s = with_subscriber e h
extended h (Request i n) (Requested o) s = with_past (requested n) i h
extended h (Cancel i) CancelTaken s = with_past cancelled i h
extended h (Make mv) (Made o) s = with_made mv o s h
extended h (Hub k c) (Opened i) s = with_hub k h
extended h (FeedHub k c e) (Opened i) s = with_fed_hub k e h
extended h (Emit i x) Published s = with_published (Next x) i h
extended h (Complete i) Published s = with_published Completion i h
extended h (Fail i n) Published s = with_published (Error (User n)) i h
extended h step a s = h

-- the history after a list of steps, with their answers and with what went out of feeds into hubs
abbrev pub all_extended : {T : Type 0} → History T → List (Step T) → List (Answer T) → List (Option (Signal T)) → History T
all_extended h [] as' sent = h
all_extended h (s ∷ ss) [] sent = h
all_extended h (s ∷ ss) (a ∷ as') [] = h
all_extended h (s ∷ ss) (a ∷ as') (o ∷ sent) = all_extended (extended h s a o) ss as' sent

-- ---- which hubs have emitters, and which have feeds

abbrev pub is_emitter : {T : Type 0} → Source T → Bool
is_emitter (emitted w) = true
is_emitter (fed e js) = false

-- of one with an emitter: it has not ended
abbrev pub goes_on : {T : Type 0} → Source T → Bool
goes_on (emitted w) = is_open w.ending
goes_on (fed e js) = false

abbrev pub is_feed : {T : Type 0} → Source T → Bool
is_feed (emitted w) = false
is_feed (fed e js) = true

-- a hub is there, and has an emitter
abbrev pub is_emitted : {T : Type 0} → Option (HubPast T) → Bool
is_emitted None = false
is_emitted (Some p) = is_emitter p.source

-- a hub is there, and has an emitter, which has not ended it
abbrev pub is_emitting : {T : Type 0} → Option (HubPast T) → Bool
is_emitting None = false
is_emitting (Some p) = goes_on p.source

-- a hub is there, and has a feed
abbrev pub is_fed : {T : Type 0} → Option (HubPast T) → Bool
is_fed None = false
is_fed (Some p) = is_feed p.source

-- ---- which answers belong to a step

-- why an item is refused: a hub that isn't there or has a feed first, then one that has ended, and then one that has accepted as many
-- items as it may, or whose inbox is full. It takes no memory
abbrev pub IsItemRefusal : {T : Type 0} → List (HubPast T) → ℕ → Refusal → Type 0
IsItemRefusal ps i UnknownHub = is_emitted (slice_get ps i) ≡ false
IsItemRefusal ps i Ended = (is_emitted (slice_get ps i) ≡ true) × (is_emitting (slice_get ps i) ≡ false)
IsItemRefusal ps i TooMany = is_emitting (slice_get ps i) ≡ true
IsItemRefusal ps i Full = is_emitting (slice_get ps i) ≡ true
IsItemRefusal ps i r = ⊥

-- why an ending is
abbrev pub IsEndingRefusal : {T : Type 0} → List (HubPast T) → ℕ → Refusal → Type 0
IsEndingRefusal ps i UnknownHub = is_emitted (slice_get ps i) ≡ false
IsEndingRefusal ps i Ended = (is_emitted (slice_get ps i) ≡ true) × (is_emitting (slice_get ps i) ≡ false)
IsEndingRefusal ps i r = ⊥

-- why a subscription is refused, where there are so many hubs and so many subscriptions: the expression first, then the limits (of
-- subscriptions, and of a hub's members), and memory last
abbrev pub IsNewSubRefusal : {T : Type 0} → ℕ → ℕ → Expr T → Refusal → Type 0
IsNewSubRefusal hubs count e (BadExpr k) = refusal hubs e ≡ Some k
IsNewSubRefusal hubs count e TooMany = refusal hubs e ≡ None
IsNewSubRefusal hubs count e NoMemory = (refusal hubs e ≡ None) × (count < MOST_SUBSCRIPTIONS)
IsNewSubRefusal hubs count e r = ⊥

-- why a hub with a feed is not made, where there are so many hubs: a fault first, then the limits (of hubs, and of a hub's members),
-- and memory last
abbrev pub IsNewFeedRefusal : {T : Type 0} → HubKind → ℕ → Expr T → ℕ → Refusal → Type 0
IsNewFeedRefusal k c e count (BadExpr b) = fault_of k c count e ≡ Some b
IsNewFeedRefusal k c e count TooMany = fault_of k c count e ≡ None
IsNewFeedRefusal k c e count NoMemory = (fault_of k c count e ≡ None) × (count < MOST_HUBS)
IsNewFeedRefusal k c e count r = ⊥

-- why a move in a tree is refused: an unknown name first, then a move that isn't enabled, and memory last
abbrev pub IsTreeRefusal : {T : Type 0} → History T → Bool → Tree → Refusal → Type 0
IsTreeRefusal h enabled (Sub i) r = IsSubMoveRefusal (length h.pasts) enabled i r
IsTreeRefusal h enabled (FeedOf i) r = IsFeedRefusal (is_fed (slice_get h.hubs i.0)) enabled r

abbrev pub IsMoveRefusal : {T : Type 0} → History T → Bool → Move → Refusal → Type 0
IsMoveRefusal h enabled (Ask t n) r = IsTreeRefusal h enabled t r
IsMoveRefusal h enabled (Send t n) r = IsTreeRefusal h enabled t r
IsMoveRefusal h enabled (Take t n) r = IsTreeRefusal h enabled t r
IsMoveRefusal h enabled (Pick t n i) r = IsTreeRefusal h enabled t r
IsMoveRefusal h enabled (Row t n) r = IsTreeRefusal h enabled t r
IsMoveRefusal h enabled (Accept i) r = IsAcceptRefusal (length h.hubs) enabled i.0 r

-- the tree of a move that was made is there, and so is the hub of an Accept, which has an emitter
abbrev pub IsOfKnownTree : {T : Type 0} → History T → Tree → Type 0
IsOfKnownTree h (Sub i) = i.0 < length h.pasts
IsOfKnownTree h (FeedOf i) = is_fed (slice_get h.hubs i.0) ≡ true

abbrev pub IsOfKnown : {T : Type 0} → History T → Move → Type 0
IsOfKnown h (Ask t n) = IsOfKnownTree h t
IsOfKnown h (Send t n) = IsOfKnownTree h t
IsOfKnown h (Take t n) = IsOfKnownTree h t
IsOfKnown h (Pick t n i) = IsOfKnownTree h t
IsOfKnown h (Row t n) = IsOfKnownTree h t
IsOfKnown h (Accept i) = is_emitted (slice_get h.hubs i.0) ≡ true

-- an answer that belongs to a step after this history: its names are those of the history, and a refusal comes in its case
abbrev pub Belongs : {T : Type 0} → History T → Step T → Answer T → Type 0
Belongs h (Subscribe e) (Subscribed i) = IsSubscribeId (length h.hubs) (length h.pasts) e i
Belongs h (Subscribe e) (NotDone r) = IsNewSubRefusal (length h.hubs) (length h.pasts) e r
Belongs h (Request i n) (Requested o) = (s : SubscriptionState) × (state_at h.pasts i.0 ≡ Some s) × (o ≡ request_answer s n)
Belongs h (Request i n) (NotDone r) = (r ≡ UnknownSub) × (length h.pasts ≤ i.0)
Belongs h (Cancel i) CancelTaken = i.0 < length h.pasts
Belongs h (Cancel i) (NotDone r) = (r ≡ UnknownSub) × (length h.pasts ≤ i.0)
Belongs h (Make mv) (Made o) = IsMadeAnswer mv o × IsOfKnown h mv
Belongs h (Make mv) (NotDone r) = (enabled : Bool) × IsMoveRefusal h enabled mv r
Belongs h (Hub k c) (Opened i) = (i.0 ≡ length h.hubs) × (are_numbers k c ≡ true) × (length h.hubs < MOST_HUBS)
Belongs h (Hub k c) (NotDone r) = IsHubRefusal k c (length h.hubs) r
Belongs h (FeedHub k c e) (Opened i) = (i.0 ≡ length h.hubs) × (fault_of k c (length h.hubs) e ≡ None) × (length h.hubs < MOST_HUBS)
Belongs h (FeedHub k c e) (NotDone r) = IsNewFeedRefusal k c e (length h.hubs) r
Belongs h (Emit i x) Published = is_emitting (slice_get h.hubs i.0) ≡ true
Belongs h (Emit i x) (NotDone r) = IsItemRefusal h.hubs i.0 r
Belongs h (Complete i) Published = is_emitting (slice_get h.hubs i.0) ≡ true
Belongs h (Complete i) (NotDone r) = IsEndingRefusal h.hubs i.0 r
Belongs h (Fail i n) Published = is_emitting (slice_get h.hubs i.0) ≡ true
Belongs h (Fail i n) (NotDone r) = IsEndingRefusal h.hubs i.0 r
Belongs h s a = ⊥

-- each answer belongs to its step
abbrev pub AllBelong : {T : Type 0} → History T → List (Step T) → List (Answer T) → List (Option (Signal T)) → Type 0
AllBelong h [] [] [] = ⊤
AllBelong h (s ∷ ss) (a ∷ as') (o ∷ sent) = Belongs h s a × AllBelong (extended h s a o) ss as' sent
AllBelong h ss as' sent = ⊥
