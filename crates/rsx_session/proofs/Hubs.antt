-- Lemmas about the values of the hubs.
use Rattle.rsx_session.specs.Prelude.{AreValues, Feed, HasFedJoins, HasFeedNotes, History, HubPast, HubSource, IsFeedLookRefusal, IsFeedRefused, IsHubsTrouble, IsNextTrouble, IsNextValue, IsScratchTrouble, IsTrouble, IsTroubleOf, IsValue, Note, Refusal, Session, SessionStands, Source, SourceStands, Stream, Trouble, Val, demo_meaning, emitted, fed, feed_of, has_feed, notes_of, place_of, source_of, state_of}
use Rattle.std.proofs.Common.{◌≡◌, ◌<◌, ◌+◌, ◌&&◌, true, false, ℕ, zero, suc, List, [], ◌∷◌, ◌++◌, length, map, take, get_or, append_assoc, refl, ap, sym, subst, ◌∙◌, arith, Some, is_some, Result, Ok, Err, slice_get}
use Rattle.std.specs.Result.{IfErr, IsErr, IsErrAnd}
use Rattle.std.proofs.lemmas.List.{append-nil, take_more}
use Rattle.std.proofs.lemmas.Option.{get_or_from_slice_get, slice_get_within}
use Rattle.rsx_subscriber.specs.Prelude.{environment, Expr, IsScratch, ScratchRefusal}
use Rattle.rsx_hub.specs.Hub.{HubState}
use Rattle.rsx_graph_state.specs.declared.refusal.Refusal.TheVariants as refusal
use Rattle.rsx_session.specs.declared.published.HubSource.TheVariants as kept
use Rattle.rsx_session.specs.declared.session.Trouble.TheVariants as trouble
use Rattle.rsx_session.proofs.Looks.{past_at}

-- ---- one hub after the other

pub values_more : (feeds : List (Feed Val)) (before : List (Stream Val)) (ps : List (HubPast Val)) (vs : List (Stream Val)) (p : HubPast Val) (v : Stream Val) → AreValues demo_meaning feeds before ps vs → IsValue demo_meaning feeds (before ++ vs) p.source v →
    AreValues demo_meaning feeds before (ps ++ p ∷ []) (vs ++ v ∷ [])
values_more feeds before [] vs p v e k =
    let P : List (Stream Val) → Type 0 = λ l. AreValues demo_meaning feeds before (p ∷ []) (l ++ v ∷ []) in
    let Q : List (Stream Val) → Type 0 = λ l. IsValue demo_meaning feeds (before ++ l) p.source v in
    let R : List (Stream Val) → Type 0 = λ l. IsValue demo_meaning feeds l p.source v in
    subst P (sym e) (subst R (append-nil before) (subst Q e k), refl)
values_more feeds before (q ∷ ps) [] p v e k = absurd e
values_more feeds before (q ∷ ps) (w ∷ vs) p v e k =
    let R : List (Stream Val) → Type 0 = λ l. IsValue demo_meaning feeds l p.source v in
    (e.0, values_more feeds (before ++ w ∷ []) ps vs p v e.1 (subst R (sym (append_assoc before (w ∷ []) vs)) k))

-- the hub of which this is kept
pub hub_kept : (hubs : List (HubPast Val)) (vs : List HubSource) (i : ℕ) (v : HubSource) → vs ≡ map (λ p. source_of p.source) hubs → i < length vs → v ≡ get_or vs i v → (p : HubPast Val) × (slice_get hubs i ≡ Some p) × (source_of p.source ≡ v)
hub_kept hubs [] i v e lt at = absurd (omega arith)
hub_kept [] (x ∷ vs) i v e lt at = cc
hub_kept (p ∷ hubs) (x ∷ vs) zero v e lt at = let one : x ≡ source_of p.source = cc in (p, refl, sym (at ∙ one))
hub_kept (p ∷ hubs) (x ∷ vs) (suc i) v e lt at = let others : vs ≡ map (λ q. source_of q.source) hubs = cc in hub_kept hubs vs i v others (omega arith) at

-- the values of the first hubs, and that of the next one
pub next_value : (s : Session) (h : History Val) → SessionStands s h → (i : ℕ) (vs before : List (Stream Val)) (v : Stream Val) (source : HubSource) → AreValues demo_meaning s.graph.feeds.items [] (take i h.hubs) vs → length vs ≡ i → before ≡ vs → i < length s.published.items → source ≡ get_or s.published.items i source → IsNextValue (place_of s h) before source v →
    AreValues demo_meaning s.graph.feeds.items [] (take (i + 1) h.hubs) (vs ++ v ∷ [])
next_value s h k i vs before v source values count same lt at is =
    let hub = hub_kept h.hubs s.published.items i source k.published lt at in
    let there = hub.1 in
    let more : take (i + 1) h.hubs ≡ take i h.hubs ++ hub.0 ∷ [] = take_more h.hubs i hub.0 (slice_get_within h.hubs i hub.0 there) ∙ ap (λ p. take i h.hubs ++ p ∷ []) (get_or_from_slice_get h.hubs i hub.0 hub.0 there) in
    let A : List (HubPast Val) → Type 0 = λ l. AreValues demo_meaning s.graph.feeds.items [] l (vs ++ v ∷ []) in
    let B : List (Stream Val) → Type 0 = λ l. IsValue demo_meaning s.graph.feeds.items l hub.0.source v in
    let number : i ≡ length before = sym count ∙ ap length (sym same) in
    subst A (sym more) (values_more s.graph.feeds.items [] (take i h.hubs) vs hub.0 v values (subst B same (is hub.0 (ap (slice_get h.hubs) (sym number) ∙ there) hub.2)))

-- a trouble of the next one
pub next_trouble : (s : Session) (h : History Val) → SessionStands s h → (i : ℕ) (vs before : List (Stream Val)) (t : Trouble) (source : HubSource) → AreValues demo_meaning s.graph.feeds.items [] (take i h.hubs) vs → length vs ≡ i → before ≡ vs → i < length s.published.items → source ≡ get_or s.published.items i source → IsNextTrouble (place_of s h) before source t →
    IsHubsTrouble (place_of s h) t
next_trouble s h k i vs before t source values count same lt at is =
    let hub = hub_kept h.hubs s.published.items i source k.published lt at in
    let number : i ≡ length before = sym count ∙ ap length (sym same) in
    let N : ℕ → Type 0 = λ n. AreValues demo_meaning s.graph.feeds.items [] (take n h.hubs) before in
    let V : List (Stream Val) → Type 0 = λ l. AreValues demo_meaning s.graph.feeds.items [] (take i h.hubs) l in
    is hub.0 (ap (slice_get h.hubs) (sym number) ∙ hub.1) hub.2 (subst N number (subst V (sym same) values))

-- a trouble that is passed on
pub hubs_passed : {A : Type 0} (t : Trouble) (result : Result A Trouble) (P : Trouble → Type 0) → P t → IsErr result × IsErrAnd result (λ u. u ≡ t) → IfErr result P
hubs_passed t (Ok a) P k e = tt
hubs_passed t (Err u) P k e = subst P (sym e.1) k

-- ---- a hub with a feed

-- it is fed by the expression that is kept, whose leaves have these joins
fed_by_it : (hubs : List (HubPast Val)) (n number : ℕ) (hub : HubPast Val) (source : HubSource) (e : Expr Val) (js : List ℕ) → number ≡ n → slice_get hubs n ≡ Some hub → source_of hub.source ≡ source → source ≡ kept.Fed e → HasFedJoins hubs number js → hub.source ≡ fed e js
fed_by_it hubs n number hub source e js at there own is k =
    let found : slice_get hubs n ≡ Some k.0 = ap (slice_get hubs) (sym at) ∙ k.2 in
    let one : k.0 ≡ hub = cc in
    let src : hub.source ≡ fed k.1 js = ap (λ q. q.source) (sym one) ∙ k.3 in
    let both : kept.Fed k.1 ≡ kept.Fed e = sym (ap source_of src) ∙ (own ∙ is) in
    let same : k.1 ≡ e = cc in
    src ∙ ap (λ x. fed x js) same

feed_at : (feeds : List (Feed Val)) (number n : ℕ) (f : Feed Val) → number ≡ n → feed_of feeds number ≡ Some f → feed_of feeds n ≡ Some f
feed_at feeds number n f at e = ap (feed_of feeds) (sym at) ∙ e

-- under the notes that were found
scratch_of : (before : List (Stream Val)) (js : List ℕ) (found notes : List Note) (e : Expr Val) (r : Result (Stream Val) ScratchRefusal) → found ≡ notes → IsScratch (environment demo_meaning before js found) e r → IsScratch (environment demo_meaning before js notes) e r
scratch_of before js found notes e r same is = let P : List Note → Type 0 = λ l. IsScratch (environment demo_meaning before js l) e r in subst P same is

pub fed_next : (s : Session) (h : History Val) (before : List (Stream Val)) (source : HubSource) (e : Expr Val) (v : Stream Val) (number : ℕ) (js : List ℕ) (notes : List Note) → number ≡ length before → source ≡ kept.Fed e → HasFeedNotes (state_of s.graph).rows number notes → HasFedJoins h.hubs number js →
    IsScratch (environment demo_meaning before js notes) e (Ok v) → IsNextValue (place_of s h) before source v
fed_next s h before source e v number js notes at is noted joined was = λ hub there own.
    let src = fed_by_it h.hubs (length before) number hub source e js at there own is joined in
    let V : Source Val → Type 0 = λ x. IsValue demo_meaning s.graph.feeds.items before x v in
    subst V (sym src) (noted.feed, feed_at s.graph.feeds.items number (length before) noted.feed at noted.there, (scratch_of before js notes (notes_of noted.feed.part.tree) e (Ok v) noted.notes was).2)

pub fed_refused : (s : Session) (before : List (Stream Val)) (source : HubSource) (e : Expr Val) (r : ScratchRefusal) (number : ℕ) (js : List ℕ) (notes : List Note) (result : Result (Stream Val) Trouble) → number ≡ length before → source ≡ kept.Fed e → HasFeedNotes (state_of s.graph).rows number notes →
    ((h : History Val) → SessionStands s h → HasFedJoins h.hubs number js) → IsScratch (environment demo_meaning before js notes) e (Err r) → IsErr result × IsErrAnd result (λ t. IsTrouble t × IsScratchTrouble r t) → IfErr result (λ t. (h : History Val) → SessionStands s h → IsNextTrouble (place_of s h) before source t)
fed_refused s before source e r number js notes (Ok a) at is noted joined was f = tt
fed_refused s before source e r number js notes (Err trouble.Memory) at is noted joined was f = λ h k hub there own first. tt
fed_refused s before source e r number js notes (Err (trouble.Refused name)) at is noted joined was f = λ h k hub there own first.
    let refused : IsFeedRefused (place_of s h) r = record {
      before = before;
      values = first;
      hub = hub;
      there = there;
      expression = e;
      joins = js;
      source = fed_by_it h.hubs (length before) number hub source e js at there own is (joined h k);
      feed = noted.feed;
      feeds = feed_at s.graph.feeds.items number (length before) noted.feed at noted.there;
      refused = scratch_of before js notes (notes_of noted.feed.part.tree) e (Err r) noted.notes was;
    } in
    (r, refused, f.1.1.0, f.1.1.1)

-- a hub that is fed has a feed
has_its_feed : (s : Session) (h : History Val) → SessionStands s h → (n : ℕ) (hub : HubPast Val) (source : HubSource) (e : Expr Val) → slice_get h.hubs n ≡ Some hub → source_of hub.source ≡ source → source ≡ kept.Fed e → has_feed (state_of s.graph).rows n ≡ true
has_its_feed s h k n hub source e there own is =
    let lt = slice_get_within h.hubs n hub there in
    let many = k.graph.rows.many in
    let each = k.graph.rows.each in
    let taken = past_at k.graph.rows.taken n (omega (arith, lt, each)) in
    let state = past_at s.graph.hubs.items n (omega (arith, lt, many)) in
    by_source hub.source (own ∙ is) taken.0 state.0 state.1 (k.graph.rows.hub n taken.0 state.0 hub taken.1 state.1 there).source
  where
    by_source : (src : Source Val) → source_of src ≡ kept.Fed e → (v : Stream Val) (t : HubState Val) → slice_get s.graph.hubs.items n ≡ Some t → SourceStands demo_meaning s.graph.feeds.items k.graph.rows.taken n v t src → has_feed (state_of s.graph).rows n ≡ true
    by_source (emitted w) same v t found st = cc
    by_source (fed x js) same v t found st = ap (λ o. is_some o && is_some (feed_of s.graph.feeds.items n)) found ∙ ap is_some st.there

-- so a look at that feed is refused for want of memory alone
pub feed_refused : (s : Session) (before : List (Stream Val)) (source : HubSource) (e : Expr Val) (r : Refusal) (number : ℕ) (result : Result (Stream Val) Trouble) → number ≡ length before → source ≡ kept.Fed e → IsFeedLookRefusal (state_of s.graph).rows number r →
    IsErr result × IsErrAnd result (λ t. IsTrouble t × IsTroubleOf r t) → IfErr result (λ t. (h : History Val) → SessionStands s h → IsNextTrouble (place_of s h) before source t)
feed_refused s before source e r number (Ok a) at is why f = tt
feed_refused s before source e r number (Err trouble.Memory) at is why f = λ h k hub there own first. tt
feed_refused s before source e r number (Err (trouble.Refused name)) at is why f = λ h k hub there own first. absurd (never r why f.1.1.0 (ap (has_feed (state_of s.graph).rows) at ∙ has_its_feed s h k (length before) hub source e there own is))
  where
    never : (q : Refusal) → IsFeedLookRefusal (state_of s.graph).rows number q → (q ≡ refusal.NoMemory → ⊥) → has_feed (state_of s.graph).rows number ≡ true → ⊥
    never refusal.UnknownHub none other has = let bad : false ≡ true = sym none ∙ has in absurd cc
    never refusal.NoMemory there other has = other refl
    never refusal.UnknownSub none other has = none
    never refusal.Ended none other has = none
    never refusal.Full none other has = none
    never refusal.TooMany none other has = none
    never (refusal.BadExpr b) none other has = none
    never refusal.NotEnabled none other has = none
