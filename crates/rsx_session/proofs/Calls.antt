-- Lemmas about the calls of a session.
use Rattle.rsx_session.specs.Prelude.{AllLead, Answer, Complete, Error, Feed, GraphStands, GraphState, History, HubPast, HubSource, IsRequestedAt, IsStepMade, IsTrouble, IsTroubleOf, Known, LeadsBy, Next, NonPositiveRequest, OnText, Record, Refusal, Session, SessionStands, Signal, Source, SubId, Subscription, Trouble, Val, any_machine, demo_allocates, demo_meaning, emitted, ended_by, ending_after, ending_by, extended, fed, feed_of, has_emitter, joins_in, known, published_at, published_from, seen, source_ended, source_of, source_with, source_without_last, sources_of, state_of, step_text, taken, with_delivery, with_fed_hub, with_hub}
use Rattle.std.proofs.Common.{◌≡◌, ◌≤◌, ◌<◌, ◌&&◌, true, false, ℕ, ℤ, pos, negsuc, zero, suc, List, [], ◌∷◌, ◌++◌, length, map, get_or, refl, ap, sym, subst, ◌∙◌, ◌-◌, arith, take, length-append, Option, Some, None, is_none, is_some, Result, Ok, Err, codes}
use Rattle.std.proofs.Math.ListN.{set}
use Rattle.std.specs.Result.{IsErr, IsErrAnd}
use Rattle.std.proofs.lemmas.List.{append-nil, get_or-set_same, length-map, map_push, set-get_or, set-set}
use Rattle.std.proofs.lemmas.Option.{slice_get_past}
use Rattle.std.proofs.Math.Seq.{take-append_seam}
use Rattle.rsx_types.specs.declared.names.HubKind.{HubKind}
use Rattle.rsx_subscriber.specs.Prelude.{Expr, Past, given, items_in, request_answer, requested, requested_in, subscribed, standing_of}
use Rattle.rsx_types.specs.declared.signal.Cause.{Cause}
use Rattle.rsx_types.specs.declared.signal.Ending.{Ending}
use Rattle.rsx_types.specs.declared.signal.Ending.TheVariants.{Open, Done, Failed}
use Rattle.rsx_graph_state.specs.Prelude.{HubState, SubscriptionState, changed, state_at}
use Rattle.rsx_subscriber.specs.declared.state.SubscriptionState.TheVariants as state
use Rattle.rsx_graph_state.proofs.Graphs.{state_there}
use Rattle.rsx_graph_state.specs.declared.refusal.Refusal.TheVariants.{NoMemory}
use Rattle.rsx_graph_state.specs.declared.step.Answer.{Answer as Answered}
use Rattle.rsx_graph_state.specs.declared.step.Answer.TheVariants as did
use Rattle.rsx_graph.specs.Done.{IsDone, fed_by}
use Rattle.rsx_graph.specs.declared.step.Step.{Step}
use Rattle.rsx_session.specs.declared.published.HubSource.TheVariants as kept
use Rattle.rsx_session.specs.declared.session.Trouble.TheVariants as trouble

-- the history after a step, with what goes out of a feed by it
abbrev after : Step Val → Answered Val → Session → History Val → History Val
after s answer old h = extended h s answer (fed_by demo_meaning (state_of old.graph) s answer)

pub made : (s : Step Val) (answer : Answered Val) (old new : Session) (h : History Val) → SessionStands old h → GraphStands demo_meaning (state_of new.graph) (after s answer old h) → IsDone demo_meaning demo_allocates (state_of old.graph) s answer (state_of new.graph) → (answer ≡ did.Refused NoMemory → ⊥) →
    new.published.items ≡ sources_of (after s answer old h) → map known new.records.items ≡ map seen (after s answer old h).pasts → new.spare.items ≡ old.spare.items → new.view ≡ old.view → LeadsBy (IsStepMade s) old h (step_text answer) new
made s answer old new h k stands done granted p r e v = record {
  history = after s answer old h;
  stands = record { graph = stands; published = p; records = r; spare = e ∙ k.spare };
  answers = (answer, done, refl, granted, refl);
  view = v;
}

-- a call that the graph refused changed nothing
pub not_made : (s : Step Val) (old new : Session) (r : Refusal) (result : Result Answer Trouble) → ((h : History Val) (o : Option (Signal Val)) → extended h s (did.Refused r) o ≡ h) → ((h : History Val) → SessionStands old h → IsDone demo_meaning demo_allocates (state_of old.graph) s (did.Refused r) (state_of new.graph)) → state_of new.graph ≡ state_of old.graph →
    new.published.items ≡ old.published.items → new.records.items ≡ old.records.items → new.spare.items ≡ old.spare.items → new.view ≡ old.view → IsErr result × IsErrAnd result (λ t. IsTrouble t × IsTroubleOf r t) → OnText result (λ text. AllLead (IsStepMade s) old text new)
not_made s old new r (Ok a) none done same p q e v is = let bad : false ≡ true = is.0 in absurd cc
not_made s old new r (Err trouble.Memory) none done same p q e v is = tt
not_made s old new r (Err (trouble.Refused name)) none done same p q e v is = λ h k.
    let G : GraphState Val → Type 0 = λ g. GraphStands demo_meaning g h in
    record {
      history = h;
      stands = record { graph = subst G (sym same) k.graph; published = p ∙ k.published; records = ap (map known) q ∙ k.records; spare = e ∙ k.spare };
      answers = (did.Refused r, done h k, sym (none h (fed_by demo_meaning (state_of old.graph) s (did.Refused r))), (λ bad. is.1.1.0 (let one : r ≡ NoMemory = cc in one)), ap (λ n. codes "refused " ++ n) is.1.1.1);
      view = v;
    }

-- want of memory has no answer
pub no_memory : (result : Result Answer Trouble) (P : List ℕ → Type 0) → IsErr result × IsErrAnd result (λ t. t ≡ trouble.Memory) → OnText result P
no_memory (Ok a) P e = let bad : false ≡ true = e.0 in absurd cc
no_memory (Err trouble.Memory) P e = tt
no_memory (Err (trouble.Refused name)) P e = let bad : trouble.Refused name ≡ trouble.Memory = e.1 in absurd cc

-- ---- hubs

-- something is kept of each hub
pub hubs_count : (s : Session) (h : History Val) → SessionStands s h → length s.published.items ≡ length s.graph.hubs.items
hubs_count s h k = ap length k.published ∙ (length-map h.hubs (λ p. source_of p.source) ∙ sym k.graph.rows.many)

-- a hub that isn't there has no emitter
pub none_emits : (hubs : List (HubState Val)) (feeds : List (Feed Val)) (i : ℕ) → length hubs ≤ i → has_emitter hubs feeds i ≡ false
none_emits hubs feeds i lt = ap (λ o. is_some o && is_none (feed_of feeds i)) (slice_get_past hubs i lt)

signalled : (s : Signal Val) (source : Source Val) → source_with s (source_of source) ≡ source_of (published_from s source)
signalled s (emitted w) = refl
signalled s (fed e js) = refl

pub published_set : (s : Signal Val) (hubs : List (HubPast Val)) (vs : List HubSource) (i : ℕ) (v : HubSource) → vs ≡ map (λ p. source_of p.source) hubs → i < length vs → get_or vs i v ≡ v → set vs i (source_with s v) ≡ map (λ p. source_of p.source) (changed (published_at s) hubs i)
published_set s hubs [] i v e lt at = absurd (omega arith)
published_set s [] (x ∷ vs) i v e lt at = cc
published_set s (p ∷ hubs) (x ∷ vs) zero v e lt at =
    let one : x ≡ source_of p.source = cc in
    let others : vs ≡ map (λ q. source_of q.source) hubs = cc in
    let same : v ≡ source_of p.source = sym at ∙ one in
    ap (λ n. source_with s n ∷ vs) same ∙ (ap (λ n. n ∷ vs) (signalled s p.source) ∙ ap (λ l. source_of (published_from s p.source) ∷ l) others)
published_set s (p ∷ hubs) (x ∷ vs) (suc i) v e lt at =
    let one : x ≡ source_of p.source = cc in
    let others : vs ≡ map (λ q. source_of q.source) hubs = cc in
    ap (λ n. n ∷ set vs i (source_with s v)) one ∙ ap (λ l. source_of p.source ∷ l) (published_set s hubs vs i v others (omega arith) at)

-- its completion, or its failure
pub completed : (v : HubSource) → source_ended Done v ≡ source_with Complete v
completed (kept.Emitted w) = refl
completed (kept.Fed e) = refl

pub failed : (c : Cause) (v : HubSource) → source_ended (Failed c) v ≡ source_with (Error c) v
failed c (kept.Emitted w) = refl
failed c (kept.Fed e) = refl

one_more : (hubs : List (HubPast Val)) (old new : List HubSource) (v : HubSource) (p : HubPast Val) → new ≡ old ++ v ∷ [] → old ≡ map (λ q. source_of q.source) hubs → v ≡ source_of p.source → new ≡ map (λ q. source_of q.source) (hubs ++ p ∷ [])
one_more hubs old new v p e k is = e ∙ (ap (λ l. l ++ v ∷ []) k ∙ (ap (λ x. map (λ q. source_of q.source) hubs ++ x ∷ []) is ∙ sym (map_push (λ q. source_of q.source) hubs p)))

pub hub_published : (kind : HubKind) (h : History Val) (old new : List HubSource) (v : HubSource) → new ≡ old ++ v ∷ [] → old ≡ sources_of h → v ≡ kept.Emitted (ended_by Open) → new ≡ sources_of (with_hub kind h)
hub_published kind h old new v e k is = one_more h.hubs old new v (record { kind = kind; source = emitted (ended_by Open); count = 0 }) e k is

pub feed_published : (kind : HubKind) (expr : Expr Val) (h : History Val) (old new : List HubSource) → new ≡ old ++ kept.Fed expr ∷ [] → old ≡ sources_of h → new ≡ sources_of (with_fed_hub kind expr h)
feed_published kind expr h old new e k = one_more h.hubs old new (kept.Fed expr) (record { kind = kind; source = fed expr (joins_in h expr); count = 0 }) e k refl

pub no_delivery : (o : Option (SubId × Signal Val)) (h : History Val) → o ≡ None → with_delivery o h ≡ h
no_delivery o h e = ap (λ x. with_delivery x h) e

pub subscribed_records : (e : Expr Val) (js : List ℕ) (ps : List (Past Val)) (old new : List Record) (r : Record) → new ≡ old ++ r ∷ [] → map known old ≡ map seen ps → r.expr ≡ e → r.received.items ≡ [] → r.ending ≡ Open → map known new ≡ map seen (ps ++ subscribed e js ∷ [])
subscribed_records e js ps old new r n k a b c =
    let one : known r ≡ seen (subscribed e js) = λ i. record { expression = a i; items = b i; ending = c i } in
    ap (map known) n ∙ (map_push known old r ∙ (ap (λ l. l ++ known r ∷ []) k ∙ (ap (λ x. map seen ps ++ x ∷ []) one ∙ sym (map_push seen ps (subscribed e js)))))

-- ---- what is kept of subscribers

pub seen_same : (f : Past Val → Past Val) → ((p : Past Val) → seen (f p) ≡ seen p) → (ps : List (Past Val)) (i : ℕ) → map seen (changed f ps i) ≡ map seen ps
seen_same f k [] i = refl
seen_same f k (p ∷ ps) zero = ap (λ n. n ∷ map seen ps) (k p)
seen_same f k (p ∷ ps) (suc i) = ap (λ l. seen p ∷ l) (seen_same f k ps i)

items_more : (ss : List (Signal Val)) (s : Signal Val) → items_in (ss ++ s ∷ []) ≡ items_in ss ++ items_in (s ∷ [])
items_more [] s = refl
items_more (Next x ∷ ss) s = ap (λ l. x ∷ l) (items_more ss s)
items_more (Complete ∷ ss) s = items_more ss s
items_more (Error c ∷ ss) s = items_more ss s

ending_more : (e : Ending) (ss : List (Signal Val)) (s : Signal Val) → ending_after e (ss ++ s ∷ []) ≡ ending_by (ending_after e ss) s
ending_more e [] s = refl
ending_more e (x ∷ ss) s = ending_more (ending_by e x) ss s

-- a signal more was received
pub seen_given : (s : Signal Val) (p : Past Val) → seen (given s p) ≡ taken s (seen p)
seen_given (Next x) p = λ i. record { expression = p.expression; items = items_more p.received (Next x) i; ending = ending_more Open p.received (Next x) i }
seen_given Complete p = λ i. record { expression = p.expression; items = (items_more p.received Complete ∙ append-nil (items_in p.received)) i; ending = ending_more Open p.received Complete i }
seen_given (Error c) p = λ i. record { expression = p.expression; items = (items_more p.received (Error c) ∙ append-nil (items_in p.received)) i; ending = ending_more Open p.received (Error c) i }

-- a signal, if there is one, was received by the subscriber with this number
abbrev pub after_signal : Option (Signal Val) → List Known → ℕ → List Known
after_signal None ks i = ks
after_signal (Some s) ks i = changed (taken s) ks i

seen_requested : (n : ℤ) (p : Past Val) → after_signal (request_answer p.state n) (seen p ∷ []) 0 ≡ seen (requested n p) ∷ []
seen_requested n p = go p.state n
  where
    go : (st : SubscriptionState) (z : ℤ) → after_signal (request_answer st z) (seen p ∷ []) 0 ≡ seen (requested_in st z p) ∷ []
    go state.Open (pos zero) = ap (λ k. k ∷ []) (sym (seen_given (Error NonPositiveRequest) p))
    go state.Open (pos (suc k)) = refl
    go state.Open (negsuc k) = ap (λ k. k ∷ []) (sym (seen_given (Error NonPositiveRequest) p))
    go state.Ended z = refl
    go state.Cancelled z = refl
    go state.Refused z = refl

first_after : (o : Option (Signal Val)) (k l : Known) (ks : List Known) → after_signal o (k ∷ []) 0 ≡ l ∷ [] → after_signal o (k ∷ ks) 0 ≡ l ∷ ks
first_after None k l ks e = let one : k ≡ l = cc in ap (λ x. x ∷ ks) one
first_after (Some s) k l ks e = let one : taken s k ≡ l = cc in ap (λ x. x ∷ ks) one

other_after : (o : Option (Signal Val)) (k : Known) (ks : List Known) (i : ℕ) → after_signal o (k ∷ ks) (suc i) ≡ k ∷ after_signal o ks i
other_after None k ks i = refl
other_after (Some s) k ks i = refl

pub requested_kept : (n : ℤ) (ps : List (Past Val)) (i : ℕ) (st : SubscriptionState) → state_at ps i ≡ Some st → after_signal (request_answer st n) (map seen ps) i ≡ map seen (changed (requested n) ps i)
requested_kept n [] i st e = cc
requested_kept n (p ∷ ps) zero st e =
    let same : p.state ≡ st = cc in
    let P : SubscriptionState → Type 0 = λ x. after_signal (request_answer x n) (seen p ∷ map seen ps) 0 ≡ seen (requested n p) ∷ map seen ps in
    subst P same (first_after (request_answer p.state n) (seen p) (seen (requested n p)) (map seen ps) (seen_requested n p))
requested_kept n (p ∷ ps) (suc i) st e = other_after (request_answer st n) (seen p) (map seen ps) i ∙ ap (λ l. seen p ∷ l) (requested_kept n ps i st e)

-- the record with this number took a signal in
pub known_set : (s : Signal Val) (rs : List Record) (i : ℕ) (old new : Record) → i < length rs → get_or rs i old ≡ old → known new ≡ taken s (known old) → map known (set rs i new) ≡ changed (taken s) (map known rs) i
known_set s [] i old new lt at e = absurd (omega arith)
known_set s (r ∷ rs) zero old new lt at e = ap (λ k. k ∷ map known rs) (e ∙ ap (λ k. taken s (known k)) (sym at))
known_set s (r ∷ rs) (suc i) old new lt at e = ap (λ l. known r ∷ l) (known_set s rs i old new (omega arith) at e)

pub none_there : (s : Signal Val) (ks : List Known) (i : ℕ) → length ks ≤ i → changed (taken s) ks i ≡ ks
none_there s [] i lt = refl
none_there s (k ∷ ks) zero lt = absurd (omega arith)
none_there s (k ∷ ks) (suc i) lt = ap (λ l. k ∷ l) (none_there s ks i (omega arith))

pub request_records : (s : Session) (h : History Val) → SessionStands s h → (i : ℕ) (n : ℤ) (o : Option (Signal Val)) (subs : List (Subscription Val)) (new : List Known) → IsRequestedAt i n s.graph.subscriptions.items subs o → new ≡ after_signal o (map known s.records.items) i → new ≡ map seen (changed (requested n) h.pasts i)
request_records s h k i n o subs new eff e =
    let st = standing_of eff.old in
    let there = state_there any_machine demo_meaning k.graph.rows.taken s.graph.subscriptions.items h.pasts i eff.old eff.there k.graph.rows.all in
    e ∙ (ap (λ l. after_signal o l i) k.records ∙ (ap (λ x. after_signal x (map seen h.pasts) i) eff.answer ∙ requested_kept n h.pasts i st there))

pub passed_memory : (t : Trouble) (result : Result Answer Trouble) (P : List ℕ → Type 0) → t ≡ trouble.Memory → IsErr result × IsErrAnd result (λ u. u ≡ t) → OnText result P
passed_memory t (Ok a) P e k = let bad : false ≡ true = k.0 in absurd cc
passed_memory t (Err trouble.Memory) P e k = tt
passed_memory t (Err (trouble.Refused name)) P e k = let one = k.1 in let bad : trouble.Refused name ≡ trouble.Memory = one ∙ e in absurd cc

-- ---- an item that is let go again

without_last : (xs : List Val) (x : Val) → take (length (xs ++ x ∷ []) - 1) (xs ++ x ∷ []) ≡ xs
without_last xs x =
    let l = length-append xs (x ∷ []) in
    let n : length (xs ++ x ∷ []) - 1 ≡ length xs = omega (arith, l) in
    ap (λ k. take k (xs ++ x ∷ [])) n ∙ take-append_seam xs (x ∷ [])

pub let_go : (vs : List HubSource) (i : ℕ) (v more got after : HubSource) (x : Val) → i < length vs → get_or vs i v ≡ v → more ≡ source_with (Next x) v → got ≡ get_or (set vs i more) i got → after ≡ source_without_last got → set (set vs i more) i after ≡ vs
let_go vs i v more got after x lt at e g a =
    let one : got ≡ source_with (Next x) v = g ∙ (get_or-set_same vs i more got lt ∙ e) in
    let whole : after ≡ v = a ∙ (ap source_without_last one ∙ back v) in
    set-set vs i more after ∙ (ap (set vs i) (whole ∙ sym at) ∙ set-get_or vs i v)
  where
    back : (w : HubSource) → source_without_last (source_with (Next x) w) ≡ w
    back (kept.Emitted w) = ap kept.Emitted (λ j. record { items = without_last w.items x j; ending = w.ending })
    back (kept.Fed e) = refl
