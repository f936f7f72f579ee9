-- Lemmas about looks at a session.
use Rattle.rsx_session.specs.Prelude.{Answer, HasNotesAt, HaveValues, History, IsEvaluated, IsEvaluatedOver, IsFeedExplained, IsHubsTrouble, IsLookTrouble, IsOwed, IsRest, IsRestOf, IsScratchTrouble, IsShown, IsTrouble, IsTroubleOf, IsValueAt, IsValueOf, IsValued, Note, OfSub, OnText, Place, Record, Refusal, Says, Session, SessionStands, Stream, SubId, Trouble, Val, any_machine, demo_meaning, has_feed, known, notes_of, place_of, rest_text, seen, signals_text, state_of}
use Rattle.std.proofs.Common.{◌≡◌, ◌⊎◌, ◌≤◌, true, false, ℕ, zero, suc, List, [], ◌∷◌, ◌++◌, length, map, refl, ap, sym, subst, ◌∙◌, arith, Some, Result, Ok, Err, slice_get, inl, inr, codes}
use Rattle.std.specs.Result.{IfErr, IsErr, IsErrAnd}
use Rattle.rsx_subscriber.specs.Prelude.{environment, Expr, IsScratch, ScratchRefusal, Past}
use Rattle.std.proofs.lemmas.List.{length-map}
use Rattle.std.proofs.lemmas.Option.{slice_get_within}
use Rattle.rsx_graph_state.specs.Prelude.{HasAsked, HasJoins, IsLookRefusal, state_at, SubscriptionState}
use Rattle.rsx_graph_state.specs.Names.{name_codes}
use Rattle.rsx_graph_state.specs.declared.refusal.Refusal.TheVariants as refusal
use Rattle.rsx_types.specs.declared.names.HubId.{HubId}
use Rattle.rsx_graph_state.proofs.Graphs.{count_same}
use Rattle.rsx_script.specs.declared.print.Rest.{Rest}
use Rattle.rsx_script.specs.declared.print.Rest.TheVariants as rest
use Rattle.rsx_subscriber.specs.declared.state.SubscriptionState.TheVariants as state
use Rattle.rsx_session.specs.declared.session.Trouble.TheVariants as trouble

-- there are as many subscriptions as pasts
pub subs_count : (s : Session) (h : History Val) → SessionStands s h → length s.graph.subscriptions.items ≡ length h.pasts
subs_count s h k = count_same any_machine demo_meaning k.graph.rows.taken s.graph.subscriptions.items h.pasts k.graph.rows.all

-- there are as many lists of joins as pasts
pub joins_count : (s : Session) (h : History Val) → SessionStands s h → length s.graph.joins.items ≡ length h.pasts
joins_count s h k = sym (length-map s.graph.joins.items (λ v. v.items)) ∙ (ap length k.graph.joined.subs ∙ length-map h.pasts (λ p. p.joins))

pub asked_at : (ps : List (Past Val)) (i n : ℕ) → HasAsked ps i n → (past : Past Val) × (slice_get ps i ≡ Some past) × (n ≡ past.asked)
asked_at [] i n k = absurd k
asked_at (p ∷ ps) zero n k = (p, refl, k)
asked_at (p ∷ ps) (suc i) n k = asked_at ps i n k

pub joins_at : (ps : List (Past Val)) (i : ℕ) (js : List ℕ) → HasJoins ps i js → (past : Past Val) × (slice_get ps i ≡ Some past) × (js ≡ past.joins)
joins_at [] i js k = absurd k
joins_at (p ∷ ps) zero js k = (p, refl, k)
joins_at (p ∷ ps) (suc i) js k = joins_at ps i js k

-- what stands at a place that is there
pub past_at : {A : Type 0} (ps : List A) (i : ℕ) → suc i ≤ length ps → (past : A) × (slice_get ps i ≡ Some past)
past_at [] i k = absurd (omega arith)
past_at (p ∷ ps) zero k = (p, refl)
past_at (p ∷ ps) (suc i) k = past_at ps i (omega arith)

pub kept_at : (ks : List Record) (ps : List (Past Val)) (i : ℕ) (r : Record) → map known ks ≡ map seen ps → slice_get ks i ≡ Some r → (past : Past Val) × (slice_get ps i ≡ Some past) × (seen past ≡ known r)
kept_at [] ps i r e k = cc
kept_at (q ∷ ks) [] i r e k = cc
kept_at (q ∷ ks) (p ∷ ps) zero r e k = let here : q ≡ r = cc in let same : known q ≡ seen p = cc in (p, refl, sym same ∙ ap known here)
kept_at (q ∷ ks) (p ∷ ps) (suc i) r e k = let others : map known ks ≡ map seen ps = cc in kept_at ks ps i r others k

-- a look that the graph refused
pub look_refused : (s : Session) (count : ℕ) (i : SubId) (r : Refusal) (t : Trouble) → ((h : History Val) → SessionStands s h → count ≡ length h.pasts) → IsLookRefusal count i r → IsTroubleOf r t →
    OnText (Err t) (λ text. (h : History Val) (k : SessionStands s h) → (length h.pasts ≤ i.0) × (text ≡ codes "refused G2"))
look_refused s count i r trouble.Memory c k t = tt
look_refused s count i refusal.UnknownSub (trouble.Refused name) c k t = λ h st. (let e = c h st in omega (arith, e, k), ap (λ n. codes "refused " ++ n) t.1)
look_refused s count i refusal.NoMemory (trouble.Refused name) c k t = absurd (t.0 refl)
look_refused s count i refusal.UnknownHub (trouble.Refused name) c k t = absurd k
look_refused s count i refusal.Ended (trouble.Refused name) c k t = absurd k
look_refused s count i refusal.Full (trouble.Refused name) c k t = absurd k
look_refused s count i refusal.TooMany (trouble.Refused name) c k t = absurd k
look_refused s count i (refusal.BadExpr b) (trouble.Refused name) c k t = absurd k
look_refused s count i refusal.NotEnabled (trouble.Refused name) c k t = absurd k

pub look_err : (s : Session) (count : ℕ) (i : SubId) (r : Refusal) (result : Result Answer Trouble) (P : Place → List ℕ → Past Val → Type 0) → ((h : History Val) → SessionStands s h → count ≡ length h.pasts) → IsLookRefusal count i r →
    IsErr result × IsErrAnd result (λ t. IsTrouble t × IsTroubleOf r t) → Says s result (λ place text. OfSub place i.0 text (P place text))
look_err s count i r (Ok a) P c k e = let bad : false ≡ true = e.0 in absurd cc
look_err s count i r (Err trouble.Memory) P c k e = tt
look_err s count i r (Err (trouble.Refused name)) P c k e = λ h st. let got = look_refused s count i r (trouble.Refused name) c k e.1.1 h st in inr got

-- the same, where the graph can want no memory
pub unknown_err : (s : Session) (count : ℕ) (i : SubId) (r : Refusal) (result : Result Answer Trouble) (P : Place → List ℕ → Past Val → Type 0) → ((h : History Val) → SessionStands s h → count ≡ length h.pasts) → r ≡ refusal.UnknownSub → count ≤ i.0 →
    IsErr result × IsErrAnd result (λ t. IsTrouble t × IsTroubleOf r t) → Says s result (λ place text. OfSub place i.0 text (P place text))
unknown_err s count i r result P c e k = let L : Refusal → Type 0 = λ q. IsLookRefusal count i q in look_err s count i r result P c (subst L (sym e) k)

-- a look at a feed that isn't there
pub feed_err : (s : Session) (hub : HubId) (r : Refusal) (result : Result Answer Trouble) → r ≡ refusal.UnknownHub → has_feed (state_of s.graph).rows hub.0 ≡ false →
    IsErr result × IsErrAnd result (λ t. IsTrouble t × IsTroubleOf r t) → Says s result (λ place text. IsFeedExplained place hub text)
feed_err s hub r (Ok a) is none e = let bad : false ≡ true = e.0 in absurd cc
feed_err s hub r (Err trouble.Memory) is none e = tt
feed_err s hub r (Err (trouble.Refused name)) is none e = λ h st. inr (none, ap (λ n. codes "refused " ++ n) (e.1.1.1 ∙ ap name_codes is))

pub state_there : (ps : List (Past Val)) (i : ℕ) (st : SubscriptionState) → state_at ps i ≡ Some st → (past : Past Val) × (slice_get ps i ≡ Some past) × (past.state ≡ st)
state_there [] i st e = cc
state_there (p ∷ ps) zero st e = let same : p.state ≡ st = cc in (p, refl, same)
state_there (p ∷ ps) (suc i) st e = state_there ps i st e

-- ---- the slow evaluator

pub evaluated : (s : Session) (h : History Val) (sub : SubId) (past : Past Val) (e : Expr Val) (r : Result (Stream Val) ScratchRefusal) (published : List (Stream Val)) (joins : List ℕ) (notes : List Note) → HaveValues (place_of s h) published → slice_get h.pasts sub.0 ≡ Some past → past.expression ≡ e →
    HasNotesAt s.graph.subscriptions.items sub notes → HasJoins h.pasts sub.0 joins → IsScratch (environment demo_meaning published joins notes) e r → IsEvaluatedOver (place_of s h) sub past r
evaluated s h sub past e r published joins notes values there same noted joined is =
    let j = joins_at h.pasts sub.0 joins joined in
    let found = j.1 in
    let one : j.0 ≡ past = cc in
    let js : joins ≡ past.joins = j.2 ∙ ap (λ p. p.joins) one in
    let B : List ℕ → Type 0 = λ v. IsScratch (environment demo_meaning published v notes) e r in
    let C : List Note → Type 0 = λ v. IsScratch (environment demo_meaning published past.joins v) e r in
    let D : Expr Val → Type 0 = λ v. IsScratch (environment demo_meaning published past.joins (notes_of noted.0.part.tree)) v r in
    (published, values, (noted.0, noted.1, subst D (sym same) (subst C noted.2 (subst B js is))))

-- the same lists give the same answer
pub scratch_same : (e : Expr Val) (r : Result (Stream Val) ScratchRefusal) (hubs hubs' : List (Stream Val)) (joins joins' : List ℕ) (notes notes' : List Note) → hubs ≡ hubs' → joins ≡ joins' → notes ≡ notes' → IsScratch (environment demo_meaning hubs joins notes) e r → IsScratch (environment demo_meaning hubs' joins' notes') e r
scratch_same e r hubs hubs' joins joins' notes notes' a b c is =
    let A : List (Stream Val) → Type 0 = λ v. IsScratch (environment demo_meaning v joins notes) e r in
    let B : List ℕ → Type 0 = λ v. IsScratch (environment demo_meaning hubs' v notes) e r in
    let C : List Note → Type 0 = λ v. IsScratch (environment demo_meaning hubs' joins' v) e r in
    subst C c (subst B b (subst A a is))

-- where the subscription is there, a look is refused for want of memory alone
pub look_memory : (count : ℕ) (h : History Val) (sub : SubId) (past : Past Val) (r : Refusal) (t : Trouble) → slice_get h.pasts sub.0 ≡ Some past → count ≡ length h.pasts → IsLookRefusal count sub r → IsTroubleOf r t → t ≡ trouble.Memory
look_memory count h sub past r trouble.Memory there n k is = refl
look_memory count h sub past refusal.UnknownSub (trouble.Refused name) there n k is = let within = slice_get_within h.pasts sub.0 past there in absurd (omega (arith, within, n, k))
look_memory count h sub past refusal.NoMemory (trouble.Refused name) there n k is = absurd (is.0 refl)
look_memory count h sub past refusal.UnknownHub (trouble.Refused name) there n k is = absurd k
look_memory count h sub past refusal.Ended (trouble.Refused name) there n k is = absurd k
look_memory count h sub past refusal.Full (trouble.Refused name) there n k is = absurd k
look_memory count h sub past refusal.TooMany (trouble.Refused name) there n k is = absurd k
look_memory count h sub past (refusal.BadExpr b) (trouble.Refused name) there n k is = absurd k
look_memory count h sub past refusal.NotEnabled (trouble.Refused name) there n k is = absurd k

pub value_err : (place : Place) (count : ℕ) (sub : SubId) (past : Past Val) (r : Refusal) (result : Result (Stream Val) Trouble) → slice_get place.history.pasts sub.0 ≡ Some past → count ≡ length place.history.pasts → IsLookRefusal count sub r →
    IsErr result × IsErrAnd result (λ t. IsTrouble t × IsTroubleOf r t) → IsValueAt place sub past result
value_err place count sub past r (Ok v) there n k e = let bad : false ≡ true = e.0 in absurd cc
value_err place count sub past r (Err trouble.Memory) there n k e = tt
value_err place count sub past r (Err (trouble.Refused name)) there n k e = let m : trouble.Refused name ≡ trouble.Memory = look_memory count place.history sub past r (trouble.Refused name) there n k e.1.1 in absurd cc

pub scratch_err : (place : Place) (sub : SubId) (past : Past Val) (r : ScratchRefusal) (result : Result (Stream Val) Trouble) → IsEvaluated place sub past (Err r) → IsErr result × IsErrAnd result (λ t. IsTrouble t × IsScratchTrouble r t) → IsValueAt place sub past result
scratch_err place sub past r (Ok v) k e = let bad : false ≡ true = e.0 in absurd cc
scratch_err place sub past r (Err trouble.Memory) k e = tt
scratch_err place sub past r (Err (trouble.Refused name)) k e = (r, k, e.1.1.0, e.1.1.1)

-- a feed's expression was refused
pub hubs_err : (place : Place) (sub : SubId) (past : Past Val) (t : Trouble) (result : Result (Stream Val) Trouble) → IsHubsTrouble place t → IsErr result × IsErrAnd result (λ u. u ≡ t) → IsValueAt place sub past result
hubs_err place sub past t (Ok v) k e = let bad : false ≡ true = e.0 in absurd cc
hubs_err place sub past t (Err trouble.Memory) k e = tt
hubs_err place sub past t (Err (trouble.Refused name)) k e =
    let T : Trouble → Type 0 = λ u. IsHubsTrouble place u in
    let was = subst T (sym e.1) k in
    (was.0, inr was.1, was.2, was.3)

-- ---- what was received

pub shown : (s : Session) (h : History Val) → SessionStands s h → (sub : SubId) (r : Record) (left : Rest) (received : List Val) → slice_get s.records.items sub.0 ≡ Some r → received ≡ r.received.items → IsRestOf (place_of s h) sub left →
    IsShown (place_of s h) sub (codes "received" ++ (signals_text received r.ending ++ rest_text left))
shown s h k sub r left received there same is =
    let kept = kept_at s.records.items h.pasts sub.0 r k.records there in
    let found = kept.1 in
    let other = is.1 in
    let one : is.0 ≡ kept.0 = cc in
    let P : Past Val → Type 0 = λ p. IsRest (place_of s h) sub p.state (rest_text left) in
    inl (kept.0, kept.1, (rest_text left, subst P one is.2, ap (λ n. codes "received" ++ (signals_text n r.ending ++ rest_text left)) same ∙ ap (λ n. codes "received" ++ (signals_text n.items n.ending ++ rest_text left)) (sym kept.2)))

-- how it stands says what follows
pub rest_owed : (s : Session) (h : History Val) → SessionStands s h → (sub : SubId) (st : SubscriptionState) (v : Stream Val) → (st ≡ state.Open) ⊎ (st ≡ state.Ended) → state_at h.pasts sub.0 ≡ Some st → IsOwed demo_meaning (state_of s.graph).rows h sub v → IsRestOf (place_of s h) sub (rest.Owed v)
rest_owed s h k sub st v (inl e) there is = let p = state_there h.pasts sub.0 st there in let P : SubscriptionState → Type 0 = λ x. IsRest (place_of s h) sub x (codes " | owed" ++ signals_text v.items v.ending) in (p.0, p.1, subst P (sym (p.2 ∙ e)) (v, is, refl))
rest_owed s h k sub st v (inr e) there is = let p = state_there h.pasts sub.0 st there in let P : SubscriptionState → Type 0 = λ x. IsRest (place_of s h) sub x (codes " | owed" ++ signals_text v.items v.ending) in (p.0, p.1, subst P (sym (p.2 ∙ e)) (v, is, refl))

pub rest_cancelled : (s : Session) (h : History Val) (sub : SubId) → state_at h.pasts sub.0 ≡ Some state.Cancelled → IsRestOf (place_of s h) sub rest.Cancelled
rest_cancelled s h sub there = let p = state_there h.pasts sub.0 state.Cancelled there in let P : SubscriptionState → Type 0 = λ x. IsRest (place_of s h) sub x (codes " | cancelled") in (p.0, p.1, subst P (sym p.2) refl)

pub rest_closed : (s : Session) (h : History Val) (sub : SubId) → state_at h.pasts sub.0 ≡ Some state.Refused → IsRestOf (place_of s h) sub rest.Closed
rest_closed s h sub there = let p = state_there h.pasts sub.0 state.Refused there in let P : SubscriptionState → Type 0 = λ x. IsRest (place_of s h) sub x (codes " | closed") in (p.0, p.1, subst P (sym p.2) refl)

pub trouble_of_look : (count : ℕ) (sub : SubId) (r : Refusal) (result : Result Rest Trouble) → IsLookRefusal count sub r → IsErr result × IsErrAnd result (λ t. IsTrouble t × IsTroubleOf r t) → IfErr result (λ t. IsLookTrouble count sub t)
trouble_of_look count sub r (Ok a) k e = tt
trouble_of_look count sub r (Err t) k e = (r, k, e.1.1)

pub trouble_unknown : (count : ℕ) (sub : SubId) (r : Refusal) (result : Result Rest Trouble) → r ≡ refusal.UnknownSub → count ≤ sub.0 → IsErr result × IsErrAnd result (λ t. IsTrouble t × IsTroubleOf r t) → IfErr result (λ t. IsLookTrouble count sub t)
trouble_unknown count sub r result e k = let L : Refusal → Type 0 = λ q. IsLookRefusal count sub q in trouble_of_look count sub r result (subst L (sym e) k)

-- a trouble that is passed on
pub passed_on : (s : Session) (count : ℕ) (i : SubId) (t : Trouble) (result : Result Answer Trouble) (P : Place → List ℕ → Past Val → Type 0) → ((h : History Val) → SessionStands s h → count ≡ length h.pasts) → IsLookTrouble count i t →
    IsErr result × IsErrAnd result (λ u. u ≡ t) → Says s result (λ place text. OfSub place i.0 text (P place text))
passed_on s count i t (Ok a) P c k e = let bad : false ≡ true = e.0 in absurd cc
passed_on s count i t (Err trouble.Memory) P c k e = tt
passed_on s count i t (Err (trouble.Refused name)) P c k e = λ h st. let T : Trouble → Type 0 = λ u. IsTroubleOf k.0 u in let got = look_refused s count i k.0 (trouble.Refused name) c k.1 (subst T (sym e.1) k.2) h st in inr got

pub valued : (s : Session) (h : History Val) → SessionStands s h → (sub : SubId) (r : Record) (v : Stream Val) → slice_get s.records.items sub.0 ≡ Some r → IsValueOf (place_of s h) sub r.expr (Ok v) → IsValued (place_of s h) sub (codes "scratch" ++ signals_text v.items v.ending)
valued s h k sub r v there is =
    let kept = kept_at s.records.items h.pasts sub.0 r k.records there in
    inl (kept.0, kept.1, (Ok v, is kept.0 kept.1 (ap (λ n. n.expression) kept.2), refl))

pub valued_err : (s : Session) (sub : SubId) (r : Record) (t : Trouble) (result : Result Answer Trouble) → slice_get s.records.items sub.0 ≡ Some r → ((h : History Val) → SessionStands s h → IsValueOf (place_of s h) sub r.expr (Err t)) → IsErr result × IsErrAnd result (λ u. u ≡ t) → Says s result (λ place text. IsValued place sub text)
valued_err s sub r t (Ok a) there is e = let bad : false ≡ true = e.0 in absurd cc
valued_err s sub r t (Err trouble.Memory) there is e = tt
valued_err s sub r t (Err (trouble.Refused name)) there is e = λ h k.
    let kept = kept_at s.records.items h.pasts sub.0 r k.records there in
    let T : Trouble → Type 0 = λ u. IsValueAt (place_of s h) sub kept.0 (Err u) in
    let at = subst T (sym e.1) (is h k kept.0 kept.1 (ap (λ n. n.expression) kept.2)) in
    inl (kept.0, kept.1, (Err at.0, at.1, (at.2, ap (λ n. codes "refused " ++ n) at.3)))
