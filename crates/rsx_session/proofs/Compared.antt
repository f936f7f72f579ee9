-- Lemmas about the comparison with the value from scratch.
use Rattle.std.proofs.Common.{◌≡◌, ◌⊎◌, Bool, true, false, List, ◌++◌, length, take, drop, ap, sym, subst, ◌∙◌, Some, Result, Ok, Err, slice_get, inl, inr, codes}
use Rattle.std.specs.Prelude.{Decides}
use Rattle.std.specs.Result.{IsErr, IsErrAnd}
use Rattle.std.proofs.lemmas.List.{take-append-drop}
use Rattle.std.proofs.Math.Seq.{take-append_seam}
use Rattle.rsx_session.specs.Prelude.{Answer, History, IsChecked, IsEvaluated, IsLookTrouble, IsOwed, IsRight, IsRightOf, IsValueAt, IsValueOf, Known, OfValue, Record, Says, Session, SessionStands, Stream, SubId, Trouble, Val, checked_text, demo_meaning, followed_by, place_of, state_of}
use Rattle.rsx_subscriber.specs.Prelude.{ScratchRefusal, IsPrefixOf}
use Rattle.rsx_graph_state.specs.Prelude.{SubscriptionState, state_at}
use Rattle.rsx_subscriber.specs.declared.state.SubscriptionState.TheVariants as state
use Rattle.rsx_session.specs.declared.session.Trouble.TheVariants as trouble
use Rattle.rsx_session.proofs.Looks.{kept_at, passed_on, state_there, subs_count}

-- a list begins another one where the first items of that are the list
pub begins_by : (r : Bool) (first items : List Val) → Decides r (take (length first) items ≡ first) → Decides r (IsPrefixOf first items)
begins_by r first items d =
    let forth : r ≡ true → IsPrefixOf first items = λ yes. (drop (length first) items, ap (λ l. l ++ drop (length first) items) (sym (d.0 yes)) ∙ take-append-drop (length first) items) in
    let back : IsPrefixOf first items → r ≡ true = λ p. d.1 (ap (take (length first)) (sym p.1) ∙ take-append_seam first p.0) in
    (forth, back)

-- of a subscription to which items can be owed
pub right_owed : (s : Session) (h : History Val) (sub : SubId) (st : SubscriptionState) (k : Record) (v owed : Stream Val) (right : Bool) → (st ≡ state.Open) ⊎ (st ≡ state.Ended) → state_at h.pasts sub.0 ≡ Some st →
    IsOwed demo_meaning (state_of s.graph).rows h sub owed → Decides right (followed_by k.received.items k.ending owed ≡ v) → IsRightOf (place_of s h) sub k v right
right_owed s h sub st k v owed right which at is d = λ past there same.
    let p = state_there h.pasts sub.0 st at in
    let found = p.1 in
    let one : past ≡ p.0 = cc in
    let stands : past.state ≡ st = ap (λ q. q.state) one ∙ p.2 in
    let D : Known → Type 0 = λ g. Decides right (followed_by g.items g.ending owed ≡ v) in
    let R : SubscriptionState → Type 0 = λ x. IsRight (place_of s h) sub past v x right in
    by_state R past.state st stands which (owed, is, subst D (sym same) d) (owed, is, subst D (sym same) d)
  where
    by_state : (R : SubscriptionState → Type 0) (now st : SubscriptionState) → now ≡ st → (st ≡ state.Open) ⊎ (st ≡ state.Ended) → R state.Open → R state.Ended → R now
    by_state R now st e (inl o) when_open when_ended = subst R (sym (e ∙ o)) when_open
    by_state R now st e (inr o) when_open when_ended = subst R (sym (e ∙ o)) when_ended

-- of one to which nothing is owed
pub right_begun : (s : Session) (h : History Val) (sub : SubId) (st : SubscriptionState) (k : Record) (v : Stream Val) (first items : List Val) (right : Bool) → (st ≡ state.Cancelled) ⊎ (st ≡ state.Refused) → state_at h.pasts sub.0 ≡ Some st →
    first ≡ k.received.items → items ≡ v.items → Decides right (IsPrefixOf first items) → IsRightOf (place_of s h) sub k v right
right_begun s h sub st k v first items right which at a b d = λ past there same.
    let p = state_there h.pasts sub.0 st at in
    let found = p.1 in
    let one : past ≡ p.0 = cc in
    let stands : past.state ≡ st = ap (λ q. q.state) one ∙ p.2 in
    let F : List Val → Type 0 = λ xs. Decides right (IsPrefixOf xs items) in
    let I : List Val → Type 0 = λ xs. Decides right (IsPrefixOf k.received.items xs) in
    let D : Known → Type 0 = λ g. Decides right (IsPrefixOf g.items v.items) in
    let R : SubscriptionState → Type 0 = λ x. IsRight (place_of s h) sub past v x right in
    let begun = subst D (sym same) (subst I b (subst F a d)) in
    by_state R past.state st stands which begun begun
  where
    by_state : (R : SubscriptionState → Type 0) (now st : SubscriptionState) → now ≡ st → (st ≡ state.Cancelled) ⊎ (st ≡ state.Refused) → R state.Cancelled → R state.Refused → R now
    by_state R now st e (inl o) cancelled refused = subst R (sym (e ∙ o)) cancelled
    by_state R now st e (inr o) cancelled refused = subst R (sym (e ∙ o)) refused

-- what `check` answers
pub checked : (s : Session) (h : History Val) → SessionStands s h → (sub : SubId) (r : Record) (v : Stream Val) (right equal : Bool) → slice_get s.records.items sub.0 ≡ Some r → IsValueOf (place_of s h) sub r.expr (Ok v) → IsRightOf (place_of s h) sub r v right → right ≡ equal → IsChecked (place_of s h) sub (checked_text equal)
checked s h k sub r v right equal there is ok e =
    let kept = kept_at s.records.items h.pasts sub.0 r k.records there in
    inl (kept.0, kept.1, (Ok v, is kept.0 kept.1 (ap (λ n. n.expression) kept.2), (right, ok kept.0 kept.1 kept.2, ap checked_text (sym e))))

-- the slow evaluator refused
pub checked_err : (s : Session) (sub : SubId) (r : Record) (t : Trouble) (result : Result Answer Trouble) → slice_get s.records.items sub.0 ≡ Some r → ((h : History Val) → SessionStands s h → IsValueOf (place_of s h) sub r.expr (Err t)) → IsErr result × IsErrAnd result (λ u. u ≡ t) → Says s result (λ place text. IsChecked place sub text)
checked_err s sub r t (Ok a) there is e = let bad : false ≡ true = e.0 in absurd cc
checked_err s sub r t (Err trouble.Memory) there is e = tt
checked_err s sub r t (Err (trouble.Refused name)) there is e = λ h k.
    let kept = kept_at s.records.items h.pasts sub.0 r k.records there in
    let T : Trouble → Type 0 = λ u. IsValueAt (place_of s h) sub kept.0 (Err u) in
    let at = subst T (sym e.1) (is h k kept.0 kept.1 (ap (λ n. n.expression) kept.2)) in
    inl (kept.0, kept.1, (Err at.0, at.1, (at.2, ap (λ n. codes "refused " ++ n) at.3)))

-- the graph refused a look
pub right_err : (s : Session) (sub : SubId) (t : Trouble) (result : Result Answer Trouble) → IsLookTrouble (length s.graph.subscriptions.items) sub t → IsErr result × IsErrAnd result (λ u. u ≡ t) → Says s result (λ place text. IsChecked place sub text)
right_err s sub t result k e = passed_on s (length s.graph.subscriptions.items) sub t result (λ place text past. (r : Result (Stream Val) ScratchRefusal) × IsEvaluated place sub past r × OfValue text r (λ v. (right : Bool) × IsRight place sub past v past.state right × (text ≡ checked_text right))) (subs_count s) k e
