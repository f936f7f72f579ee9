-- What has happened to each hub and each subscriber.
use Rattle.std.proofs.Common.{◌≡◌, ◌⊎◌, inl, inr, ℕ, pos, zero, suc, Bool, true, false, ◌||◌, ◌&&◌, if◌then◌else◌, nat_eq, List, [], ◌∷◌, ◌++◌, append_assoc, refl, ap, sym, ◌∙◌, subst, eq-eqb, Option, Some, None, slice_get}
use Rattle.std.specs.Option.{option_to_list}
use Rattle.std.proofs.lemmas.Bool.{ne_eqb}
use Rattle.std.proofs.lemmas.List.{append-nil}
use Rattle.rsx_demand.specs.Demand.{saturating_total}
use Rattle.rsx_types.specs.declared.names.HubId.{HubId}
use Rattle.rsx_types.specs.declared.names.Move.{Move}
use Rattle.rsx_types.specs.declared.names.Move.TheVariants.{Accept, Ask, Pick, Row, Send, Take}
use Rattle.rsx_types.specs.declared.names.SubId.{SubId}
use Rattle.rsx_types.specs.declared.names.Tree.{Tree}
use Rattle.rsx_types.specs.declared.names.Tree.TheVariants.{Sub, Feed as FeedOf}
use Rattle.rsx_types.specs.declared.signal.Signal.{Signal}
use Rattle.rsx_types.specs.declared.signal.Signal.TheVariants.{Next, Complete, Error}
use Rattle.rsx_graph_state.specs.Answers.{changed}
use Rattle.rsx_graph.specs.Rows.{History, HubPast, Made, Source, accepted_at, published_at, published_from, sent_at, with_delivery, with_made, with_moved, with_sent}
use Rattle.rsx_runtime.specs.Ordered.{is_unended}
use Rattle.rsx_subscriber.specs.Past.{Past, cancelled, given, requested, requested_in, state_after}
use Rattle.rsx_subscriber.specs.declared.state.SubscriptionState.{SubscriptionState}
use Rattle.rsx_subscriber.specs.declared.state.SubscriptionState.TheVariants as state
use Rattle.rsx_serialized.specs.Events.{Event, after_event, after_events, asked, asked_in, delivered_in, given_by, given_in, in_tree, moved, published, published_by, published_in, signals_for, stopped, stopped_by, stopped_in, subscribed}
use Rattle.rsx_serialized.specs.Since.{HubSince, PastSince, published_all, state_since}
use Rattle.rsx_serialized.proofs.Lists.{get_before}
use Rattle.rsx_serialized.proofs.Steps.{choose_false, choose_true}

-- what stands at a place where one element changed
get_changed : {A : Type 0} (f : A → A) (xs : List A) (i k : ℕ) (x : A) → slice_get xs k ≡ Some x → (y : A) × (slice_get (changed f xs i) k ≡ Some y) × (((i ≡ k) × (y ≡ f x)) ⊎ ((i ≡ k → ⊥) × (y ≡ x)))
get_changed f [] i k x e = cc
get_changed f (z ∷ zs) zero zero x e = let same : z ≡ x = cc in (f z, refl, inl (refl, ap f same))
get_changed f (z ∷ zs) zero (suc k) x e = (x, e, inr (λ h. cc, refl))
get_changed f (z ∷ zs) (suc i) zero x e = (x, e, inr (λ h. cc, refl))
get_changed f (z ∷ zs) (suc i) (suc k) x e =
    let y = get_changed f zs i k x e in (
      y.0,
      y.1,
      elim y.2 [
        | inl h ↦ inl (ap suc h.0, h.1)
        | inr h ↦ inr (λ s. let same : i ≡ k = cc in h.0 same, h.1)
      ],
    )

-- ---- hubs

published_on : {T : Type 0} (xs ys : List (Signal T)) (s : Source T) → published_all (xs ++ ys) s ≡ published_all ys (published_all xs s)
published_on [] ys s = refl
published_on (x ∷ xs) ys s = published_on xs ys (published_from x s)

hub_on : {T : Type 0} (xs ys : List (Signal T)) (a b c : HubPast T) → HubSince xs a b → HubSince ys b c → HubSince (xs ++ ys) a c
hub_on xs ys a b c f g = record {
  kind = g.kind ∙ f.kind;
  source = g.source ∙ (ap (published_all ys) f.source ∙ sym (published_on xs ys a.source));
}

hub_same : {T : Type 0} (a : HubPast T) → HubSince [] a a
hub_same a = record { kind = refl; source = refl }

-- the hub at this place after something that publishes nothing
abbrev Hub : {T : Type 0} → History T → ℕ → List (Signal T) → HubPast T → Type 0
Hub {T} h k ss p = (q : HubPast T) × (slice_get h.hubs k ≡ Some q) × HubSince ss p q

hub_changed : {T : Type 0} (f : HubPast T → HubPast T) → ((p : HubPast T) → HubSince [] p (f p)) → (hubs : List (HubPast T)) (i k : ℕ) (p : HubPast T) → slice_get hubs k ≡ Some p → (q : HubPast T) × (slice_get (changed f hubs i) k ≡ Some q) × HubSince [] p q
hub_changed {T} f keeps hubs i k p e =
    let y = get_changed f hubs i k p e in (
      y.0,
      y.1,
      elim y.2 [
        | inl h ↦ subst (λ (q : HubPast T). HubSince [] p q) (sym h.1) (keeps p)
        | inr h ↦ subst (λ (q : HubPast T). HubSince [] p q) (sym h.1) (hub_same p)
      ],
    )

hub_sent : {T : Type 0} (s : Option (Signal T)) (i : ℕ) (h : History T) (k : ℕ) (p : HubPast T) → slice_get h.hubs k ≡ Some p → Hub (with_sent s i h) k [] p
hub_sent None i h k p e = (p, e, hub_same p)
hub_sent (Some s) i h k p e = hub_changed (sent_at s) (λ q. record { kind = refl; source = refl }) h.hubs i k p e

hub_delivery : {T : Type 0} (o : Option (SubId × Signal T)) (h : History T) (k : ℕ) (p : HubPast T) → slice_get h.hubs k ≡ Some p → Hub (with_delivery o h) k [] p
hub_delivery None h k p e = (p, e, hub_same p)
hub_delivery (Some d) h k p e = (p, e, hub_same p)

hub_moved : {T : Type 0} (t : Tree) (o : Option (SubId × Signal T)) (s : Option (Signal T)) (h : History T) (k : ℕ) (p : HubPast T) → slice_get h.hubs k ≡ Some p → Hub (with_moved t o s h) k [] p
hub_moved (Sub i) o s h k p e = hub_delivery o h k p e
hub_moved (FeedOf i) o s h k p e = hub_sent s i.0 h k p e

hub_made : {T : Type 0} (mv : Move) (o : Option (SubId × Signal T)) (s : Option (Signal T)) (h : History T) (k : ℕ) (p : HubPast T) → slice_get h.hubs k ≡ Some p → Hub (with_made mv o s h) k [] p
hub_made (Ask t n) o s h k p e = hub_moved t o s h k p e
hub_made (Send t n) o s h k p e = hub_moved t o s h k p e
hub_made (Take t n) o s h k p e = hub_moved t o s h k p e
hub_made (Pick t n i) o s h k p e = hub_moved t o s h k p e
hub_made (Row t n) o s h k p e = hub_moved t o s h k p e
hub_made (Accept i) o s h k p e = hub_changed accepted_at (λ q. record { kind = refl; source = refl }) h.hubs i.0 k p e

hub_published : {T : Type 0} (j : HubId) (s : Signal T) (h : History T) (k : ℕ) (p : HubPast T) → slice_get h.hubs k ≡ Some p → Hub (after_event h (published j s)) k (published_by k (published j s)) p
hub_published {T} j s h k p e =
    let y = get_changed (published_at s) h.hubs j.0 k p e in (
      y.0,
      y.1,
      elim y.2 [
        | inl a ↦
            let once : HubSince (s ∷ []) p (published_at s p) = record { kind = refl; source = refl } in
            let here = choose_true (nat_eq j.0 k) (s ∷ []) [] (eq-eqb j.0 k a.0) in
            subst (λ (q : HubPast T). HubSince (published_by k (published j s)) p q) (sym a.1) (subst (λ (l : List (Signal T)). HubSince l p (published_at s p)) (sym here) once)
        | inr a ↦
            let here = choose_false (nat_eq j.0 k) (s ∷ []) [] (ne_eqb j.0 k a.0) in
            subst (λ (q : HubPast T). HubSince (published_by k (published j s)) p q) (sym a.1) (subst (λ (l : List (Signal T)). HubSince l p p) (sym here) (hub_same p))
      ],
    )

hub_after : {T : Type 0} (ev : Event T) (h : History T) (k : ℕ) (p : HubPast T) → slice_get h.hubs k ≡ Some p → Hub (after_event h ev) k (published_by k ev) p
hub_after (moved d) h k p e = hub_made d.move d.delivered d.fed h k p e
hub_after (published j s) h k p e = hub_published j s h k p e
hub_after (asked i n) h k p e = (p, e, hub_same p)
hub_after (stopped i) h k p e = (p, e, hub_same p)
hub_after (subscribed x) h k p e = (p, e, hub_same p)

pub hubs_after : {T : Type 0} (es : List (Event T)) (h : History T) (k : ℕ) (p : HubPast T) → slice_get h.hubs k ≡ Some p → (q : HubPast T) × (slice_get (after_events h es).hubs k ≡ Some q) × HubSince (published_in k es) p q
hubs_after [] h k p e = (p, e, hub_same p)
hubs_after (ev ∷ es) h k p e =
    let one = hub_after ev h k p e in
    let all = hubs_after es (after_event h ev) k one.0 one.1 in
    (all.0, all.1, hub_on (published_by k ev) (published_in k es) p one.0 all.0 one.2 all.2)

-- ---- subscribers

unended_on : {T : Type 0} (xs ys : List (Signal T)) → is_unended (xs ++ ys) ≡ is_unended xs && is_unended ys
unended_on [] ys = refl
unended_on (Next x ∷ xs) ys = unended_on xs ys
unended_on (Complete ∷ xs) ys = refl
unended_on (Error c ∷ xs) ys = refl

state_on : (u v x y : Bool) (s : SubscriptionState) → state_since (u && v) (x || y) s ≡ state_since v y (state_since u x s)
state_on false false x y s = refl
state_on false true x true s = refl
state_on false true x false s = refl
state_on true false x y s = refl
state_on true true false false s = refl
state_on true true false true s = refl
state_on true true true false s = refl
state_on true true true true state.Open = refl
state_on true true true true state.Ended = refl
state_on true true true true state.Cancelled = refl
state_on true true true true state.Refused = refl

-- who is open was open before
open_before : (u x : Bool) (s : SubscriptionState) → state_since u x s ≡ state.Open → s ≡ state.Open
open_before false x s e = cc
open_before true false s e = e
open_before true true state.Open e = cc
open_before true true state.Ended e = cc
open_before true true state.Cancelled e = cc
open_before true true state.Refused e = cc

pub past_on : {T : Type 0} (k : ℕ) (ev : Event T) (es : List (Event T)) (a b c : Past T) → PastSince k (ev ∷ []) a b → PastSince k es b c → PastSince k (ev ∷ es) a c
past_on k ev es a b c f g =
    let one = append-nil (given_by k ev) in
    let stop : stopped_in k (ev ∷ []) ≡ stopped_by k ev = or_false (stopped_by k ev) in
    let got : b.state ≡ state_since (is_unended (given_by k ev)) (stopped_by k ev) a.state = f.state ∙ (ap (λ l. state_since (is_unended l) (stopped_in k (ev ∷ [])) a.state) one ∙ ap (λ x. state_since (is_unended (given_by k ev)) x a.state) stop) in
    let u = is_unended (given_by k ev) in
    let v = is_unended (given_in k es) in
    record {
      expression = g.expression ∙ f.expression;
      joins = g.joins ∙ f.joins;
      received = g.received ∙ (ap (λ l. l ++ given_in k es) (f.received ∙ ap (λ l. a.received ++ l) one) ∙ append_assoc a.received (given_by k ev) (given_in k es));
      state = g.state ∙ (ap (state_since v (stopped_in k es)) got ∙ (sym (state_on u v (stopped_by k ev) (stopped_in k es) a.state) ∙ ap (λ w. state_since w (stopped_by k ev || stopped_in k es) a.state) (sym (unended_on (given_by k ev) (given_in k es)))));
      asked = λ o.
          let before : b.state ≡ state.Open = open_before v (stopped_in k es) b.state (sym g.state ∙ o) in
          g.asked o ∙ ap (λ n. asked_in k n es) (f.asked before);
    }
  where
    or_false : (x : Bool) → (x || false) ≡ x
    or_false true = refl
    or_false false = refl

pub past_same : {T : Type 0} (k : ℕ) (es : List (Event T)) (a : Past T) → given_in k es ≡ [] → stopped_in k es ≡ false → asked_in k a.asked es ≡ a.asked → PastSince k es a a
past_same k es a none still n = record {
  expression = refl;
  joins = refl;
  received = sym (append-nil a.received) ∙ ap (λ l. a.received ++ l) (sym none);
  state = ap (λ x. state_since true x a.state) (sym still) ∙ ap (λ l. state_since (is_unended l) (stopped_in k es) a.state) (sym none);
  asked = λ o. sym n;
}

past_given : {T : Type 0} (k : ℕ) (es : List (Event T)) (s : Signal T) (a : Past T) → given_in k es ≡ s ∷ [] → stopped_in k es ≡ false → asked_in k a.asked es ≡ a.asked → PastSince k es a (given s a)
past_given {T} k es s a one still n = record {
  expression = refl;
  joins = refl;
  received = ap (λ l. a.received ++ l) (sym one);
  state = after s a.state ∙ (ap (λ x. state_since (is_unended (s ∷ [])) x a.state) (sym still) ∙ ap (λ l. state_since (is_unended l) (stopped_in k es) a.state) (sym one));
  asked = λ o. sym n;
}
  where
    after : (s : Signal T) (st : SubscriptionState) → state_after st s ≡ state_since (is_unended (s ∷ [])) false st
    after (Next x) st = refl
    after Complete st = refl
    after (Error c) st = refl

-- the subscriber at this place after something
abbrev Sub-after : {T : Type 0} → History T → ℕ → Event T → Past T → Type 0
Sub-after {T} h k ev p = (q : Past T) × (slice_get h.pasts k ≡ Some q) × PastSince k (ev ∷ []) p q

tree_pasts : {T : Type 0} (t : Tree) (o : Option (SubId × Signal T)) (s : Option (Signal T)) (h : History T) → (with_moved t o s h).pasts ≡ (with_delivery (in_tree t o) h).pasts
tree_pasts (Sub i) o s h = refl
tree_pasts (FeedOf i) o None h = refl
tree_pasts (FeedOf i) o (Some s) h = refl

-- a move delivers what it delivers
pub made_pasts : {T : Type 0} (mv : Move) (o : Option (SubId × Signal T)) (s : Option (Signal T)) (h : History T) → (with_made mv o s h).pasts ≡ (with_delivery (delivered_in mv o) h).pasts
made_pasts (Ask t n) o s h = tree_pasts t o s h
made_pasts (Send t n) o s h = tree_pasts t o s h
made_pasts (Take t n) o s h = tree_pasts t o s h
made_pasts (Pick t n i) o s h = tree_pasts t o s h
made_pasts (Row t n) o s h = tree_pasts t o s h
made_pasts (Accept i) o s h = refl

-- a delivery, if there is one
delivery_past : {T : Type 0} (d : Made T) (o : Option (SubId × Signal T)) (h : History T) (k : ℕ) (p : Past T) → delivered_in d.move d.delivered ≡ o → slice_get h.pasts k ≡ Some p → (q : Past T) × (slice_get (with_delivery o h).pasts k ≡ Some q) × PastSince k (moved d ∷ []) p q
delivery_past {T} d None h k p is e = (p, e, past_same k (moved d ∷ []) p (ap (λ o. signals_for k (option_to_list o) ++ []) is) refl refl)
delivery_past {T} d (Some x) h k p is e =
    let y = get_changed (given x.1) h.pasts x.0.0 k p e in
    let all : given_in k (moved d ∷ []) ≡ ((if nat_eq x.0.0 k then x.1 ∷ [] else []) ++ []) ++ [] = ap (λ o. signals_for k (option_to_list o) ++ []) is in (
      y.0,
      y.1,
      elim y.2 [
        | inl a ↦
            let here = choose_true (nat_eq x.0.0 k) (x.1 ∷ []) [] (eq-eqb x.0.0 k a.0) in
            subst (λ (q : Past T). PastSince k (moved d ∷ []) p q) (sym a.1) (past_given k (moved d ∷ []) x.1 p (all ∙ ap (λ l. (l ++ []) ++ []) here) refl refl)
        | inr a ↦
            let here = choose_false (nat_eq x.0.0 k) (x.1 ∷ []) [] (ne_eqb x.0.0 k a.0) in
            subst (λ (q : Past T). PastSince k (moved d ∷ []) p q) (sym a.1) (past_same k (moved d ∷ []) p (all ∙ ap (λ l. (l ++ []) ++ []) here) refl refl)
      ],
    )

asked_past : {T : Type 0} (k : ℕ) (i : SubId) (n : ℕ) (p : Past T) → i.0 ≡ k → PastSince k (asked i n ∷ []) p (requested (pos (suc n)) p)
asked_past {T} k i n p e = go p.state refl
  where
    same : (st : SubscriptionState) → p.state ≡ st → (st ≡ state.Open → ⊥) → PastSince k (asked i n ∷ []) p p
    same st is closed = record {
      expression = refl;
      joins = refl;
      received = sym (append-nil p.received);
      state = refl;
      asked = λ o. absurd (closed (sym is ∙ o));
    }

    go : (st : SubscriptionState) → p.state ≡ st → PastSince k (asked i n ∷ []) p (requested_in st (pos (suc n)) p)
    go state.Open is = record {
      expression = refl;
      joins = refl;
      received = sym (append-nil p.received);
      state = refl;
      asked = λ o. sym (choose_true (nat_eq i.0 k) (saturating_total p.asked (suc n)) p.asked (eq-eqb i.0 k e));
    }
    go state.Ended is = same state.Ended is (λ h. cc)
    go state.Cancelled is = same state.Cancelled is (λ h. cc)
    go state.Refused is = same state.Refused is (λ h. cc)

stopped_past : {T : Type 0} (k : ℕ) (i : SubId) (p : Past T) → i.0 ≡ k → PastSince k (stopped i ∷ []) p (cancelled p)
stopped_past k i p e = record {
  expression = refl;
  joins = refl;
  received = sym (append-nil p.received);
  state = ap (λ x. state_since true (x || false) p.state) (sym (eq-eqb i.0 k e));
  asked = λ o. refl;
}

changed_past : {T : Type 0} (k : ℕ) (ev : Event T) (f : Past T → Past T) (ps : List (Past T)) (i : ℕ) (p : Past T) → slice_get ps k ≡ Some p → ((i ≡ k) → PastSince k (ev ∷ []) p (f p)) → ((i ≡ k → ⊥) → PastSince k (ev ∷ []) p p) → (q : Past T) × (slice_get (changed f ps i) k ≡ Some q) × PastSince k (ev ∷ []) p q
changed_past {T} k ev f ps i p e here other =
    let y = get_changed f ps i k p e in (
      y.0,
      y.1,
      elim y.2 [
        | inl a ↦ subst (λ (q : Past T). PastSince k (ev ∷ []) p q) (sym a.1) (here a.0)
        | inr a ↦ subst (λ (q : Past T). PastSince k (ev ∷ []) p q) (sym a.1) (other a.0)
      ],
    )

past_after : {T : Type 0} (ev : Event T) (h : History T) (k : ℕ) (p : Past T) → slice_get h.pasts k ≡ Some p → (q : Past T) × (slice_get (after_event h ev).pasts k ≡ Some q) × PastSince k (ev ∷ []) p q
past_after {T} (moved d) h k p e =
    let y = delivery_past d (delivered_in d.move d.delivered) h k p refl e in
    (y.0, ap (λ l. slice_get l k) (made_pasts d.move d.delivered d.fed h) ∙ y.1, y.2)
past_after (published j s) h k p e = (p, e, past_same k (published j s ∷ []) p refl refl refl)
past_after (asked i n) h k p e =
    changed_past k (asked i n) (requested (pos (suc n))) h.pasts i.0 p e (asked_past k i n p) (λ o. past_same k (asked i n ∷ []) p refl refl (choose_false (nat_eq i.0 k) (saturating_total p.asked (suc n)) p.asked (ne_eqb i.0 k o)))
past_after (stopped i) h k p e =
    changed_past k (stopped i) cancelled h.pasts i.0 p e (stopped_past k i p) (λ o. past_same k (stopped i ∷ []) p refl (ap (λ x. x || false) (ne_eqb i.0 k o)) refl)
past_after (subscribed x) h k p e = (p, get_before h.pasts _ k p e, past_same k (subscribed x ∷ []) p refl refl refl)

past_none : {T : Type 0} (k : ℕ) (p : Past T) → PastSince k [] p p
past_none k p = past_same k [] p refl refl refl

pub pasts_after : {T : Type 0} (es : List (Event T)) (h : History T) (k : ℕ) (p : Past T) → slice_get h.pasts k ≡ Some p → (q : Past T) × (slice_get (after_events h es).pasts k ≡ Some q) × PastSince k es p q
pasts_after [] h k p e = (p, e, past_none k p)
pasts_after (ev ∷ es) h k p e =
    let one = past_after ev h k p e in
    let all = pasts_after es (after_event h ev) k one.0 one.1 in
    (all.0, all.1, past_on k ev es p one.0 all.0 one.2 all.2)
