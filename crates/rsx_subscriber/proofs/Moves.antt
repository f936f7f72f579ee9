-- How each edit and each move keeps what a subscription stands for.
use Rattle.rsx_sources.specs.declared.machine.Machine.{Ghosts as Machine}
use Rattle.rsx_rooted.specs.declared.nodes.Nodes.{Ghosts as Nodes}
use Rattle.std.proofs.Common.{◌≡◌, ℕ, zero, suc, ◌+◌, ◌<◌, Bool, true, false, ◌&&◌, ◌||◌, if◌then◌else◌, nat_eq, nat_lt, List, [], ◌∷◌, ◌++◌, length, map, refl, ap, sym, ◌∙◌, subst, arith, append_assoc, length-append, ◌⊎◌, inl, inr, ℤ, pos, negsuc, int_lt, unsigned_abs, slice_index_or, Option, Some, None, Ok}
use mathlib.Core.HLevel.{⊥_prop, Π_prop}
use Rattle.std.proofs.lemmas.Bool.Decides.{nat_tests}
use Rattle.std.proofs.lemmas.List.{append-nil}
use Rattle.std.specs.Option.{option_to_list, IfSome}
use Rattle.std.proofs.lemmas.Bool.{both_ways, or_left, or_right}
use Rattle.rsx_types.proofs.Numbers.{not_zero}
use Rattle.rsx_demand.specs.Demand.{saturating_total}
use Rattle.rsx_sources.specs.Prelude.{Meaning, Stream, Move, Ask, Send, Take, Pick, Row, Accept, SubId, Sub, Signal, Next, Complete, Error}
use Rattle.rsx_tree.proofs.Runs.{gives_none, gives_on, gives_one, leads_silent}
use Rattle.rsx_tree.specs.Prelude.{closed_view, IsTreeReadAt}
use Rattle.rsx_tree.specs.Reads.{readings}
use Rattle.rsx_tree.proofs.Alike.{alike_still, alike_then}
use Rattle.rsx_tree.specs.Runs.{Gives, Leads}
use Rattle.rsx_pipe.specs.Part.{IsPutOut, all_edges, has_room, queue_sink}
use Rattle.rsx_pipe.specs.Part as Part
use Rattle.rsx_pipe.specs.Crossing.{route, route_below}
use Rattle.rsx_rooted.specs.declared.nodes.Route.{Route}
use Rattle.rsx_rooted.specs.declared.nodes.Route.TheVariants.{Straight, Queued, Recorded}
use Rattle.rsx_pipe.specs.Tree.{IsAllClosed, edges}
use Rattle.rsx_tree.specs.declared.edge.EdgeState.TheVariants.{Live, Closed}
use Rattle.rsx_tree.specs.declared.look.NodeMove.{NodeMove}
use Rattle.rsx_tree.specs.declared.look.NodeMove.TheVariants.{Ask as NodeAsk, Send as NodeSend, Pick as NodePick, Row as NodeRow}
use Rattle.rsx_pipe.specs.Part.{Part as AnyPart}
use Rattle.rsx_rooted.specs.declared.rooted.Pumped.{Pumped as Rest}
use Rattle.rsx_rooted.specs.declared.rooted.Pumped.TheVariants.{Idle as Rests, Budget as Wakes}
use Rattle.rsx_rooted.proofs.Parts.{moved_alive}
use Rattle.rsx_pipe.proofs.Signals.{IsOrderly-more, IsUnended-more, IsUnended-last, IsUnended-front, items_in-append, unended_before}
use Rattle.rsx_subscription.specs.Table.{answer, cell_of, state_after as next_state, asked_after, sent_after}
use Rattle.rsx_subscription.specs.declared.State.TheVariants.{Fresh, Open as OpenState, Cancelled as CancelledState, Failed as FailedState}
use Rattle.rsx_subscriber.specs.Standing.{standing, live_in, input_of, is_delivery, delivers}
use Rattle.rsx_subscriber.proofs.Values.{closed_count, effect_count, moved_count}
use Rattle.rsx_subscriber.proofs.Standings.{standing_open, open_standing, open_delivers, Delivers, Adds, signal_delivered, delivery_made}
use Rattle.rsx_subscriber.specs.declared.subscription.Subscription.{Subscription}
use Rattle.rsx_subscriber.specs.declared.state.SubscriptionState.{SubscriptionState}
use Rattle.rsx_subscriber.specs.declared.state.SubscriptionState.TheVariants.{Open, Ended, Cancelled, Refused}
use Rattle.rsx_subscriber.specs.Past.{Past, items_in, IsUnended, IsOrderly, IsPrefixOf, IsLive, cancelled, cancelled_state, state_after, refused, requested, requested_in, given, asked_more}
use Rattle.rsx_subscriber.specs.Pumped.{IsPumped, IsMoved, IsQuiet, IsAwake, IsRest, HasRested, given_all, to}
use Rattle.rsx_subscriber.specs.Stands.{Stands, take_enabled, IsAlone, IsAloneBy, IsInside, IsKeptBeside, IsMadeAnswer, IsTakeAnswer, IsWorked, IsWorkedBy, IsEffect, IsTake, inner_move, move_enabled_in, standing_of, enabled_inside}
use Rattle.rsx_subscriber.specs.Moves.{delivery, inside_node, name_of, node_move, tree_of}

pub IsLive-open : (s : SubscriptionState) → s ≡ Open → IsLive s
IsLive-open s e = rw e tt

pub not_cancelled : (s : SubscriptionState) → s ≡ Cancelled → IsLive s → ⊥
not_cancelled s e = rw e (λ h. h)

pub not_refused : (s : SubscriptionState) → s ≡ Refused → IsLive s → ⊥
not_refused s e = rw e (λ h. h)

pub not_live : (s : SubscriptionState) → (IsLive s → ⊥) → s ≡ Open → ⊥
not_live s h e = h (IsLive-open s e)

-- a live one is so by the test too
pub live_test : (s : SubscriptionState) → IsLive s → live_in s ≡ true
live_test Open h = refl
live_test Ended h = refl
live_test Cancelled h = absurd h
live_test Refused h = absurd h

pub live_or_not : (s : SubscriptionState) → IsLive s ⊎ (IsLive s → ⊥)
live_or_not Open = inl tt
live_or_not Ended = inl tt
live_or_not Cancelled = inr (λ h. h)
live_or_not Refused = inr (λ h. h)

-- what was received begins what was put out
pub held_prefix : {T : Type 0} (received queue output : List (Signal T)) → received ++ queue ≡ output → IsPrefixOf (items_in received) (items_in output)
held_prefix received queue output e = (items_in queue, sym (items_in-append received queue) ∙ ap items_in e)

-- what closing leaves of a subscription that was open
pub record IsClosing {M T : Type 0} (mc : Machine M T) (old new : Subscription M T) : Type 0 where
  pub was_open : standing_of old ≡ Open
  pub live : new.live ≡ false
  pub queue : new.queue ≡ []
  pub root : new.part.root.state ≡ Live → ⊥
  pub asked : new.part.root.demand.asked ≡ old.part.root.demand.asked
  pub tree : IsAllClosed new.part.tree
  pub put : (m : Meaning T) → IsPutOut mc m old.part [] new.part
  pub edges : all_edges new.part ≡ map closed_view (all_edges old.part)
  pub requested : new.demand.asked ≡ old.demand.asked
  pub delivered : new.demand.sent ≡ old.demand.sent

-- the past of a subscriber that was closed: nothing but its signals and its state changed, and no item came
pub record IsClosedPast {T : Type 0} (past past' : Past T) : Type 0 where
  pub expression : past'.expression ≡ past.expression
  pub joins : past'.joins ≡ past.joins
  pub items : items_in past'.received ≡ items_in past.received
  pub orderly : IsOrderly past'.received
  pub asked : past'.asked ≡ past.asked

pub stands_closed : {M T : Type 0} (mc : Machine M T) (m : Meaning T) (published : List (Stream T)) (old new : Subscription M T) (past past' : Past T) → IsClosing mc old new → live_in (standing_of new) ≡ false → (IsLive (standing_of new) → ⊥) → standing_of new ≡ past'.state → IsClosedPast past past' → Stands mc m published old past → Stands mc m published new past'
stands_closed {M} {T} mc m published old new past past' k gone dead s p h =
    let held = h.held (IsLive-open (standing_of old) k.was_open) in
    let begins = held_prefix past.received old.queue h.output held in
    record {
      state = s;
      live = k.live ∙ sym gone;
      output = h.output ++ [];
      part = rw (p.expression, p.joins) (k.put m published past.expression past.joins h.output h.part);
      held = λ l. absurd (dead l);
      begun = λ _. (begins.0, ap (λ l. l ++ begins.0) p.items ∙ (begins.1 ∙ ap items_in (sym (append-nil h.output))));
      orderly = p.orderly;
      waits = λ w. absurd (not_live (standing_of new) dead w);
      got = λ e. absurd (dead (rw e tt));
      unclosed = λ l. absurd (dead l);
      asked = k.asked ∙ (h.asked ∙ sym p.asked);
      requested = k.requested ∙ (h.requested ∙ sym p.asked);
      delivered = k.delivered ∙ (h.delivered ∙ ap length (sym p.items));
      admitted = rw p.expression h.admitted;
      shape = rw p.expression (closed_count old.part new.part k.edges ∙ h.shape);
      joined = rw (p.expression, p.joins) h.joined;
      closed = λ _. (k.tree, k.root, k.queue);
    }

pub stands_cancelled : {M T : Type 0} (mc : Machine M T) (m : Meaning T) (published : List (Stream T)) (old new : Subscription M T) (past : Past T) → IsClosing mc old new → new.state ≡ CancelledState → Stands mc m published old past → Stands mc m published new (cancelled past)
stands_cancelled mc m published old new past k c h =
    let s : standing_of new ≡ Cancelled = ap (λ t. standing t new.live) c in
    let o : Open ≡ past.state = sym k.was_open ∙ h.state in
    stands_closed mc m published old new past (cancelled past) k (ap live_in s) (not_cancelled (standing_of new) s) (s ∙ ap cancelled_state o)
    (record { expression = refl; joins = refl; items = refl; orderly = h.orderly; asked = refl }) h

-- nothing changed
pub record IsSame {M T : Type 0} (old new : Subscription M T) : Type 0 where
  pub part : new.part ≡ old.part
  pub queue : new.queue ≡ old.queue
  pub state : new.state ≡ old.state
  pub live : new.live ≡ old.live
  pub requested : new.demand.asked ≡ old.demand.asked
  pub delivered : new.demand.sent ≡ old.demand.sent

pub stands_same : {M T : Type 0} (mc : Machine M T) (m : Meaning T) (published : List (Stream T)) (old new : Subscription M T) (past : Past T) → IsSame old new → Stands mc m published old past → Stands mc m published new past
stands_same mc m published old new past k h = record {
  state = rw (k.state, k.live) h.state;
  live = rw (k.state, k.live) h.live;
  output = h.output;
  part = rw k.part h.part;
  held = rw (k.state, k.live, k.queue) h.held;
  begun = rw (k.state, k.live) h.begun;
  orderly = h.orderly;
  waits = rw (k.state, k.live) h.waits;
  got = rw (k.state, k.live) h.got;
  unclosed = rw (k.state, k.live, k.part) h.unclosed;
  asked = rw k.part h.asked;
  requested = rw k.requested h.requested;
  delivered = rw k.delivered h.delivered;
  admitted = h.admitted;
  shape = rw k.part h.shape;
  joined = h.joined;
  closed = rw (k.state, k.live, k.part, k.queue) h.closed;
}

pub stands_refused : {M T : Type 0} (mc : Machine M T) (m : Meaning T) (published : List (Stream T)) (old new : Subscription M T) (past : Past T) → IsClosing mc old new → new.state ≡ FailedState → Stands mc m published old past → Stands mc m published new (refused past)
stands_refused mc m published old new past k f h =
    let s : standing_of new ≡ Refused = ap (λ t. standing t new.live) f ∙ ap (λ l. standing FailedState l) k.live in
    stands_closed mc m published old new past (refused past) k (ap live_in s) (not_refused (standing_of new) s) s
    (record { expression = refl; joins = refl; items = items_in-append past.received _ ∙ append-nil (items_in past.received); orderly = IsOrderly-more past.received _ (h.waits k.was_open); asked = refl }) h

-- a request of 0 or less is a bad one
pub refused_request : {T : Type 0} (past : Past T) (n : ℤ) → Open ≡ past.state → int_lt (pos 0) n ≡ false → refused past ≡ requested n past
refused_request past (pos zero) o h = ap (λ s. requested_in s (pos zero) past) o
refused_request past (pos (suc k)) o h = absurd (above k h)
  where
    above : (k : ℕ) → nat_lt 0 (suc k) ≡ false → ⊥
    above k e = grind (arith, nat_tests)
refused_request past (negsuc k) o h = ap (λ s. requested_in s (negsuc k) past) o

pub stands_bad : {M T : Type 0} (mc : Machine M T) (m : Meaning T) (published : List (Stream T)) (old new : Subscription M T) (past : Past T) (n : ℤ) → IsClosing mc old new → new.state ≡ FailedState → int_lt (pos 0) n ≡ false → Stands mc m published old past → Stands mc m published new (requested n past)
stands_bad mc m published old new past n k s z h =
    let P : Past _ → Type 0 = λ p. Stands mc m published new p in
    subst P (refused_request past n (sym k.was_open ∙ h.state) z) (stands_refused mc m published old new past k s h)

-- all but what was asked stays
pub record IsAsking {M T : Type 0} (mc : Machine M T) (old new : Subscription M T) (n : ℕ) : Type 0 where
  pub queue : new.queue ≡ old.queue
  pub state : new.state ≡ old.state
  pub live : new.live ≡ old.live
  pub tree : new.part.tree ≡ old.part.tree
  pub edge : new.part.root.state ≡ old.part.root.state
  pub put : (m : Meaning T) → IsPutOut mc m old.part [] new.part
  pub asked : new.part.root.demand.asked ≡ saturating_total old.part.root.demand.asked n
  pub requested : new.demand.asked ≡ saturating_total old.demand.asked n
  pub delivered : new.demand.sent ≡ old.demand.sent

pub stands_asked : {M T : Type 0} (mc : Machine M T) (m : Meaning T) (published : List (Stream T)) (old new : Subscription M T) (past : Past T) (n : ℕ) → IsAsking mc old new n → Stands mc m published old past → Stands mc m published new (asked_more n past)
stands_asked mc m published old new past n k h = record {
  state = rw (k.state, k.live) h.state;
  live = rw (k.state, k.live) h.live;
  output = h.output ++ [];
  part = k.put m published past.expression past.joins h.output h.part;
  held = rw (k.state, k.live, k.queue, append-nil h.output) h.held;
  begun = rw (k.state, k.live, append-nil h.output) h.begun;
  orderly = h.orderly;
  waits = rw (k.state, k.live) h.waits;
  got = rw (k.state, k.live) h.got;
  unclosed = rw (k.state, k.live, k.edge) h.unclosed;
  asked = k.asked ∙ ap (λ a. saturating_total a n) h.asked;
  requested = k.requested ∙ ap (λ a. saturating_total a n) h.requested;
  delivered = k.delivered ∙ h.delivered;
  admitted = h.admitted;
  shape = ap (λ t. suc (length (edges t))) k.tree ∙ h.shape;
  joined = h.joined;
  closed = rw (k.state, k.live, k.tree, k.edge, k.queue) h.closed;
}

-- a request of more than 0 adds to the demand
pub stands_requested : {M T : Type 0} (mc : Machine M T) (m : Meaning T) (published : List (Stream T)) (old new : Subscription M T) (past : Past T) (n : ℤ) (k : ℕ) → n ≡ pos k → 0 < k → standing_of old ≡ Open → IsAsking mc old new k → Stands mc m published old past → Stands mc m published new (requested n past)
stands_requested mc m published old new past n zero e z o a h = absurd (omega arith)
stands_requested mc m published old new past n (suc k) e z o a h =
    let P : Past _ → Type 0 = λ p. Stands mc m published new p in
    subst P (asked_request past n k e (sym o ∙ h.state)) (stands_asked mc m published old new past (suc k) a h)
  where
    asked_request : {T : Type 0} (past : Past T) (n : ℤ) (k : ℕ) → n ≡ pos (suc k) → Open ≡ past.state → asked_more (suc k) past ≡ requested n past
    asked_request past n k e o = rw e (ap (λ s. requested_in s (pos (suc k)) past) o)

pub stands_added : {M T : Type 0} (mc : Machine M T) (m : Meaning T) (published : List (Stream T)) (old new : Subscription M T) (past : Past T) (n : ℤ) → Adds old.state n old.demand → IsAsking mc old new (unsigned_abs n) → Stands mc m published old past → Stands mc m published new (requested n past)
stands_added mc m published old new past (pos k) a i h = stands_requested mc m published old new past (pos k) k refl (above k a.good) (open_standing old.state old.live a.was) i h
  where
    above : (k : ℕ) → int_lt (pos 0) (pos k) ≡ true → 0 < k
    above zero e = cc
    above (suc k) e = omega arith
stands_added mc m published old new past (negsuc k) a i h = let e = a.good in cc

-- one that isn't open is left as it is by a request
pub stands_unrequested : {M T : Type 0} (mc : Machine M T) (m : Meaning T) (published : List (Stream T)) (old new : Subscription M T) (past : Past T) (n : ℤ) → (old.state ≡ OpenState → ⊥) → IsSame old new → Stands mc m published old past → Stands mc m published new (requested n past)
stands_unrequested {M} {T} mc m published old new past n o k h =
    let P : Past T → Type 0 = λ p. Stands mc m published new p in
    subst P (sym (same past.state past n (λ e. o (standing_open old.state old.live old.opened (h.state ∙ e))))) (stands_same mc m published old new past k h)
  where
    same : {T : Type 0} (s : SubscriptionState) (past : Past T) (n : ℤ) → (s ≡ Open → ⊥) → requested_in s n past ≡ past
    same Open past n o = absurd (o refl)
    same Ended past n o = refl
    same Cancelled past n o = refl
    same Refused past n o = refl

-- the part made moves, of which some put signals out, into the queue
pub record IsWorking {M T : Type 0} (mc : Machine M T) (m : Meaning T) (old new : Subscription M T) : Type 0 where
  pub kept : IsKeptBeside old new
  pub out : List (Signal T)
  pub queue : new.queue ≡ old.queue ++ out
  pub put : IsPutOut mc m old.part out new.part
  pub asked : new.part.root.demand.asked ≡ old.part.root.demand.asked
  pub unclosed : (old.part.root.state ≡ Closed → ⊥) → new.part.root.state ≡ Closed → ⊥
  pub alive : IsAllClosed old.part.tree → (old.part.root.state ≡ Live → ⊥) → ⊥
  pub count : length (all_edges new.part) ≡ length (all_edges old.part)

pub stands_worked : {M T : Type 0} (mc : Machine M T) (m : Meaning T) (published : List (Stream T)) (old new : Subscription M T) (past : Past T) → IsWorking mc m old new → Stands mc m published old past → Stands mc m published new past
stands_worked {M} {T} mc m published old new past k h =
    let same : standing_of new ≡ standing_of old = ap (λ s. standing s new.live) k.kept.state ∙ ap (λ l. standing old.state l) k.kept.live in
    let live : IsLive (standing_of old) = elim (live_or_not (standing_of old)) [ inl l ↦ l | inr dead ↦ let c = h.closed dead in absurd (k.alive c.0 c.1) ] in
    let live' : IsLive (standing_of new) = rw same live in
    record {
      state = same ∙ h.state;
      live = k.kept.live ∙ (h.live ∙ ap live_in (sym same));
      output = h.output ++ k.out;
      part = k.put published past.expression past.joins h.output h.part;
      held = λ _. ap (λ q. past.received ++ q) k.queue ∙ (sym (append_assoc past.received old.queue k.out) ∙ ap (λ l. l ++ k.out) (h.held live));
      begun = λ dead. absurd (dead live');
      orderly = h.orderly;
      waits = λ o. h.waits (sym same ∙ o);
      got = λ e. h.got (sym same ∙ e);
      unclosed = λ _. k.unclosed (h.unclosed live);
      asked = k.asked ∙ h.asked;
      requested = ap (λ d. d.asked) k.kept.demand ∙ h.requested;
      delivered = ap (λ d. d.sent) k.kept.demand ∙ h.delivered;
      admitted = h.admitted;
      shape = k.count ∙ h.shape;
      joined = h.joined;
      closed = λ dead. absurd (dead live');
    }

-- the subscriber takes the front signal of the queue, which the table delivers
pub record IsTaking {M T : Type 0} (old new : Subscription M T) (s : Signal T) : Type 0 where
  pub take : IsTake old s new
  pub delivers : Delivers old.state s old.demand

popped : {T : Type 0} (o : Option (Signal T)) (s : Signal T) (old new : List (Signal T)) → o ≡ Some s → IfSome o (λ x. old ≡ x ∷ new) → old ≡ s ∷ new
popped None s old new e h = cc
popped (Some x) s old new e h = cc

pub is_taking : {M T : Type 0} (old new : Subscription M T) (front s : Signal T) (o : Option (Signal T)) → front ≡ slice_index_or old.queue 0 front → o ≡ Some s → IfSome o (λ x. old.queue ≡ x ∷ new.queue) → is_delivery (answer (cell_of old.state (input_of front)) old.demand) ≡ true →
    new.state ≡ next_state (cell_of old.state (input_of front)) old.state → new.live ≡ old.live → new.demand.asked ≡ asked_after (cell_of old.state (input_of front)) old.demand → new.demand.sent ≡ sent_after (cell_of old.state (input_of front)) old.demand →
    new.part ≡ old.part → IsTaking old new s
is_taking {M} {T} old new front s o f i w d st l a n p =
    let q : old.queue ≡ s ∷ new.queue = popped o s old.queue new.queue i w in
    let named : front ≡ s = f ∙ ap (λ l. slice_index_or l 0 front) q in
    record {
      take = record {
        part = p;
        queue = q;
        state = rw named at st;
        live = l;
        requested = rw named at a;
        delivered = rw named at n;
      };
      delivers = signal_delivered old.state s old.demand (delivery_made _ (rw named at d));
    }

pub live_after : {T : Type 0} (state : SubscriptionState) (s : Signal T) → IsLive state → IsLive (state_after state s)
live_after state (Next x) h = h
live_after state Complete h = tt
live_after state (Error c) h = tt

pub IsUnended-after : {T : Type 0} (state : SubscriptionState) (a : List (Signal T)) (s : Signal T) → (state ≡ Open → IsUnended a) → state_after state s ≡ Open → IsUnended (a ++ s ∷ [])
IsUnended-after state a (Next x) h o = IsUnended-more a x (h o)
IsUnended-after state a Complete h o = cc
IsUnended-after state a (Error c) h o = cc

ended_after : {T : Type 0} (state : SubscriptionState) (a : List (Signal T)) (s : Signal T) → (state ≡ Ended → IsUnended a → ⊥) → state_after state s ≡ Ended → IsUnended (a ++ s ∷ []) → ⊥
ended_after state a (Next x) h e u = h e (IsUnended-front a (Next x ∷ []) u)
ended_after state a Complete h e u = let x = IsUnended-last a Complete u in let k = x.1 in cc
ended_after state a (Error c) h e u = let x = IsUnended-last a (Error c) u in let k = x.1 in cc

pub stands_taken : {M T : Type 0} (mc : Machine M T) (m : Meaning T) (published : List (Stream T)) (old new : Subscription M T) (s : Signal T) (past : Past T) → IsTaking old new s → Stands mc m published old past → Stands mc m published new (given s past)
stands_taken {M} {T} mc m published old new s past k h =
    let live : IsLive (standing_of old) = elim (live_or_not (standing_of old)) [ inl l ↦ l | inr dead ↦ let e = (h.closed dead).2 in let q = k.take.queue in cc ] in
    let was_live : old.live ≡ true = h.live ∙ live_test (standing_of old) live in
    let after : standing_of new ≡ state_after (standing_of old) s =
    ap (λ l. standing new.state l) (k.take.live ∙ was_live) ∙ (ap (λ t. standing t true) k.take.state ∙ (k.delivers.state ∙ ap (λ l. state_after (standing old.state l) s) (sym was_live))) in
    let live' : IsLive (standing_of new) = rw after (live_after (standing_of old) s live) in
    let moved : (past.received ++ s ∷ []) ++ new.queue ≡ past.received ++ old.queue = rw k.take.queue (append_assoc past.received (s ∷ []) new.queue) in
    let received : items_in (past.received ++ s ∷ []) ≡ items_in past.received ++ items_in (s ∷ []) = items_in-append past.received (s ∷ []) in
    let received_count : length (items_in (past.received ++ s ∷ [])) ≡ length (items_in past.received) + length (items_in (s ∷ [])) = ap length received ∙ length-append (items_in past.received) (items_in (s ∷ [])) in
    let whole : IsOrderly (past.received ++ s ∷ new.queue) = rw (← k.take.queue, h.held live) h.part.orderly in
    record {
      state = after ∙ ap (λ t. state_after t s) h.state;
      live = k.take.live ∙ (was_live ∙ sym (live_test (standing_of new) live'));
      output = h.output;
      part = rw k.take.part h.part;
      held = λ _. moved ∙ h.held live;
      begun = λ dead. absurd (dead live');
      orderly = IsOrderly-more past.received s (unended_before past.received s new.queue whole);
      waits = λ o. IsUnended-after (standing_of old) past.received s h.waits (sym after ∙ o);
      got = λ e. ended_after (standing_of old) past.received s h.got (sym after ∙ e);
      unclosed = λ _. rw k.take.part (h.unclosed live);
      asked = rw k.take.part h.asked;
      requested = k.take.requested ∙ (k.delivers.asked ∙ h.requested);
      delivered = k.take.delivered ∙ (k.delivers.sent ∙ (ap (λ n. n + length (items_in (s ∷ []))) h.delivered ∙ sym received_count));
      admitted = h.admitted;
      shape = rw k.take.part h.shape;
      joined = h.joined;
      closed = λ dead. absurd (dead live');
    }

-- ---- driving a subscription

pub pumped_none : {M T : Type 0} (mc : Machine M T) (kd : Nodes M T) (m : Meaning T) (id : SubId) (sub : Subscription M T) (o : List (SubId × Signal T)) → IsPumped mc kd m id 0 sub o sub o
pumped_none mc kd m id sub o = record { signals = []; output = sym (append-nil o); moves = gives_none (IsMoved mc kd m id) option_to_list sub sub refl; stands = λ p q h. h; alike = alike_still mc sub.part.tree }

pub pumped_same_sub : {M T : Type 0} (mc : Machine M T) (kd : Nodes M T) (m : Meaning T) (id : SubId) (old new : Subscription M T) (o : List (SubId × Signal T)) → new ≡ old → IsPumped mc kd m id 0 old o new o
pumped_same_sub {M} {T} mc kd m id old new o e = let P : Subscription M T → Type 0 = λ s. IsPumped mc kd m id 0 old o s o in subst P (sym e) (pumped_none mc kd m id old o)

-- nothing changed
pub pumped_still : {M T : Type 0} (mc : Machine M T) (kd : Nodes M T) (m : Meaning T) (id : SubId) (old new : Subscription M T) (o o' : List (SubId × Signal T)) → new ≡ old → o' ≡ o → IsPumped mc kd m id 0 old o new o'
pumped_still {M} {T} mc kd m id old new o o' e f = let P : List (SubId × Signal T) → Type 0 = λ l. IsPumped mc kd m id 0 old o new l in subst P (sym f) (pumped_same_sub mc kd m id old new o e)

-- the Take of the root is enabled where the queue's front signal is delivered
pub delivery_enabled : {M T : Type 0} (mc : Machine M T) (kd : Nodes M T) (m : Meaning T) (id : SubId) (sub : Subscription M T) (b : Bool) → take_enabled sub 0 ≡ b → move_enabled_in mc kd m sub (delivery id) ≡ b
delivery_enabled mc kd m id sub true e = or_left (take_enabled sub 0) _ e
delivery_enabled mc kd m id sub false e = ap (λ c. c || false) e

pub pumped_one : {M T : Type 0} (mc : Machine M T) (kd : Nodes M T) (m : Meaning T) (id : SubId) (old new : Subscription M T) (o o' : List (SubId × Signal T)) (s : Signal T) → o' ≡ o ++ (id, s) ∷ [] → take_enabled old 0 ≡ true → IsTake old s new → ((published : List (Stream T)) (past : Past T) → Stands mc m published old past → Stands mc m published new (given s past)) → IsPumped mc kd m id 1 old o new o'
pumped_one mc kd m id old new o o' s e can took k = record {
  signals = s ∷ [];
  output = e;
  moves = gives_one (IsMoved mc kd m id) option_to_list old new (Some (id, s)) (record { move = delivery id; tree = refl; enabled = delivery_enabled mc kd m id old true can; effect = took; answer = (s, refl) });
  stands = k;
  alike = (λ a. ap (Part.pump_allocates mc a) took.part, λ counts h. subst (λ p. IsTreeReadAt mc counts p.tree) (sym took.part) h, ap (λ p. readings mc p.tree) took.part, ap (λ p. mc.crosses p.tree.machine) took.part);
}

pub given_all-append : {T : Type 0} (a b : List (Signal T)) (p : Past T) → given_all (a ++ b) p ≡ given_all b (given_all a p)
given_all-append [] b p = refl
given_all-append (s ∷ a) b p = given_all-append a b (given s p)

to_append : {T : Type 0} (id : SubId) (a b : List (Signal T)) → to id (a ++ b) ≡ to id a ++ to id b
to_append id [] b = refl
to_append id (s ∷ a) b = ap (λ l. (id, s) ∷ l) (to_append id a b)

pub pumped_more : {M T : Type 0} (mc : Machine M T) (kd : Nodes M T) (m : Meaning T) (id : SubId) (n k : ℕ) (s1 s2 s3 : Subscription M T) (o1 o2 o3 : List (SubId × Signal T)) → IsPumped mc kd m id n s1 o1 s2 o2 → IsPumped mc kd m id k s2 o2 s3 o3 → IsPumped mc kd m id (n + k) s1 o1 s3 o3
pumped_more {M} {T} mc kd m id n k s1 s2 s3 o1 o2 o3 a b =
    let L : List (SubId × Signal T) → Type 0 = λ l. Gives (IsMoved mc kd m id) option_to_list (n + k) s1 l s3 in
    record {
      signals = a.signals ++ b.signals;
      output = b.output ∙ (ap (λ o. o ++ to id b.signals) a.output ∙ (append_assoc o1 (to id a.signals) (to id b.signals) ∙ ap (λ l. o1 ++ l) (sym (to_append id a.signals b.signals))));
      moves = subst L (sym (to_append id a.signals b.signals)) (gives_on (IsMoved mc kd m id) option_to_list n k s1 s2 s3 (to id a.signals) (to id b.signals) a.moves b.moves);
      stands = λ published past h.
          let P : Past T → Type 0 = λ p. Stands mc m published s3 p in
          subst P (sym (given_all-append a.signals b.signals past)) (b.stands published (given_all a.signals past) (a.stands published past h));
      alike = alike_then mc s1.part.tree s2.part.tree s3.part.tree a.alike b.alike;
    }

-- ---- the moves of a part

-- the effect of a move of a part
worked_by : {M T : Type 0} (mc : Machine M T) (m : Meaning T) (step : NodeMove) (old new : Subscription M T) (out : List (Signal T)) → IsKeptBeside old new → new.queue ≡ old.queue ++ out → Part.IsEffect mc m step old.part out new.part → IsWorkedBy mc m (Some step) old new
worked_by mc m (NodeAsk n) old new out r queued e = record { part = e.1; queue = queued ∙ (ap (λ l. old.queue ++ l) e.0 ∙ append-nil old.queue); kept = r }
worked_by mc m (NodeSend n) old new out r queued e = record { out = out; edges = e; queue = queued; kept = r }
worked_by mc m (NodePick n input) old new out r queued e = record { part = e.1; queue = queued ∙ (ap (λ l. old.queue ++ l) e.0 ∙ append-nil old.queue); kept = r }
worked_by mc m (NodeRow n) old new out r queued e = record { part = e.1; queue = queued ∙ (ap (λ l. old.queue ++ l) e.0 ∙ append-nil old.queue); kept = r }

-- beside the part and its queue it changes nothing
pub worked_kept : {M T : Type 0} (mc : Machine M T) (m : Meaning T) (o : Option NodeMove) (old new : Subscription M T) → IsWorkedBy mc m o old new → IsKeptBeside old new
worked_kept mc m None old new h = absurd h
worked_kept mc m (Some (NodeAsk n)) old new h = h.kept
worked_kept mc m (Some (NodeSend n)) old new h = h.kept
worked_kept mc m (Some (NodePick n input)) old new h = h.kept
worked_kept mc m (Some (NodeRow n)) old new h = h.kept

-- a move of a part has the name that its edge gives it
abbrev pub part_name : {M T : Type 0} → Nodes M T → SubId → AnyPart M → NodeMove → Move
part_name kd id part step = name_of (route_below kd part (inside_node step)) (Sub id) step

-- such a move is inside the tree, and answers nothing
pub record IsNamed {M T : Type 0} (mc : Machine M T) (kd : Nodes M T) (m : Meaning T) (id : SubId) (sub : Subscription M T) (step : NodeMove) (move : Move) : Type 0 where
  pub tree : tree_of move ≡ Sub id
  pub enabled : Part.move_enabled mc m sub.part (has_room sub.queue) step ≡ true → move_enabled_in mc kd m sub move ≡ true
  pub effect : (new : Subscription M T) → IsWorkedBy mc m (Some step) sub new → IsEffect mc kd m move sub new None
  pub answer : IsMadeAnswer {T = T} move None

named_by : {M T : Type 0} (mc : Machine M T) (kd : Nodes M T) (m : Meaning T) (id : SubId) (sub : Subscription M T) (step : NodeMove) (n : ℕ) → n ≡ inside_node step → (r : Route) → route_below kd sub.part n ≡ r → IsNamed mc kd m id sub step (name_of r (Sub id) step)
named_by mc kd m id sub (NodeAsk k) n at r is = record { tree = refl; enabled = λ can. can; effect = λ new h. h; answer = refl }
named_by {M} {T} mc kd m id sub (NodePick k i) n at Straight is =
    let w = ap (λ r. node_move r (Pick (Sub id) (record { 0 = k }) i)) (ap (λ j. route_below kd sub.part j) (sym at) ∙ is) in
    record { tree = refl; enabled = λ can. ap (enabled_inside mc m sub) w ∙ can; effect = λ new h. subst (λ o. IsWorkedBy mc m o sub new) (sym w) h; answer = refl }
named_by {M} {T} mc kd m id sub (NodePick k i) n at (Queued b) is =
    let w = ap (λ r. node_move r (Pick (Sub id) (record { 0 = k }) i)) (ap (λ j. route_below kd sub.part j) (sym at) ∙ is) in
    record { tree = refl; enabled = λ can. ap (enabled_inside mc m sub) w ∙ can; effect = λ new h. subst (λ o. IsWorkedBy mc m o sub new) (sym w) h; answer = refl }
named_by {M} {T} mc kd m id sub (NodePick k zero) n at Recorded is =
    let w = ap (λ r. node_move r (Send (Sub id) (record { 0 = k }))) (ap (λ j. route_below kd sub.part j) (sym at) ∙ is) in
    record { tree = refl; enabled = λ can. ap (enabled_inside mc m sub) w ∙ can; effect = λ new h. subst (λ o. IsWorkedBy mc m o sub new) (sym w) h; answer = refl }
named_by {M} {T} mc kd m id sub (NodePick k (suc i)) n at Recorded is =
    let w = ap (λ r. node_move r (Pick (Sub id) (record { 0 = k }) (suc i))) (ap (λ j. route_below kd sub.part j) (sym at) ∙ is) in
    record { tree = refl; enabled = λ can. ap (enabled_inside mc m sub) w ∙ can; effect = λ new h. subst (λ o. IsWorkedBy mc m o sub new) (sym w) h; answer = refl }
named_by {M} {T} mc kd m id sub (NodeSend k) n at Straight is =
    let w = ap (λ r. node_move r (Send (Sub id) (record { 0 = k }))) (ap (λ i. route_below kd sub.part i) (sym at) ∙ is) in
    record { tree = refl; enabled = λ can. ap (enabled_inside mc m sub) w ∙ can; effect = λ new h. subst (λ o. IsWorkedBy mc m o sub new) (sym w) h; answer = refl }
named_by {M} {T} mc kd m id sub (NodeSend k) n at (Queued b) is =
    let w = ap (λ r. node_move r (Take (Sub id) (record { 0 = k }))) (ap (λ i. route_below kd sub.part i) (sym at) ∙ is) in
    record {
      tree = refl;
      enabled = λ can. or_right (take_enabled sub k) _ (ap (enabled_inside mc m sub) w ∙ can);
      effect = λ new h. subst (λ o. IsWorkedBy mc m o sub new) (sym w) h;
      answer = not_root k (nat_eq k 0) refl (ap (λ i. route_below kd sub.part i) (sym at) ∙ is);
    }
  where
    not_root : (k : ℕ) (c : Bool) → nat_eq k 0 ≡ c → (if nat_eq k 0 then Straight else route kd sub.part k) ≡ Queued b → IsTakeAnswer {T = T} (nat_eq k 0) id None
    not_root k false e q = subst (λ c. IsTakeAnswer {T = T} c id None) (sym e) refl
    not_root k true e q = let no = sym (ap (λ c. if c then Straight else route kd sub.part k) e) ∙ q in cc
named_by {M} {T} mc kd m id sub (NodeSend k) n at Recorded is =
    let w = ap (λ r. node_move r (Take (Sub id) (record { 0 = k }))) (ap (λ i. route_below kd sub.part i) (sym at) ∙ is) in
    record {
      tree = refl;
      enabled = λ can. or_right (take_enabled sub k) _ (ap (enabled_inside mc m sub) w ∙ can);
      effect = λ new h. subst (λ o. IsWorkedBy mc m o sub new) (sym w) h;
      answer = not_root k (nat_eq k 0) refl (ap (λ i. route_below kd sub.part i) (sym at) ∙ is);
    }
  where
    not_root : (k : ℕ) (c : Bool) → nat_eq k 0 ≡ c → (if nat_eq k 0 then Straight else route kd sub.part k) ≡ Recorded → IsTakeAnswer {T = T} (nat_eq k 0) id None
    not_root k false e q = subst (λ c. IsTakeAnswer {T = T} c id None) (sym e) refl
    not_root k true e q = let no = sym (ap (λ c. if c then Straight else route kd sub.part k) e) ∙ q in cc
named_by {M} {T} mc kd m id sub (NodeRow k) n at Straight is =
    let w = ap (λ r. node_move r (Row (Sub id) (record { 0 = k }))) (ap (λ i. route_below kd sub.part i) (sym at) ∙ is) in
    record { tree = refl; enabled = λ can. ap (enabled_inside mc m sub) w ∙ can; effect = λ new h. subst (λ o. IsWorkedBy mc m o sub new) (sym w) h; answer = refl }
named_by {M} {T} mc kd m id sub (NodeRow k) n at (Queued true) is =
    let w = ap (λ r. node_move r (Send (Sub id) (record { 0 = k }))) (ap (λ i. route_below kd sub.part i) (sym at) ∙ is) in
    record { tree = refl; enabled = λ can. ap (enabled_inside mc m sub) w ∙ can; effect = λ new h. subst (λ o. IsWorkedBy mc m o sub new) (sym w) h; answer = refl }
named_by {M} {T} mc kd m id sub (NodeRow k) n at (Queued false) is =
    let w = ap (λ r. node_move r (Row (Sub id) (record { 0 = k }))) (ap (λ i. route_below kd sub.part i) (sym at) ∙ is) in
    record { tree = refl; enabled = λ can. ap (enabled_inside mc m sub) w ∙ can; effect = λ new h. subst (λ o. IsWorkedBy mc m o sub new) (sym w) h; answer = refl }
named_by {M} {T} mc kd m id sub (NodeRow k) n at Recorded is =
    let w = ap (λ r. node_move r (Row (Sub id) (record { 0 = k }))) (ap (λ i. route_below kd sub.part i) (sym at) ∙ is) in
    record { tree = refl; enabled = λ can. ap (enabled_inside mc m sub) w ∙ can; effect = λ new h. subst (λ o. IsWorkedBy mc m o sub new) (sym w) h; answer = refl }

pub part_named : {M T : Type 0} (mc : Machine M T) (kd : Nodes M T) (m : Meaning T) (id : SubId) (sub : Subscription M T) (step : NodeMove) → IsNamed mc kd m id sub step (part_name kd id sub.part step)
part_named mc kd m id sub step = named_by mc kd m id sub step (inside_node step) refl (route_below kd sub.part (inside_node step)) refl

-- an enabled move of a part is one of the subscription
moved_part : {M T : Type 0} (mc : Machine M T) (kd : Nodes M T) (m : Meaning T) (id : SubId) (old new : Subscription M T) (out : List (Signal T)) → IsKeptBeside old new → Part.IsMoved mc queue_sink m old.part old.queue out new.part new.queue → IsMoved mc kd m id old None new
moved_part {M} {T} mc kd m id old new out r k =
    let named = part_named mc kd m id old k.move in
    record {
      move = part_name kd id old.part k.move;
      tree = named.tree;
      enabled = named.enabled k.enabled;
      effect = named.effect new (worked_by mc m k.move old new out r k.queued k.effect);
      answer = named.answer;
    }

-- the subscription with another part and queue
abbrev pub with_part : {M T : Type 0} → (sub : Subscription M T) → (sub.state ≡ Fresh → ⊥) → AnyPart M → List (Signal T) → Subscription M T
with_part sub o part queue = record { part = part; queue = queue; state = sub.state; demand = sub.demand; live = sub.live; opened = o }

-- that a subscription was opened is a fact: how it is known makes no difference
same_part : {M T : Type 0} (sub : Subscription M T) (o : sub.state ≡ Fresh → ⊥) → with_part sub o sub.part sub.queue ≡ sub
same_part sub o = ap (λ w. with_part sub w sub.part sub.queue) (Π_prop (λ x. ⊥_prop) o sub.opened)

pub pumped_part : {M T : Type 0} (mc : Machine M T) (kd : Nodes M T) (m : Meaning T) (id : SubId) (n : ℕ) (sub : Subscription M T) (w : sub.state ≡ Fresh → ⊥) (part' : AnyPart M) (queue' : List (Signal T)) (o : List (SubId × Signal T)) → Part.IsPumped mc queue_sink m n sub.part sub.queue part' queue' → IsPumped mc kd m id n sub o (with_part sub w part' queue') o
pumped_part {M} {T} mc kd m id n sub w part' queue' o k = record {
  signals = [];
  output = sym (append-nil o);
  moves = subst L (same_part sub w) (leads_silent (Part.IsMovedOver mc queue_sink m) (IsMoved mc kd m id) option_to_list placed None refl
      (λ x y out moved. moved_part mc kd m id (placed x) (placed y) out (record { state = refl; live = refl; demand = refl }) moved) n (sub.part, sub.queue) (part', queue') k.moves.labels k.moves.count k.moves.run);
  stands = λ published past h. by_moves k.moves.labels k.moves.run published past h;
  alike = k.alike;
}
  where
    L : Subscription M T → Type 0
    L s = Gives (IsMoved mc kd m id) option_to_list n s [] (with_part sub w part' queue')

    placed : AnyPart M × List (Signal T) → Subscription M T
    placed x = with_part sub w x.0 x.1

    by_moves : (outs : List (List (Signal T))) → Leads (Part.IsMovedOver mc queue_sink m) (sub.part, sub.queue) outs (part', queue') → (published : List (Stream T)) (past : Past T) → Stands mc m published sub past → Stands mc m published (with_part sub w part' queue') past
    by_moves [] run published past h =
        stands_same mc m published sub (with_part sub w part' queue') past (record { part = ap (λ x. x.0) run; queue = ap (λ x. x.1) run; state = refl; live = refl; requested = refl; delivered = refl }) h
    by_moves (out ∷ outs) run published past h =
        stands_worked mc m published sub (with_part sub w part' queue') past (record {
          kept = record { state = refl; live = refl; demand = refl };
          out = k.out;
          queue = k.queued;
          put = k.stands;
          asked = k.asked;
          unclosed = k.unclosed;
          alive = moved_alive mc m sub.part (has_room sub.queue) run.1.move run.1.enabled;
          count = moved_count mc m n sub.part part' sub.queue k.out queue' k.moves;
        }) h

-- one move of the part
pub worked_part : {M T : Type 0} (mc : Machine M T) (kd : Nodes M T) (m : Meaning T) (move : Move) (step : NodeMove) (old new : Subscription M T) → Some step ≡ inner_move kd old move → IsKeptBeside old new → Part.IsMadeInto mc queue_sink m step old.part old.queue new.part new.queue → IsWorked mc kd m move old new
worked_part mc kd m move step old new is r h = subst (λ o. IsWorkedBy mc m o old new) is (worked_by mc m step old new h.0 r h.2 h.1.effect)

-- and the call that made it says of the part what it says of the move that was named
pub alone_part : {M T : Type 0} (mc : Machine M T) (kd : Nodes M T) (m : Meaning T) (move : Move) (step : NodeMove) (old new : Subscription M T) → Some step ≡ inner_move kd old move → Part.IsAlone mc m step old.part new.part → IsAlone mc kd m move old new
alone_part mc kd m move step old new is h = subst (λ o. IsAloneBy mc m o old new) is h

pub stands_made : {M T : Type 0} (mc : Machine M T) (m : Meaning T) (step : NodeMove) (published : List (Stream T)) (old new : Subscription M T) (past : Past T) → IsKeptBeside old new → Part.move_enabled mc m old.part (has_room old.queue) step ≡ true → Part.IsMadeInto mc queue_sink m step old.part old.queue new.part new.queue → Stands mc m published old past → Stands mc m published new past
stands_made mc m step published old new past r can k h =
    stands_worked mc m published old new past (record {
      kept = r;
      out = k.0;
      queue = k.2;
      put = k.1.stands;
      asked = k.1.asked;
      unclosed = k.1.unclosed;
      alive = moved_alive mc m old.part (has_room old.queue) step can;
      count = effect_count mc m step old.part new.part k.0 k.1.effect;
    }) h

-- ---- where no move is enabled

-- a subscription whose part is quiet, with nothing to take, is quiet
pub quiet_when : {M T : Type 0} (mc : Machine M T) (m : Meaning T) (sub : Subscription M T) → take_enabled sub 0 ≡ false → Part.IsQuiet mc m sub.part (has_room sub.queue) → IsQuiet mc m sub
quiet_when mc m sub e q = (q, e)

pub awake_part : {M T : Type 0} (mc : Machine M T) (m : Meaning T) (sub : Subscription M T) → Part.IsAwake mc m sub.part (has_room sub.queue) → IsAwake mc m sub
awake_part mc m sub h = inl h

-- what is queued can be taken just where something is queued
pub take_queued : {M T : Type 0} (mc : Machine M T) (m : Meaning T) (published : List (Stream T)) (sub : Subscription M T) (past : Past T) → Stands mc m published sub past → 0 < length sub.queue → take_enabled sub 0 ≡ true
take_queued {M} {T} mc m published sub past h some = by_queue sub.queue refl
  where
    within : (t : Signal T) (q : List (Signal T)) → sub.queue ≡ t ∷ q → IsLive (standing_of sub) → (x : T) → t ≡ Next x → sub.demand.sent < sub.demand.asked
    within t q e live x i =
        let all : length (items_in h.output) ≡ length (items_in past.received) + length (items_in sub.queue) = ap (λ l. length (items_in l)) (sym (h.held live)) ∙ (ap length (items_in-append past.received sub.queue) ∙ length-append (items_in past.received) (items_in sub.queue)) in
        let one : length (items_in sub.queue) ≡ suc (length (items_in q)) = ap (λ l. length (items_in l)) (e ∙ ap (λ s. s ∷ q) i) in
        omega (arith, all, one, h.part.counted, sub.part.root.demand.covered, h.asked, h.requested, h.delivered)

    by_state : (t : Signal T) (q : List (Signal T)) → sub.queue ≡ t ∷ q → (s : SubscriptionState) → standing_of sub ≡ s → delivers sub.state sub.demand (t ∷ q) ≡ true
    by_state t q e Open o =
        rw (standing_open sub.state sub.live sub.opened o) (open_delivers sub.demand t q (within t q e (IsLive-open (standing_of sub) o)))
    by_state t q e Ended o =
        let whole : IsOrderly (past.received ++ t ∷ q) = rw (← e, h.held (rw o tt)) h.part.orderly in
        absurd (h.got o (unended_before past.received t q whole))
    by_state t q e Cancelled o = let none = (h.closed (not_cancelled (standing_of sub) o)).2 in cc
    by_state t q e Refused o = let none = (h.closed (not_refused (standing_of sub) o)).2 in cc

    by_queue : (q : List (Signal T)) → sub.queue ≡ q → take_enabled sub 0 ≡ true
    by_queue [] e = absurd (omega (arith, some, ap length e))
    by_queue (t ∷ q) e = rw e (by_state t q e (standing_of sub) refl)

-- ---- how driving ends

pub rest_ended : {M T : Type 0} (mc : Machine M T) (E : Type 0) (m : Meaning T) (budget n left : ℕ) (sub : Subscription M T) (p : Rest) → n + left ≡ budget → IsRest mc m sub left p → HasRested {E = E} mc m budget n sub (Ok p)
rest_ended mc E m budget n left sub (Rests k) e r = (ap (λ i. n + i) r.0 ∙ e, r.1)
rest_ended mc E m budget n left sub Wakes e r = let z = r.0 in (omega (arith, e, z), r.1)

-- where a move is enabled nothing of the budget is left
pub none_left : {M T : Type 0} (mc : Machine M T) (m : Meaning T) (sub : Subscription M T) (left : ℕ) → (0 < left → IsQuiet mc m sub) → IsAwake mc m sub → left ≡ 0
none_left mc m sub zero q a = refl
none_left mc m sub (suc left) q a =
    let h = q (omega arith) in
    absurd (elim a [
      | inl x ↦ both_ways _ (h.0 x.0 x.1) x.2
      | inr x ↦ both_ways _ h.1 x
    ])

-- a part that is quiet stays so where no signal was taken
pub rest_quiet : {M T : Type 0} (mc : Machine M T) (m : Meaning T) (old new : Subscription M T) → new ≡ old → take_enabled new 0 ≡ false → Part.IsQuiet mc m old.part (has_room old.queue) → IsQuiet mc m new
rest_quiet {M} {T} mc m old new same e q =
    let P : Subscription M T → Type 0 = λ s. Part.IsQuiet mc m s.part (has_room s.queue) in
    quiet_when mc m new e (subst P (sym same) q)

-- ---- moves inside a tree

-- a move inside a tree is enabled where it is one of the part
pub inside_enabled : {M T : Type 0} (mc : Machine M T) (kd : Nodes M T) (m : Meaning T) (sub : Subscription M T) (mv : Move) → IsInside mv → enabled_inside mc m sub (inner_move kd sub mv) ≡ move_enabled_in mc kd m sub mv
inside_enabled mc kd m sub (Ask t n) h = refl
inside_enabled mc kd m sub (Send t n) h = refl
inside_enabled mc kd m sub (Take t n) h = ap (λ c. (c && delivers sub.state sub.demand sub.queue) || enabled_inside mc m sub (inner_move kd sub (Take t n))) (sym (not_zero n.0 h))
inside_enabled mc kd m sub (Pick t n i) h = refl
inside_enabled mc kd m sub (Row t n) h = refl
inside_enabled mc kd m sub (Accept i) h = absurd h

pub inside_effect : {M T : Type 0} (mc : Machine M T) (kd : Nodes M T) (m : Meaning T) (mv : Move) (old new : Subscription M T) → IsInside mv → IsWorked mc kd m mv old new → IsEffect mc kd m mv old new None
inside_effect mc kd m (Ask t n) old new i h = h
inside_effect mc kd m (Send t n) old new i h = h
inside_effect mc kd m (Take t n) old new i h = h
inside_effect mc kd m (Pick t n k) old new i h = h
inside_effect mc kd m (Row t n) old new i h = h
inside_effect mc kd m (Accept k) old new i h = absurd i
