-- What the answers of a graph name is known to each history for which the graph stands.
use Rattle.rsx_kinds.specs.Any.{any_machine}
use Rattle.rsx_graph.specs.Kinds.{feed_move, feed_move_enabled, is_enabled, accepts_in, Rows, SourceStands, StandsFor, enabled_at, Subscription, move_enabled_in}
use Rattle.std.proofs.Common.{◌≡◌, ℕ, zero, suc, ◌-◌, ◌<◌, Bool, true, false, ◌&&◌, List, [], ◌∷◌, length, slice_get, Option, Some, None, is_some, is_none, refl, ap, sym, ◌∙◌, subst, arith}
use Rattle.rsx_graph_moves.specs.Moves as driving
use Rattle.rsx_graph_moves.specs.Moves.{IsMakeRefusal}
use Rattle.rsx_graph_calls.specs.Edits.{IsFedHubRefusal, fault_of}
use Rattle.rsx_graph_calls.specs.Publishes.{IsEmitRefusal, IsEndRefusal, has_emitter}
use Rattle.rsx_graph_calls.specs.Subscribing.{IsSubscribeRefusal}
use Rattle.rsx_graph_state.specs.Hubs.{IsEmittedAt, IsEndedAt}
use Rattle.rsx_graph_state.specs.Prelude.{History, HubPast, Source, emitted, fed, IsFeedRefusal, has_feed, feed_of, IsAcceptRefusal, IsSubMoveRefusal, IsSubscribeId, HubState, is_open}
use Rattle.rsx_graph_state.proofs.Graphs.{count_same, past_first, suc_less}
use Rattle.rsx_graph_state.specs.declared.refusal.Refusal.{Refusal}
use Rattle.rsx_graph_state.specs.declared.refusal.Refusal.TheVariants.{UnknownHub, UnknownSub, Ended, Full, TooMany, BadExpr, NotEnabled, NoMemory}
use Rattle.rsx_subscriber.specs.Prelude.{refusal, Expr, NodeMove}
use Rattle.rsx_sources.specs.Prelude.{Ending, Meaning, Stream, HubKind, Move, Ask, Send, Take, Pick, Row, Accept, SubId, Tree, Sub, Feed as FeedOf}
use Rattle.rsx_graph.specs.Steps.{IsEndingRefusal, IsItemRefusal, IsMoveRefusal, IsNewFeedRefusal, IsNewSubRefusal, IsOfKnown, IsTreeRefusal, goes_on, is_emitted, is_emitter, is_emitting, is_fed, is_feed}

-- ---- which hubs have emitters, and which have feeds

there_too : {A B : Type 0} (xs : List A) (ys : List B) (i : ℕ) (x : A) → length ys ≡ length xs → slice_get xs i ≡ Some x → (y : B) × (slice_get ys i ≡ Some y)
there_too [] ys i x l e = cc
there_too (z ∷ xs) [] i x l e = absurd (omega (arith, l))
there_too (z ∷ xs) (y ∷ ys) zero x l e = (y, refl)
there_too (z ∷ xs) (y ∷ ys) (suc i) x l e = there_too xs ys i x (omega (arith, l)) e

none_too : {A B : Type 0} (xs : List A) (ys : List B) (i : ℕ) → length ys ≡ length xs → slice_get xs i ≡ None → slice_get ys i ≡ None
none_too [] [] i l e = refl
none_too [] (y ∷ ys) i l e = absurd (omega (arith, l))
none_too (z ∷ xs) [] i l e = refl
none_too (z ∷ xs) (y ∷ ys) zero l e = cc
none_too (z ∷ xs) (y ∷ ys) (suc i) l e = none_too xs ys i (omega (arith, l)) e

pub emits_there : {T : Type 0} (m : Meaning T) (g : Rows T) (h : History T) (i : ℕ) → StandsFor m g h → is_emitted (slice_get h.hubs i) ≡ has_emitter g.hubs g.feeds i
emits_there {T} m g h i s = by_past (slice_get h.hubs i) refl
  where
    by_source : (src : Source T) (hub : HubState T) (v : Stream T) → slice_get g.hubs i ≡ Some hub → SourceStands m g.feeds s.taken i v hub src → is_emitter src ≡ has_emitter g.hubs g.feeds i
    by_source (emitted w) hub v e k = sym (λ j. is_some (e j) && is_none (k.0 j))
    by_source (fed x js) hub v e k = sym (λ j. is_some (e j) && is_none (k.there j))

    by_past : (o : Option (HubPast T)) → slice_get h.hubs i ≡ o → is_emitted o ≡ has_emitter g.hubs g.feeds i
    by_past None e = let no = none_too h.hubs g.hubs i s.many e in sym (λ j. is_some (no j) && is_none (feed_of g.feeds i))
    by_past (Some p) e =
        let hub = there_too h.hubs g.hubs i p s.many e in
        let v = there_too h.hubs s.taken i p s.each e in
        by_source p.source hub.0 v.0 hub.1 (s.hub i v.0 hub.0 p v.1 hub.1 e).source

pub fed_there : {T : Type 0} (m : Meaning T) (g : Rows T) (h : History T) (i : ℕ) → StandsFor m g h → is_fed (slice_get h.hubs i) ≡ has_feed g i
fed_there {T} m g h i s = by_past (slice_get h.hubs i) refl
  where
    by_source : (src : Source T) (hub : HubState T) (v : Stream T) → slice_get g.hubs i ≡ Some hub → SourceStands m g.feeds s.taken i v hub src → is_feed src ≡ has_feed g i
    by_source (emitted w) hub v e k = sym (λ j. is_some (e j) && is_some (k.0 j))
    by_source (fed x js) hub v e k = sym (λ j. is_some (e j) && is_some (k.there j))

    by_past : (o : Option (HubPast T)) → slice_get h.hubs i ≡ o → is_fed o ≡ has_feed g i
    by_past None e = let no = none_too h.hubs g.hubs i s.many e in sym (λ j. is_some (no j) && is_some (feed_of g.feeds i))
    by_past (Some p) e =
        let hub = there_too h.hubs g.hubs i p s.many e in
        let v = there_too h.hubs s.taken i p s.each e in
        by_source p.source hub.0 v.0 hub.1 (s.hub i v.0 hub.0 p v.1 hub.1 e).source

-- as many subscriptions as pasts
pub subs_there : {T : Type 0} (m : Meaning T) (g : Rows T) (h : History T) → StandsFor m g h → length g.subs ≡ length h.pasts
subs_there m g h s = count_same any_machine m s.taken g.subs h.pasts s.all

-- ---- what is published

and_first : (a b : Bool) → a && b ≡ true → a ≡ true
and_first true b e = refl
and_first false b e = cc

-- a hub with an emitter that is there goes on as what was published there does
pub goes_on_there : {T : Type 0} (m : Meaning T) (g : Rows T) (h : History T) (i : ℕ) (hub : HubState T) → StandsFor m g h → has_emitter g.hubs g.feeds i ≡ true → slice_get g.hubs i ≡ Some hub → is_emitting (slice_get h.hubs i) ≡ is_open hub.ending
goes_on_there {T} m g h i hub s known there = by_past (slice_get h.hubs i) refl
  where
    by_source : (src : Source T) (v : Stream T) → SourceStands m g.feeds s.taken i v hub src → goes_on src ≡ is_open hub.ending
    by_source (emitted w) v k = ap (λ x. is_open x.ending) k.1
    by_source (fed x js) v k = let no : false ≡ true = sym (λ j. is_some (there j) && is_none (k.there j)) ∙ known in absurd cc

    by_past : (o : Option (HubPast T)) → slice_get h.hubs i ≡ o → is_emitting o ≡ is_open hub.ending
    by_past None e = let no : None ≡ Some hub = sym (none_too h.hubs g.hubs i s.many e) ∙ there in absurd cc
    by_past (Some p) e =
        let v = there_too h.hubs s.taken i p s.each e in
        by_source p.source v.0 (s.hub i v.0 hub p v.1 there e).source

-- where an item was accepted, and where a hub was ended

pub emitted_goes_on : {T : Type 0} (m : Meaning T) (g : Rows T) (h : History T) (i : ℕ) (x : T) (news : List (HubState T)) → StandsFor m g h → has_emitter g.hubs g.feeds i ≡ true → IsEmittedAt i x g.hubs news → is_emitting (slice_get h.hubs i) ≡ true
emitted_goes_on m g h i x news s known e = goes_on_there m g h i e.hub s known e.there ∙ and_first (is_open e.hub.ending) _ e.accepts

pub ended_goes_on : {T : Type 0} (m : Meaning T) (g : Rows T) (h : History T) (i : ℕ) (d : Ending) (news : List (HubState T)) → StandsFor m g h → has_emitter g.hubs g.feeds i ≡ true → IsEndedAt i d g.hubs news → is_emitting (slice_get h.hubs i) ≡ true
ended_goes_on m g h i d news s known e = goes_on_there m g h i e.hub s known e.there ∙ e.goes_on

-- why an item is refused, and why an ending is

pub item_refused : {T : Type 0} (m : Meaning T) (g : Rows T) (h : History T) (i : ℕ) (r : Refusal) → StandsFor m g h → IsEmitRefusal g.hubs g.feeds i r → IsItemRefusal h.hubs i r
item_refused m g h i UnknownHub s k = emits_there m g h i s ∙ k
item_refused m g h i UnknownSub s k = absurd k
item_refused m g h i Ended s k = (emits_there m g h i s ∙ k.0, goes_on_there m g h i k.1.0 s k.0 k.1.1 ∙ k.1.2)
item_refused m g h i Full s k = goes_on_there m g h i k.1.0 s k.0 k.1.1 ∙ k.1.2.0
item_refused m g h i TooMany s k = goes_on_there m g h i k.1.0 s k.0 k.1.1 ∙ k.1.2.0
item_refused m g h i (BadExpr b) s k = absurd k
item_refused m g h i NotEnabled s k = absurd k
item_refused m g h i NoMemory s k = absurd k

pub ending_refused : {T : Type 0} (m : Meaning T) (g : Rows T) (h : History T) (i : ℕ) (r : Refusal) → StandsFor m g h → IsEndRefusal g.hubs g.feeds i r → IsEndingRefusal h.hubs i r
ending_refused m g h i UnknownHub s k = emits_there m g h i s ∙ k
ending_refused m g h i UnknownSub s k = absurd k
ending_refused m g h i Ended s k = (emits_there m g h i s ∙ k.0, goes_on_there m g h i k.1.0 s k.0 k.1.1 ∙ k.1.2)
ending_refused m g h i Full s k = absurd k
ending_refused m g h i TooMany s k = absurd k
ending_refused m g h i (BadExpr b) s k = absurd k
ending_refused m g h i NotEnabled s k = absurd k
ending_refused m g h i NoMemory s k = absurd k

-- ---- new subscriptions and new feeds

pub fault_there : {T : Type 0} (k : HubKind) (c n p : ℕ) (e : Expr T) → n ≡ p → fault_of k c p e ≡ fault_of k c n e
fault_there k c n p e count = ap (λ i. fault_of k c i e) (sym count)

pub new_feed_refused : {T : Type 0} (k : HubKind) (c : ℕ) (e : Expr T) (hubs : List (HubState T)) (p : ℕ) (r : Refusal) → length hubs ≡ p → IsFedHubRefusal k c e hubs r → IsNewFeedRefusal k c e p r
new_feed_refused k c e hubs p UnknownHub count a = absurd a
new_feed_refused k c e hubs p UnknownSub count a = absurd a
new_feed_refused k c e hubs p Ended count a = absurd a
new_feed_refused k c e hubs p Full count a = absurd a
new_feed_refused k c e hubs p TooMany count a = fault_there k c (length hubs) p e count ∙ a.0
new_feed_refused k c e hubs p (BadExpr b) count a = fault_there k c (length hubs) p e count ∙ a
new_feed_refused k c e hubs p NotEnabled count a = absurd a
new_feed_refused k c e hubs p NoMemory count a = let less = a.1 in (fault_there k c (length hubs) p e count ∙ a.0, omega (arith, count, less))

pub id_there : {T : Type 0} (e : Expr T) (i : SubId) (n p a b : ℕ) → n ≡ p → a ≡ b → IsSubscribeId n a e i → IsSubscribeId p b e i
id_there e i n p a b hubs subs k = let less = k.2 in (k.0 ∙ subs, ap (λ j. refusal j e) (sym hubs) ∙ k.1, omega (arith, subs, less))

pub subscribe_refused : {T : Type 0} (e : Expr T) (hubs : List (HubState T)) (p a b : ℕ) (r : Refusal) → length hubs ≡ p → a ≡ b → IsSubscribeRefusal e hubs a r → IsNewSubRefusal p b e r
subscribe_refused e hubs p a b UnknownHub count same k = absurd k
subscribe_refused e hubs p a b UnknownSub count same k = absurd k
subscribe_refused e hubs p a b Ended count same k = absurd k
subscribe_refused e hubs p a b Full count same k = absurd k
subscribe_refused e hubs p a b TooMany count same k = ap (λ j. refusal j e) (sym count) ∙ k.0
subscribe_refused e hubs p a b (BadExpr x) count same k = ap (λ j. refusal j e) (sym count) ∙ k
subscribe_refused e hubs p a b NotEnabled count same k = absurd k
subscribe_refused e hubs p a b NoMemory count same k = let less = k.1 in (ap (λ j. refusal j e) (sym count) ∙ k.0, omega (arith, same, less))

-- ---- moves

tree_refused : {T : Type 0} (m : Meaning T) (g : Rows T) (h : History T) (enabled : Bool) (t : Tree) (r : Refusal) → StandsFor m g h → driving.IsTreeRefusal g enabled t r → IsTreeRefusal h enabled t r
tree_refused m g h enabled (Sub i) r s k = let P : ℕ → Type 0 = λ n. IsSubMoveRefusal n enabled i r in subst P (subs_there m g h s) k
tree_refused m g h enabled (FeedOf i) r s k = let P : Bool → Type 0 = λ known. IsFeedRefusal known enabled r in subst P (sym (fed_there m g h i.0 s)) k

pub move_refused : {T : Type 0} (m : Meaning T) (g : Rows T) (h : History T) (enabled : Bool) (mv : Move) (r : Refusal) → StandsFor m g h → IsMakeRefusal g enabled mv r → IsMoveRefusal h enabled mv r
move_refused m g h enabled (Ask t n) r s k = tree_refused m g h enabled t r s k
move_refused m g h enabled (Send t n) r s k = tree_refused m g h enabled t r s k
move_refused m g h enabled (Take t n) r s k = tree_refused m g h enabled t r s k
move_refused m g h enabled (Pick t n i) r s k = tree_refused m g h enabled t r s k
move_refused m g h enabled (Row t n) r s k = tree_refused m g h enabled t r s k
move_refused m g h enabled (Accept i) r s k = let P : ℕ → Type 0 = λ n. IsAcceptRefusal n enabled i.0 r in subst P s.many k

within : {T : Type 0} (m : Meaning T) (subs : List (Subscription T)) (i : ℕ) (mv : Move) → enabled_at m subs i mv ≡ true → i < length subs
within m [] i mv e = cc
within m (s ∷ ss) zero mv e = omega arith
within m (s ∷ ss) (suc i) mv e =
    let first = past_first (move_enabled_in m s mv) (enabled_at m ss (suc i - 1) mv) i in
    let k = within m ss i mv (sym (first ∙ ap (λ j. enabled_at m ss j mv) (suc_less i)) ∙ e) in
    omega (arith, k)

fed_move : {T : Type 0} (m : Meaning T) (g : Rows T) (n : ℕ) (o : Option NodeMove) → feed_move_enabled m g n o ≡ true → has_feed g n ≡ true
fed_move m g n None e = cc
fed_move m g n (Some step) e = and_first (has_feed g n) _ e

accepted_hub : {T : Type 0} (g : Rows T) (n : ℕ) (o : Option (HubState T)) → slice_get g.hubs n ≡ o → accepts_in g o n ≡ true → has_emitter g.hubs g.feeds n ≡ true
accepted_hub g n None e k = cc
accepted_hub g n (Some hub) e k = ap (λ x. is_some x && is_none (feed_of g.feeds n)) e ∙ and_first (is_none (feed_of g.feeds n)) _ k

pub move_known : {T : Type 0} (m : Meaning T) (g : Rows T) (h : History T) (mv : Move) → StandsFor m g h → is_enabled m g mv ≡ true → IsOfKnown h mv
move_known {T} m g h mv s = by_move mv
  where
    of_sub : (i : SubId) (v : Move) → enabled_at m g.subs i.0 v ≡ true → i.0 < length h.pasts
    of_sub i v e = let k = within m g.subs i.0 v e in let same = subs_there m g h s in omega (arith, k, same)

    of_feed : (n : ℕ) (v : Move) → feed_move_enabled m g n (feed_move g.feeds n v) ≡ true → is_fed (slice_get h.hubs n) ≡ true
    of_feed n v e = fed_there m g h n s ∙ fed_move m g n (feed_move g.feeds n v) e

    by_move : (v : Move) → is_enabled m g v ≡ true → IsOfKnown h v
    by_move (Ask (Sub i) n) e = of_sub i (Ask (Sub i) n) e
    by_move (Ask (FeedOf i) n) e = of_feed i.0 (Ask (FeedOf i) n) e
    by_move (Send (Sub i) n) e = of_sub i (Send (Sub i) n) e
    by_move (Send (FeedOf i) n) e = of_feed i.0 (Send (FeedOf i) n) e
    by_move (Take (Sub i) n) e = of_sub i (Take (Sub i) n) e
    by_move (Take (FeedOf i) n) e = of_feed i.0 (Take (FeedOf i) n) e
    by_move (Pick (Sub i) n k) e = of_sub i (Pick (Sub i) n k) e
    by_move (Pick (FeedOf i) n k) e = of_feed i.0 (Pick (FeedOf i) n k) e
    by_move (Row (Sub i) n) e = of_sub i (Row (Sub i) n) e
    by_move (Row (FeedOf i) n) e = of_feed i.0 (Row (FeedOf i) n) e
    by_move (Accept i) e = emits_there m g h i.0 s ∙ accepted_hub g i.0 (slice_get g.hubs i.0) refl e
