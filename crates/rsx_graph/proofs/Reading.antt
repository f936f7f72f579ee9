-- Where each hub in front of which a signal waits has one reader at most, each node that reads a hub and is at rest has got all that
-- was published there: either the hub took in its whole value, or each node that reads it offers something.
use Rattle.rsx_kinds.specs.Routes.{tree_nodes}
use Rattle.rsx_graph.proofs.Laws.{any_laws}
use Rattle.rsx_kinds.specs.Any.{any_machine}
use Rattle.rsx_kinds.specs.Rests.{any_rests}
use Rattle.rsx_kinds.specs.TreeLaws.{tree_asked_enough, tree_ending_waits, tree_settles}
use Rattle.rsx_graph.specs.Kinds.{IsPartQuiet, Part, AreHubsQuiet, IsAllQuiet, IsHubQuiet, name_in, all_readers, AreValues, IsValue, accepts_at, accepts_in, feed_enabled, sends, sends_where, works, works_where, HubStands, IsFedBy, Rows, SourceStands, StandsFor, AllHaveRead, AllStand, all_have_room, can_accept, can_feed, Subscription, IsQuietInside, goes_out, inside_enabled, next_out, notes_of, route, HasReadAll, PartStands, Feed}
use Rattle.std.proofs.Common.{◌≡◌, ◌⊎◌, inl, inr, ℕ, zero, suc, ◌+◌, ◌<◌, ◌≤◌, min, Bool, true, false, ◌&&◌, ◌||◌, nat_eq, nat_le, if◌then◌else◌, List, [], ◌∷◌, ◌++◌, length, length-append, take, drop, map, slice_get, Option, Some, None, option_map, refl, sym, ap, ◌∙◌, subst, arith, append_assoc}
use Rattle.std.specs.Option.{is_none, is_some}
use Rattle.std.proofs.lemmas.Bool.Decides.{nat_tests}
use Rattle.std.proofs.lemmas.List.{append-nil, drop_all, length-take, nil_from_length}
use Rattle.rsx_demand.specs.declared.TheConstants.{UNBOUNDED}
use Rattle.rsx_model.proofs.UntilStop.{until_stop_law}
use Rattle.rsx_model.specs.Eval.{environment, eval}
use Rattle.rsx_graph_moves.proofs.Named.{name_enabled}
use Rattle.rsx_graph_state.proofs.Named.{feed_named, is_number}
use Rattle.rsx_graph_state.proofs.Values.{emitted_value, values_of}
use Rattle.rsx_graph_state.specs.Prelude.{History, HubPast, Source, emitted, fed, has_feed, is_out, feed_of, HubState, hub_value, items_of, takes_signal, waiting, ending_taken, without, first_waiting, is_open, MOST_ACCEPTED, is_ready, takes_next}
use Rattle.rsx_graph_state.specs.declared.TheConstants.{MOST_HUBS}
use Rattle.rsx_subscriber.specs.Prelude.{Expr, MOST_NODES, all_edges, carried, IsTaken, IsWithin, can_go, Past, EdgeState, Inputs, End, More', inside_node, NodeMove, Ask as NodeAsk, Send as NodeSend, Pick as NodePick, Row as NodeRow, Node}
use Rattle.rsx_pipe.proofs.Handing.{none_value}
use Rattle.rsx_pipe.proofs.Parts.{delivered}
use Rattle.rsx_pipe.proofs.Signals.{some_same}
use Rattle.rsx_pipe.specs.Output.{IsUnended, counts_in, items_in, more_after, published_then, values_then}
use Rattle.rsx_pipe.specs.Part as Parts
use Rattle.rsx_pipe.specs.Part.{IsServed, evaluated}
use Rattle.rsx_sources.specs.Prelude.{front_of, published_at, reads_hub, is_nil, Meaning, Stream, ended_by, ending_signals, signals_then, items_then, signals, signals_then, Accept, HubId, Feed as FeedOf, Ending, Open, Done, Failed, Signal, Next, Complete, Error}
use Rattle.rsx_sources.specs.declared.machine.Machine.{Ghosts as Machine}
use Rattle.rsx_tree.specs.Prelude.{EdgeView, edge_view, is_live, is_room_for, IsReadAt, IsRowReadAt, IsTreeReadAt, count_before, HasReadAll as HasNodeReadAll, HaveReadAll, TreeHasReadAll, offers}
use Rattle.rsx_tree.specs.declared.edge.EdgeState.TheVariants.{Live, Ended, Closed}
use Rattle.rsx_subscriber.proofs.Names.{numbered_name}
use Rattle.rsx_subscriber.proofs.Values.{value_there}
use Rattle.rsx_graph.specs.Limits.{HaveCarriedFewer, HaveFewNodes}
use Rattle.rsx_graph.specs.Read.{HaveAllRead, HaveTakenFewer, WaitForOne, feed_waits, waits_at}
use Rattle.rsx_graph.proofs.Held.{AllOffer, AllOfferIn, IsHeld, Offers, PartOffers, feed_offers, sub_offers}

-- ---- each node that reads a hub and is at rest has got all that was published there

open_count : (e : Ending) (n c : ℕ) → Some (count_before e n) ≡ Some (Some c) → (e ≡ Open) × (n ≡ c)
open_count Open n c h = (refl, cc)
open_count Done n c h = cc
open_count (Failed k) n c h = cc

-- what a hub took in, behind which nothing stands for a node that got so far
counted_there : {T : Type 0} (vs : List (Stream T)) (i n : ℕ) → slice_get (counts_in vs) i ≡ Some (Some n) → (v : Stream T) × (slice_get vs i ≡ Some v) × (without n v ≡ ended_by Open)
counted_there [] i n e = cc
counted_there {T} (v ∷ vs) zero n e =
    let k = open_count v.ending (length v.items) n e in
    let few = k.1 in
    let gone : drop n v.items ≡ [] = drop_all n v.items (omega (arith, few)) in
    (v, refl, λ i. record { items = gone i; ending = k.0 i })
counted_there (v ∷ vs) (suc i) n e = counted_there vs i n e

published_there : {T : Type 0} (vs : List (Stream T)) (i : ℕ) (v : Stream T) → slice_get vs i ≡ Some v → published_at vs i ≡ v
published_there [] i v e = cc
published_there (w ∷ vs) zero v e = some_same w v e
published_there (w ∷ vs) (suc i) v e = published_there vs i v e

-- of each hub, either this holds, or what it took in is its value
abbrev OrWhole : {T : Type 0} → List (Stream T) → List (Stream T) → (ℕ → Type 0) → Type 0
OrWhole {T} taken published P = (h : ℕ) (v : Stream T) → slice_get taken h ≡ Some v → P h ⊎ (slice_get published h ≡ Some v)

or_weaker : {T : Type 0} (taken published : List (Stream T)) (P Q : ℕ → Type 0) → ((h : ℕ) → P h → Q h) → OrWhole taken published P → OrWhole taken published Q
or_weaker taken published P Q k each h v e = elim (each h v e) [ inl p ↦ inl (k h p) | inr q ↦ inr q ]

node_got : {M T : Type 0} (b : Machine M T) (m : Meaning T) (taken published : List (Stream T)) (n : M) (asked sent : ℕ) → IsReadAt (counts_in taken) (b.reads n) → OrWhole taken published (λ h. Offers b m h n asked sent) → HasNodeReadAll b m published n asked sent
node_got {M} {T} b m taken published n asked sent at each none more stuck r is =
    let there = counted_there taken r.hub r.reached (subst (λ o. IsReadAt (counts_in taken) o) is at) in
    elim (each r.hub there.0 there.1) [
      | inl offers ↦ absurd (both (reads_hub r.hub (b.reads n)) (ap (reads_hub r.hub) is ∙ is_number r.hub r.hub refl) (offers none more stuck))
      | inr got ↦ ap (without r.reached) (published_there published r.hub there.0 got) ∙ there.2
    ]
  where
    both : (c : Bool) → c ≡ true → c ≡ false → ⊥
    both c x y = cc

row_got : {M T : Type 0} (b : Machine M T) (m : Meaning T) (taken published : List (Stream T)) (t : Inputs M) → IsRowReadAt b (counts_in taken) t → OrWhole taken published (λ h. AllOfferIn b m h t) → HaveReadAll b m published t
row_got b m taken published End at each = tt
row_got {M} b m taken published (More' e n p below q beside) at each = (
  λ live. first live at.0 (λ w. row_got b m taken published below w (or_weaker taken published (λ h. AllOfferIn b m h (More' e n p below q beside)) (λ h. AllOfferIn b m h below) (λ h k. (k.0 live).1) each)),
  row_got b m taken published beside at.1 (or_weaker taken published (λ h. AllOfferIn b m h (More' e n p below q beside)) (λ h. AllOfferIn b m h beside) (λ h k. k.1) each),
)
  where
    both : (c : Bool) → c ≡ true → c ≡ false → ⊥
    both c x y = cc

    first : is_live e.state ≡ true → (is_live e.state ≡ false) ⊎ (IsReadAt (counts_in taken) (b.reads n) × IsRowReadAt b (counts_in taken) below) → (IsRowReadAt b (counts_in taken) below → HaveReadAll b m published below) → HasNodeReadAll b m published n e.demand.asked e.demand.sent × HaveReadAll b m published below
    first live k deeper = elim k [
      | inl dead ↦ absurd (both (is_live e.state) live dead)
      | inr w ↦ (node_got b m taken published n e.demand.asked e.demand.sent w.0 (or_weaker taken published (λ h. AllOfferIn b m h (More' e n p below q beside)) (λ h. Offers b m h n e.demand.asked e.demand.sent) (λ h o. (o.0 live).0) each), deeper w.1)
    ]

tree_got : {M T : Type 0} (b : Machine M T) (m : Meaning T) (taken published : List (Stream T)) (t : Node M) (asked sent : ℕ) → IsTreeReadAt b (counts_in taken) t → OrWhole taken published (λ h. AllOffer b m h t asked sent) → TreeHasReadAll b m published t asked sent
tree_got b m taken published t asked sent at each = (
  node_got b m taken published t.machine asked sent at.0 (or_weaker taken published (λ h. AllOffer b m h t asked sent) (λ h. Offers b m h t.machine asked sent) (λ h k. k.0) each),
  row_got b m taken published t.inputs at.1 (or_weaker taken published (λ h. AllOffer b m h t asked sent) (λ h. AllOfferIn b m h t.inputs) (λ h k. k.1) each),
)

part_got : {T : Type 0} (m : Meaning T) (taken published : List (Stream T)) (part : Part T) → (part.root.state ≡ Live → IsTreeReadAt any_machine (counts_in taken) part.tree) → OrWhole taken published (λ h. PartOffers m h part) → HasReadAll m published part
part_got m taken published part at each live = tree_got any_machine m taken published part.tree part.root.demand.asked part.root.demand.sent (at live) (or_weaker taken published (λ h. PartOffers m h part) (λ h. AllOffer any_machine m h part.tree part.root.demand.asked part.root.demand.sent) (λ h k. k live) each)

-- ---- a hub with an emitter took in its value

inbox_empty : {T : Type 0} (is : List T) (e : Ending) (b : Bool) (v : Stream T) → v.ending ≡ ending_taken b e → (b ≡ true → is_open e ≡ false) → is_some (first_waiting is e b) ≡ false → published_then v (record { items = is; ending = e }) ≡ v
inbox_empty [] Open false v t k w = none_value v
inbox_empty [] Open true v t k w = let no = k refl in cc
inbox_empty [] Done false v t k w = cc
inbox_empty [] Done true v t k w = ap (λ x. more_after x v (ended_by Done)) t
inbox_empty [] (Failed c) false v t k w = cc
inbox_empty [] (Failed c) true v t k w = ap (λ x. more_after x v (ended_by (Failed c))) t
inbox_empty (x ∷ xs) e b v t k w = cc

emitted_whole : {T : Type 0} (s : HubState T) (v w : Stream T) → IsTaken s v → (s.has_ended ≡ true → s.inbox ≡ []) → w ≡ hub_value s v.items → is_some (waiting s) ≡ false → v ≡ w
emitted_whole s v w k none is waits = sym (inbox_empty s.inbox s.ending s.has_ended v k.ending k.closed waits) ∙ emitted_value s v w k none is

-- ---- a hub with a feed took in its value

-- no edge of a feed has carried 2^63-1 items, and each of its nodes has a number
record IsFeedWithin {T : Type 0} (f : Feed T) : Type 0 where
  root : f.part.root.demand.sent < UNBOUNDED
  below : IsWithin f.part.tree
  nodes : length (all_edges f.part) ≤ MOST_NODES

-- such a feed has put out all that it can
record IsDone {T : Type 0} (m : Meaning T) (f : Feed T) : Type 0 where
  quiet : IsQuietInside m f.part
  none : goes_out m f.part ≡ false
  within : IsFeedWithin f

root_first : (b y z : Bool) → y ≡ false → (if b then false else z) ≡ false → (if b then y else z) ≡ false
root_first true y z none q = none
root_first false y z none q = q

part_quiet : {T : Type 0} (m : Meaning T) (part : Part T) → IsQuietInside m part → goes_out m part ≡ false → IsPartQuiet m part true
part_quiet m part q none (NodeAsk n) l = q (NodeAsk n) l
part_quiet m part q none (NodeSend n) l = root_first (nat_eq n 0) (goes_out m part) _ none (q (NodeSend n) l)
part_quiet m part q none (NodePick n k) l = q (NodePick n k) l
part_quiet m part q none (NodeRow n) l = q (NodeRow n) l

pub signal_items : {T : Type 0} (xs : List T) (e : Ending) → items_in (map Next xs ++ ending_signals e) ≡ xs
signal_items [] Open = refl
signal_items [] Done = refl
signal_items [] (Failed c) = refl
signal_items (x ∷ xs) e = ap (λ l. x ∷ l) (signal_items xs e)

signals_unended : {T : Type 0} (xs : List T) (e : Ending) → e ≡ Open → IsUnended (map Next xs ++ ending_signals e)
signals_unended [] Open is = tt
signals_unended [] Done is = cc
signals_unended [] (Failed c) is = cc
signals_unended (x ∷ xs) e is = signals_unended xs e is

-- what went out of it is the whole value, and nothing is left
nothing_left : {T : Type 0} (m : Meaning T) (before : List (Stream T)) (f : Feed T) (e : Expr T) (joins : List ℕ) (v u : Stream T) → PartStands m before f.part e joins (signals v) → f.part.root.demand.asked ≡ UNBOUNDED → f.part.root.demand.sent < UNBOUNDED → IsServed f.part (signals v) (published_then v u) →
    published_then v u ≡ v
nothing_left {T} m before f e joins v u st asked less d = by_ending v.ending refl
  where
    ended_still : ((u.ending ≡ Open → ⊥) → f.part.root.state ≡ Ended) → (y : Ending) → u.ending ≡ y → v.ending ≡ Open → u.ending ≡ Open
    ended_still k Open at o = at
    ended_still k Done at o = absurd (st.ended (k (λ q. let no = sym at ∙ q in cc)) (signals_unended v.items v.ending o))
    ended_still k (Failed c) at o = absurd (st.ended (k (λ q. let no = sym at ∙ q in cc)) (signals_unended v.items v.ending o))

    rest_none : v.ending ≡ Open → IsServed f.part (signals v) (items_then v.items u) → u ≡ ended_by Open
    rest_none is s =
        let sent = st.counted in
        let all = ap length (signal_items v.items v.ending) in
        let count = ap length s.items in
        let least = length-take (min f.part.root.demand.asked (length (v.items ++ u.items))) (v.items ++ u.items) in
        let long = length-append v.items u.items in
        let none : length u.items ≡ 0 = omega (arith, sent, all, count, least, long, asked, less) in
        let more : length (v.items ++ u.items) < f.part.root.demand.asked = omega (arith, sent, all, long, none, asked, less) in
        let still : u.ending ≡ Open = ended_still (s.ending more) u.ending refl is in
        λ i. record { items = nil_from_length u.items none i; ending = still i }

    by_ending : (x : Ending) → v.ending ≡ x → published_then v u ≡ v
    by_ending Open is =
        let D : Stream T → Type 0 = λ w. IsServed f.part (signals v) w in
        let all : published_then v u ≡ items_then v.items u = ap (λ x. more_after x v u) is in
        all ∙ (ap (λ w. items_then v.items w) (rest_none is (subst D all d)) ∙ (λ i. record { items = append-nil v.items i; ending = sym is i }))
    by_ending Done is = ap (λ x. more_after x v u) is
    by_ending (Failed c) is = ap (λ x. more_after x v u) is

-- what went out of it is the value of its expression over the values of the hubs before its own
fed_whole : {T : Type 0} (m : Meaning T) (before more : List (Stream T)) (f : Feed T) (e : Expr T) (joins : List ℕ) (v u : Stream T) → IsDone m f → PartStands m before f.part e joins (signals v) → f.part.root.demand.asked ≡ UNBOUNDED → (f.part.root.state ≡ Closed → ⊥) →
    HasReadAll m (values_then before more) f.part → evaluated m (values_then before more) joins e (notes_of f.part.tree) ≡ Some (published_then v u) → published_then v u ≡ v
fed_whole {T} m before more f e joins v u done st asked unclosed read value =
    let served = delivered any_machine m (tree_ending_waits m) (tree_asked_enough m) (tree_settles m) (any_rests m) f.part true (part_quiet m f.part done.quiet done.none) before e joins (signals v) st unclosed refl done.within.nodes done.within.below more (published_then v u) read value in
    nothing_left m before f e joins v u st asked done.within.root served

-- ---- feeds and their hubs at rest

feed_within : {T : Type 0} (fs : List (Feed T)) (i : ℕ) (f : Feed T) → HaveCarriedFewer fs → HaveFewNodes fs → feed_of fs i ≡ Some f → IsFeedWithin f
feed_within [] i f w n e = cc
feed_within {T} (x ∷ fs) i f w n e = by_test (λ q. feed_within fs i f w.2 n.1 q) (nat_eq x.hub i) e
  where
    by_test : (feed_of fs i ≡ Some f → IsFeedWithin f) → (b : Bool) → (if b then Some x else feed_of fs i) ≡ Some f → IsFeedWithin f
    by_test rest true e = let P : Feed T → Type 0 = λ y. IsFeedWithin y in subst P (some_same x f e) (record { root = w.0; below = w.1; nodes = n.0 })
    by_test rest false e = rest e

-- a feed stands somewhere among all
feed_place : {T : Type 0} (fs : List (Feed T)) (i : ℕ) (f : Feed T) → feed_of fs i ≡ Some f → (at : ℕ) × (slice_get fs at ≡ Some f)
feed_place [] i f e = cc
feed_place {T} (x ∷ fs) i f e = by_test (λ q. feed_place fs i f q) (nat_eq x.hub i) e
  where
    by_test : (feed_of fs i ≡ Some f → (at : ℕ) × (slice_get fs at ≡ Some f)) → (b : Bool) → (if b then Some x else feed_of fs i) ≡ Some f → (at : ℕ) × (slice_get (x ∷ fs) at ≡ Some f)
    by_test rest true e = (zero, e)
    by_test rest false e = let k = rest e in (suc k.0, k.1)

pub known_first : (b c : Bool) → b ≡ true → b && c ≡ false → c ≡ false
known_first true c t e = e
known_first false c t e = cc

has_known : {T : Type 0} (g : Rows T) (i : ℕ) (s : HubState T) (f : Feed T) → slice_get g.hubs i ≡ Some s → feed_of g.feeds i ≡ Some f → has_feed g i ≡ true
has_known g i s f there own = ap (λ o. is_some o && is_some (feed_of g.feeds i)) there ∙ ap is_some own

feed_quiet : {T : Type 0} (m : Meaning T) (g : Rows T) (i : ℕ) (s : HubState T) (f : Feed T) → slice_get g.hubs i ≡ Some s → feed_of g.feeds i ≡ Some f → IsHubQuiet m g i → IsQuietInside m f.part
feed_quiet {T} m g i s f there own q = by_step
  where
    known : has_feed g i ≡ true
    known = has_known g i s f there own

    inside : (step : NodeMove) → works m g.feeds i step ≡ false → inside_enabled m f.part step ≡ false
    inside step w = sym (ap (λ o. works_where m o step) own) ∙ w

    root_none : (b c : Bool) → b ≡ true → (if b then false else c) ≡ false
    root_none true c e = refl
    root_none false c e = cc

    by_out : (n : ℕ) (b : Bool) → nat_eq n 0 ≡ b → (if nat_eq n 0 then sends m g i else works m g.feeds i (NodeSend n)) ≡ false → inside_enabled m f.part (NodeSend n) ≡ false
    by_out n true is w = root_none (nat_eq n 0) _ is
    by_out n false is w = inside (NodeSend n) (sym (ap (λ c. if c then sends m g i else works m g.feeds i (NodeSend n)) is) ∙ w)

    by_step : IsQuietInside m f.part
    by_step (NodeAsk n) l = inside (NodeAsk n) (known_first (has_feed g i) (works m g.feeds i (NodeAsk n)) known (q.feed (NodeAsk n) l))
    by_step (NodeSend n) l = by_out n (nat_eq n 0) refl (known_first (has_feed g i) (if nat_eq n 0 then sends m g i else works m g.feeds i (NodeSend n)) known (q.feed (NodeSend n) l))
    by_step (NodePick n k) l = inside (NodePick n k) (known_first (has_feed g i) (works m g.feeds i (NodePick n k)) known (q.feed (NodePick n k) l))
    by_step (NodeRow n) l = inside (NodeRow n) (known_first (has_feed g i) (works m g.feeds i (NodeRow n)) known (q.feed (NodeRow n) l))

-- ---- a signal waits in front of a hub that doesn't take it in: a node that reads the hub has no room

or_first : (a b : Bool) → a || b ≡ false → a ≡ false
or_first true b e = cc
or_first false b e = refl

or_second : (a b : Bool) → a || b ≡ false → b ≡ false
or_second true b e = cc
or_second false b e = e

or_other : (a b : Bool) → a ≡ false → a || b ≡ true → b ≡ true
or_other true b n e = cc
or_other false b n e = e

no_room : {T : Type 0} (s : Signal T) (room : Bool) → is_room_for s room ≡ false → room ≡ false
no_room (Next x) room e = e
no_room Complete room e = cc
no_room (Error c) room e = cc

no_room_ready : {T : Type 0} (o : Option (Signal T)) (room : Bool) → is_some o ≡ true → is_ready o room ≡ false → room ≡ false
no_room_ready None room w e = cc
no_room_ready (Some s) room w e = no_room s room e

-- a hub in whose inbox a signal waits has not ended
inbox_open : {T : Type 0} (is : List T) (e : Ending) (b : Bool) (w : Ending) → (b ≡ true → is ≡ []) → w ≡ ending_taken b e → is_some (first_waiting is e b) ≡ true → w ≡ Open
inbox_open [] e true w k t s = cc
inbox_open [] e false w k t s = t
inbox_open (x ∷ xs) e true w k t s = let no = k refl in cc
inbox_open (x ∷ xs) e false w k t s = t

emitted_full : {T : Type 0} (m : Meaning T) (g : Rows T) (i : ℕ) (s : HubState T) → slice_get g.hubs i ≡ Some s → feed_of g.feeds i ≡ None → accepts_at g i ≡ false → is_some (waiting s) ≡ true → all_have_room i g.feeds g.subs ≡ false
emitted_full m g i s there unfed none waits =
    let here : is_none (feed_of g.feeds i) && can_accept i s g.feeds g.subs ≡ false = sym (ap (λ o. accepts_in g o i) there) ∙ none in
    no_room_ready (waiting s) (all_have_room i g.feeds g.subs) waits (known_first (is_none (feed_of g.feeds i)) (can_accept i s g.feeds g.subs) (ap is_none unfed) here)

-- a signal that can go over an edge: the edge is live
first_true : (a b : Bool) → a && b ≡ true → a ≡ true
first_true true b e = refl
first_true false b e = cc

carried_signal : {T : Type 0} (e : EdgeView) (o : Option (Signal T)) → can_go e (option_map front_of o) ≡ true → (s : Signal T) × (carried e o ≡ Some s) × (is_live e.state ≡ true)
carried_signal e None k = cc
carried_signal e (Some (Next x)) k = (Next x, ap (λ b. if b then Some (Next x) else None) k, first_true (is_live e.state) _ k)
carried_signal e (Some Complete) k = (Complete, ap (λ b. if b then Some Complete else None) k, k)
carried_signal e (Some (Error c)) k = (Error c, ap (λ b. if b then Some (Error c) else None) k, k)

live_state : (e : EdgeState) → is_live e ≡ true → e ≡ Live
live_state Live k = refl
live_state Ended k = cc
live_state Closed k = cc

unended_open : {T : Type 0} (xs : List T) (e : Ending) → IsUnended (map Next xs ++ ending_signals e) → e ≡ Open
unended_open [] Open k = refl
unended_open [] Done k = absurd k
unended_open [] (Failed c) k = absurd k
unended_open (x ∷ xs) e k = unended_open xs e k

takes_open : {T : Type 0} (e : Ending) (is : List T) (n : ℕ) (s : Signal T) → e ≡ Open → is ≡ [] → n < MOST_ACCEPTED → is_open e && (is_nil is && nat_le (n + items_of s) MOST_ACCEPTED) ≡ true
takes_open Open [] n (Next x) o none l = grind (arith, nat_tests, l)
takes_open Open [] n Complete o none l = grind (arith, nat_tests, l)
takes_open Open [] n (Error c) o none l = grind (arith, nat_tests, l)
takes_open Open (x ∷ xs) n s o none l = cc
takes_open Done is n s o none l = cc
takes_open (Failed c) is n s o none l = cc

-- a hub that took in no ending is open, where that follows from it
still_open : (e : Ending) (b : Bool) (w : Ending) → w ≡ ending_taken b e → w ≡ Open → (b ≡ true → is_open e ≡ false) → (b ≡ false → e ≡ Open) → e ≡ Open
still_open e true w t o k u = let no : is_open e ≡ true = ap is_open (sym t ∙ o) in let yes = k refl in cc
still_open e false w t o k u = u refl

next_full : {T : Type 0} (hub : HubState T) (room : Bool) (o : Option (Signal T)) (s : Signal T) → o ≡ Some s → takes_signal hub s ≡ true → takes_next o hub room ≡ false → room ≡ false
next_full {T} hub room o s is takes none = no_room s room (known_first (takes_signal hub s) (is_room_for s room) takes (sym (ap (λ x. takes_next x hub room) is) ∙ none))

-- ---- the hubs of a graph at rest

-- no move of a hub or of a feed is enabled, and each hub in front of which a signal waits has one reader at most
record IsAtRest {T : Type 0} (m : Meaning T) (g : Rows T) (h : History T) : Type 0 where
  stands : StandsFor m g h
  wait : WaitForOne m g
  taken : HaveTakenFewer m g
  quiet : AreHubsQuiet m g (length g.hubs)
  carried : HaveCarriedFewer g.feeds
  nodes : HaveFewNodes g.feeds

-- what the hub with this number took in: it is held back behind that, and has not ended
record IsHeldAt {T : Type 0} (g : Rows T) (i : ℕ) (v : Stream T) : Type 0 where
  held : IsHeld i (length v.items) g.feeds g.subs
  unended : v.ending ≡ Open

pub hub_less : {A : Type 0} (xs : List A) (i : ℕ) (x : A) → slice_get xs i ≡ Some x → i < length xs
hub_less [] i x e = cc
hub_less (y ∷ xs) zero x e = omega arith
hub_less (y ∷ xs) (suc i) x e = let more = hub_less xs i x e in omega (arith, more)

held_at : {T : Type 0} (m : Meaning T) (g : Rows T) (i : ℕ) (v : Stream T) (s : HubState T) → IsTaken s v → all_readers i g.feeds g.subs ≤ 1 → s.count < MOST_ACCEPTED → all_have_room i g.feeds g.subs ≡ false → v.ending ≡ Open → IsHeldAt g i v
held_at m g i v s taken one less room o = record { held = record { room = room; one = one; less = subst (λ n. n < MOST_ACCEPTED) taken.taken.counted less }; unended = o }

emitted_held : {T : Type 0} (m : Meaning T) (g : Rows T) (h : History T) (k : IsAtRest m g h) (i : ℕ) (v w : Stream T) (s : HubState T) (p : HubPast T) → HubStands m g.feeds k.stands.taken i v s p → slice_get g.hubs i ≡ Some s → SourceStands m g.feeds k.stands.taken i v s (emitted w) → waits_at m g i s ≡ true → IsHeldAt g i v
emitted_held {T} m g h k i v w s p st there source waits =
    let inbox : is_some (waiting s) ≡ true = in_front (is_some (waiting s)) (feed_of g.feeds i) source.0 waits in
    held_at m g i v s st.taken_in (k.wait i s there waits) (k.taken i s there waits) (emitted_full m g i s there source.0 (k.quiet i (hub_less g.hubs i s there)).accept inbox) (inbox_open s.inbox s.ending s.has_ended v.ending st.ended st.taken_in.ending inbox)
  where
    in_front : (b : Bool) (o : Option (Feed T)) → o ≡ None → b || feed_waits m o ≡ true → b ≡ true
    in_front true o is e = refl
    in_front false None is e = e
    in_front false (Some f) is e = cc

fed_held : {T : Type 0} (m : Meaning T) (g : Rows T) (h : History T) (k : IsAtRest m g h) (i : ℕ) (v : Stream T) (s : HubState T) (p : HubPast T) (e : Expr T) (joins : List ℕ) → HubStands m g.feeds k.stands.taken i v s p → slice_get g.hubs i ≡ Some s → slice_get k.stands.taken i ≡ Some v → (source : IsFedBy m g.feeds k.stands.taken i s e joins) → goes_out m source.feed.part ≡ true → waits_at m g i s ≡ true → IsHeldAt g i v
fed_held {T} m g h k i v s p e joins st there took source out waits =
    let less = k.taken i s there waits in
    let quiet = k.quiet i (hub_less g.hubs i s there) in
    let here : source.feed.hub ≡ i = feed_named g.feeds i source.feed source.there in
    let going = carried_signal (edge_view source.feed.part.root) (offers any_machine m source.feed.part.tree) out in
    let live : source.feed.part.root.state ≡ Live = live_state source.feed.part.root.state going.2 in
    let same : source.stands.value ≡ v = some_same source.stands.value v (sym source.stands.taken ∙ (ap (slice_get k.stands.taken) here ∙ took)) in
    let none_ended : v.ending ≡ Open = ap (λ x. x.ending) (sym same) ∙ unended_open source.stands.value.items source.stands.value.ending (source.stands.part.unended live) in
    let unended : s.ending ≡ Open = still_open s.ending s.has_ended v.ending st.taken_in.ending none_ended st.taken_in.closed source.unended in
    let takes : takes_signal s going.0 ≡ true = takes_open s.ending s.inbox s.count going.0 unended source.empty less in
    let root : sends m g i ≡ false = known_first (has_feed g i) (sends m g i) (has_known g i s source.feed there source.there) (quiet.feed (NodeSend 0) (omega arith)) in
    let full : can_feed m source.feed s g.feeds g.subs ≡ false = sym (ap (λ o. sends_where m g o (feed_of g.feeds i)) there ∙ ap (λ o. sends_where m g (Some s) o) source.there) ∙ root in
    let room : all_have_room source.feed.hub g.feeds g.subs ≡ false = next_full s (all_have_room source.feed.hub g.feeds g.subs) (next_out m source.feed.part) going.0 going.1 takes full in
    held_at m g i v s st.taken_in (k.wait i s there waits) less (ap (λ n. all_have_room n g.feeds g.subs) (sym here) ∙ room) none_ended

-- ---- a hub that isn't held back took in its value

-- the value of the hub with this number, over those before it
value_at : {T : Type 0} (m : Meaning T) (feeds : List (Feed T)) (before : List (Stream T)) (ps : List (HubPast T)) (vs : List (Stream T)) (i : ℕ) (p : HubPast T) → AreValues m feeds before ps vs → slice_get ps i ≡ Some p → (w : Stream T) × (slice_get vs i ≡ Some w) × IsValue m feeds (before ++ take i vs) p.source w
value_at m feeds before [] vs i p k e = cc
value_at m feeds before (q ∷ ps) [] i p k e = absurd k
value_at {T} m feeds before (q ∷ ps) (v ∷ vs) zero p k e =
    let P : HubPast T → Type 0 = λ x. IsValue m feeds (before ++ []) x.source v in
    let Q : List (Stream T) → Type 0 = λ l. IsValue m feeds l q.source v in
    (v, refl, subst P (some_same q p e) (subst Q (sym (append-nil before)) k.0))
value_at {T} m feeds before (q ∷ ps) (v ∷ vs) (suc i) p k e =
    let r = value_at m feeds (before ++ v ∷ []) ps vs i p k.1 e in
    let Q : List (Stream T) → Type 0 = λ l. IsValue m feeds l p.source r.0 in
    (r.0, r.1, subst Q (append_assoc before (v ∷ []) (take i vs)) r.2)

pub there_too : {A B : Type 0} (xs : List A) (ys : List B) (n : ℕ) (x : A) → length xs ≡ length ys → slice_get xs n ≡ Some x → (y : B) × (slice_get ys n ≡ Some y)
there_too [] ys n x l e = cc
there_too (z ∷ xs) [] n x l e = absurd (omega (arith, l))
there_too (z ∷ xs) (y ∷ ys) zero x l e = (y, refl)
there_too (z ∷ xs) (y ∷ ys) (suc n) x l e = there_too xs ys n x (omega (arith, l)) e

then_at : {T : Type 0} (vs us : List (Stream T)) (i : ℕ) (v : Stream T) → length us ≡ length vs → slice_get vs i ≡ Some v → (u : Stream T) × (slice_get (values_then vs us) i ≡ Some (published_then v u))
then_at [] us i v l e = cc
then_at (w ∷ vs) [] i v l e = absurd (omega (arith, l))
then_at (w ∷ vs) (u ∷ us) zero v l e = (u, ap (λ x. Some (published_then x u)) (some_same w v e))
then_at (w ∷ vs) (u ∷ us) (suc i) v l e = then_at vs us i v (omega (arith, l)) e

take_then : {T : Type 0} (i : ℕ) (vs us : List (Stream T)) → length us ≡ length vs → take i (values_then vs us) ≡ values_then (take i vs) (take i us)
take_then zero vs us l = refl
take_then (suc i) [] [] l = refl
take_then (suc i) [] (u ∷ us) l = absurd (omega (arith, l))
take_then (suc i) (v ∷ vs) [] l = absurd (omega (arith, l))
take_then (suc i) (v ∷ vs) (u ∷ us) l = ap (λ x. published_then v u ∷ x) (take_then i vs us (omega (arith, l)))

taken_before : {A : Type 0} (n : ℕ) (xs : List A) (i : ℕ) (x : A) → slice_get (take n xs) i ≡ Some x → (i < n) × (slice_get xs i ≡ Some x)
taken_before zero xs i x e = cc
taken_before (suc n) [] i x e = cc
taken_before (suc n) (y ∷ xs) zero x e = (omega arith, e)
taken_before (suc n) (y ∷ xs) (suc i) x e = let k = taken_before n xs i x e in let l = k.0 in (omega (arith, l), k.1)

before_taken : {A : Type 0} (n : ℕ) (xs : List A) (i : ℕ) (x : A) → i < n → slice_get xs i ≡ Some x → slice_get (take n xs) i ≡ Some x
before_taken zero xs i x l e = absurd (omega (arith, l))
before_taken (suc n) [] i x l e = cc
before_taken (suc n) (y ∷ xs) zero x l e = e
before_taken (suc n) (y ∷ xs) (suc i) x l e = before_taken n xs i x (omega (arith, l)) e

take_length : {A : Type 0} (n : ℕ) (xs : List A) → n < length xs → length (take n xs) ≡ n
take_length zero xs l = refl
take_length (suc n) [] l = absurd (omega (arith, l))
take_length (suc n) (x ∷ xs) l = ap suc (take_length n xs (omega (arith, l)))

count_there : {T : Type 0} (vs : List (Stream T)) (i : ℕ) (v : Stream T) → slice_get vs i ≡ Some v → v.ending ≡ Open → slice_get (counts_in vs) i ≡ Some (Some (length v.items))
count_there [] i v e o = cc
count_there (w ∷ vs) zero v e o = ap (λ x. Some (count_before x.ending (length x.items))) (some_same w v e) ∙ ap (λ x. Some (count_before x (length v.items))) o
count_there (w ∷ vs) (suc i) v e o = count_there vs i v e o

-- each hub before this one is held back, or took in its value; so the nodes of this feed have got all, or offer something
feed_got : {T : Type 0} (m : Meaning T) (g : Rows T) (taken published : List (Stream T)) (at : ℕ) (f : Feed T) → slice_get g.feeds at ≡ Some f → ((j : ℕ) (w : Stream T) → j < f.hub → slice_get taken j ≡ Some w → IsHeldAt g j w ⊎ (slice_get published j ≡ Some w)) →
    (f.part.root.state ≡ Live → IsTreeReadAt any_machine (counts_in (take f.hub taken)) f.part.tree) → HasReadAll m (take f.hub published) f.part
feed_got {T} m g taken published at f there below reads = part_got m (take f.hub taken) (take f.hub published) f.part reads each
  where
    each : OrWhole (take f.hub taken) (take f.hub published) (λ h. PartOffers m h f.part)
    each h v e =
        let own = taken_before f.hub taken h v e in
        elim (below h v own.0 own.1) [
          | inl k ↦ inl (feed_offers m h (length v.items) (counts_in (take f.hub taken)) g.feeds g.subs at f k.held (count_there (take f.hub taken) h v e k.unended) there own.0 reads)
          | inr q ↦ inr (before_taken f.hub published h v own.0 q)
        ]

-- what is still to come of each hub, and so the values of all
record HaveValues {T : Type 0} (m : Meaning T) (g : Rows T) (h : History T) (taken rest : List (Stream T)) : Type 0 where
  many : length rest ≡ length taken
  values : AreValues m g.feeds [] h.hubs (values_then taken rest)

fed_taken : {T : Type 0} (m : Meaning T) (g : Rows T) (h : History T) (k : IsAtRest m g h) (rest : List (Stream T)) (i : ℕ) (v : Stream T) (s : HubState T) (p : HubPast T) (e : Expr T) (joins : List ℕ) → HaveValues m g h k.stands.taken rest → slice_get g.hubs i ≡ Some s → slice_get k.stands.taken i ≡ Some v → (source : IsFedBy m g.feeds k.stands.taken i s e joins) → goes_out m source.feed.part ≡ false →
    ((w : Stream T) (l : List (Stream T)) → slice_get (values_then k.stands.taken rest) i ≡ Some w → l ≡ take i (values_then k.stands.taken rest) → eval (environment m l joins (notes_of source.feed.part.tree)) e ≡ Some w) →
    ((j : ℕ) (w : Stream T) → j < i → slice_get k.stands.taken j ≡ Some w → IsHeldAt g j w ⊎ (slice_get (values_then k.stands.taken rest) j ≡ Some w)) → slice_get (values_then k.stands.taken rest) i ≡ Some v
fed_taken {T} m g h k rest i v s p e joins all there took source none value below =
    let taken = k.stands.taken in
    let f = source.feed in
    let published = values_then taken rest in
    let here : f.hub ≡ i = feed_named g.feeds i f source.there in
    let place = feed_place g.feeds i f source.there in
    let same : source.stands.value ≡ v = some_same source.stands.value v (sym source.stands.taken ∙ (ap (slice_get taken) here ∙ took)) in
    let u = then_at taken rest i v all.many took in
    let front : take f.hub published ≡ values_then (take f.hub taken) (take f.hub rest) = take_then f.hub taken rest all.many in
    let got = feed_got m g taken published place.0 f place.1 (λ j w l q. below j w (subst (λ n. j < n) here l) q) source.stands.part.reads in
    let R : List (Stream T) → Type 0 = λ l. HasReadAll m l f.part in
    let S : Stream T → Type 0 = λ x. PartStands m (take f.hub taken) f.part e joins (signals x) in
    let done : IsDone m f = record { quiet = feed_quiet m g i s f there source.there (k.quiet i (hub_less g.hubs i s there)); none = none; within = feed_within g.feeds i f k.carried k.nodes source.there } in
    let before = values_then (take f.hub taken) (take f.hub rest) in
    let part = subst S same source.stands.part in
    let scratch : eval (environment m before joins (notes_of f.part.tree)) e ≡ Some (published_then v u.0) = value (published_then v u.0) before u.1 (sym front ∙ ap (λ n. take n published) here) in
    let comes = value_there any_machine any_laws m (take f.hub taken) (take f.hub rest) f.part e joins (signals v) part in
    let one : signals_then (signals v) comes.left ≡ published_then v u.0 =
    some_same (signals_then (signals v) comes.left) (published_then v u.0) (sym (until_stop_law m before joins (notes_of f.part.tree) e (signals_then (signals v) comes.left) comes.value) ∙ scratch) in
    let is : evaluated m before joins e (notes_of f.part.tree) ≡ Some (published_then v u.0) = comes.value ∙ ap Some one in
    let whole = fed_whole m (take f.hub taken) (take f.hub rest) f e joins v u.0 done part source.stands.asked source.stands.unclosed (subst R front got) is in
    u.1 ∙ ap Some whole

-- ---- each hub is held back, or took in its value

abbrev IsSettled : {T : Type 0} → Rows T → List (Stream T) → ℕ → Stream T → Type 0
IsSettled g published i v = IsHeldAt g i v ⊎ (slice_get published i ≡ Some v)

-- nothing waits in the inbox of a hub with a feed
fed_inbox : {T : Type 0} (is : List T) (e : Ending) (b : Bool) → is ≡ [] → (b ≡ false → e ≡ Open) → is_some (first_waiting is e b) ≡ false
fed_inbox [] e true none u = refl
fed_inbox [] Open false none u = refl
fed_inbox [] Done false none u = let no = u refl in cc
fed_inbox [] (Failed c) false none u = let no = u refl in cc
fed_inbox (x ∷ xs) e b none u = cc

next_settled : {T : Type 0} (m : Meaning T) (g : Rows T) (h : History T) (k : IsAtRest m g h) (rest : List (Stream T)) (i : ℕ) (v : Stream T) (s : HubState T) (p : HubPast T) → HaveValues m g h k.stands.taken rest → slice_get k.stands.taken i ≡ Some v → slice_get g.hubs i ≡ Some s → slice_get h.hubs i ≡ Some p →
    ((j : ℕ) (w : Stream T) → j < i → slice_get k.stands.taken j ≡ Some w → IsSettled g (values_then k.stands.taken rest) j w) → IsSettled g (values_then k.stands.taken rest) i v
next_settled {T} m g h k rest i v s p all took there past below = by_test (waits_at m g i s) refl
  where
    st : HubStands m g.feeds k.stands.taken i v s p
    st = k.stands.hub i v s p took there past

    value : (w : Stream T) × (slice_get (values_then k.stands.taken rest) i ≡ Some w) × IsValue m g.feeds (take i (values_then k.stands.taken rest)) p.source w
    value = value_at m g.feeds [] h.hubs (values_then k.stands.taken rest) i p all.values past

    unwaited : (e : Expr T) (joins : List ℕ) → IsFedBy m g.feeds k.stands.taken i s e joins → is_some (waiting s) ≡ false
    unwaited e joins source = fed_inbox s.inbox s.ending s.has_ended source.empty source.unended

    out_is : (e : Expr T) (joins : List ℕ) (source : IsFedBy m g.feeds k.stands.taken i s e joins) → feed_waits m (feed_of g.feeds i) ≡ goes_out m source.feed.part
    out_is e joins source = ap (feed_waits m) source.there

    held : (src : Source T) → SourceStands m g.feeds k.stands.taken i v s src → waits_at m g i s ≡ true → IsHeldAt g i v
    held (emitted w) source waits = emitted_held m g h k i v w s p st there source waits
    held (fed e joins) source waits = fed_held m g h k i v s p e joins st there took source (sym (out_is e joins source) ∙ or_other (is_some (waiting s)) (feed_waits m (feed_of g.feeds i)) (unwaited e joins source) waits) waits

    of_feed : (e : Expr T) (joins : List ℕ) (source : IsFedBy m g.feeds k.stands.taken i s e joins) → IsValue m g.feeds (take i (values_then k.stands.taken rest)) (fed e joins) value.0 → (w : Stream T) (l : List (Stream T)) → slice_get (values_then k.stands.taken rest) i ≡ Some w → l ≡ take i (values_then k.stands.taken rest) →
        eval (environment m l joins (notes_of source.feed.part.tree)) e ≡ Some w
    of_feed e joins source is w l at whole =
        let count : length (take i (values_then k.stands.taken rest)) ≡ i = take_length i (values_then k.stands.taken rest) (hub_less (values_then k.stands.taken rest) i w at) in
        let own : source.feed ≡ is.0 = some_same source.feed is.0 (sym source.there ∙ (ap (λ n. feed_of g.feeds n) (sym count) ∙ is.1)) in
        ap (λ f. eval (environment m l joins (notes_of f.part.tree)) e) own ∙ (ap (λ x. eval (environment m x joins (notes_of is.0.part.tree)) e) whole ∙ (is.2 ∙ (sym value.1 ∙ at)))

    whole : (src : Source T) → SourceStands m g.feeds k.stands.taken i v s src → IsValue m g.feeds (take i (values_then k.stands.taken rest)) src value.0 → waits_at m g i s ≡ false → slice_get (values_then k.stands.taken rest) i ≡ Some v
    whole (emitted w) source is none = value.1 ∙ ap Some (is ∙ sym (emitted_whole s v w st.taken_in st.ended source.1 (or_first (is_some (waiting s)) (feed_waits m (feed_of g.feeds i)) none)))
    whole (fed e joins) source is none = fed_taken m g h k rest i v s p e joins all there took source (sym (out_is e joins source) ∙ or_second (is_some (waiting s)) (feed_waits m (feed_of g.feeds i)) none) (of_feed e joins source is) below

    by_test : (b : Bool) → waits_at m g i s ≡ b → IsSettled g (values_then k.stands.taken rest) i v
    by_test true waits = inl (held p.source st.source waits)
    by_test false none = inr (whole p.source st.source value.2 none)

all_settled : {T : Type 0} (m : Meaning T) (g : Rows T) (h : History T) (k : IsAtRest m g h) (rest : List (Stream T)) → HaveValues m g h k.stands.taken rest → (n i : ℕ) (v : Stream T) → i < n → slice_get k.stands.taken i ≡ Some v → IsSettled g (values_then k.stands.taken rest) i v
all_settled m g h k rest all zero i v l took = absurd (omega (arith, l))
all_settled m g h k rest all (suc n) i v l took =
    let p = there_too k.stands.taken h.hubs i v k.stands.each took in
    let s = there_too h.hubs g.hubs i p.0 (sym k.stands.many) p.1 in
    next_settled m g h k rest i v s.0 p.0 all took s.1 p.1 (λ j w less e. all_settled m g h k rest all n j w (omega (arith, l, less)) e)

-- ---- the values of hubs are determined

same_value : {T : Type 0} (m : Meaning T) (feeds : List (Feed T)) (before : List (Stream T)) (src : Source T) (v w : Stream T) → IsValue m feeds before src v → IsValue m feeds before src w → v ≡ w
same_value m feeds before (emitted x) v w a b = a ∙ sym b
same_value m feeds before (fed e joins) v w a b =
    let same : a.0 ≡ b.0 = some_same a.0 b.0 (sym a.1 ∙ b.1) in
    some_same v w (sym a.2 ∙ (ap (λ f. eval (environment m before joins (notes_of f.part.tree)) e) same ∙ b.2))

pub same_values : {T : Type 0} (m : Meaning T) (feeds : List (Feed T)) (before : List (Stream T)) (ps : List (HubPast T)) (vs ws : List (Stream T)) → AreValues m feeds before ps vs → AreValues m feeds before ps ws → vs ≡ ws
same_values m feeds before [] vs ws a b = a ∙ sym b
same_values m feeds before (p ∷ ps) [] ws a b = absurd a
same_values m feeds before (p ∷ ps) (v ∷ vs) [] a b = absurd b
same_values {T} m feeds before (p ∷ ps) (v ∷ vs) (w ∷ ws) a b =
    let one = same_value m feeds before p.source v w a.0 b.0 in
    let P : Stream T → Type 0 = λ x. AreValues m feeds (before ++ x ∷ []) ps ws in
    ap (λ x. x ∷ vs) one ∙ ap (λ l. w ∷ l) (same_values m feeds (before ++ v ∷ []) ps vs ws a.1 (subst P (sym one) b.1))

-- ---- all that was published is read

each_read : {T : Type 0} (m : Meaning T) (taken published : List (Stream T)) (subs : List (Subscription T)) (pasts : List (Past T)) → ((j : ℕ) (x : Subscription T) → slice_get subs j ≡ Some x → (x.part.root.state ≡ Live → IsTreeReadAt any_machine (counts_in taken) x.part.tree) → HasReadAll m published x.part) → AllStand m taken subs pasts → AllHaveRead m published subs
each_read m taken published [] [] k h = tt
each_read m taken published (s ∷ ss) (p ∷ pasts) k h = (k 0 s refl h.0.part.reads, each_read m taken published ss pasts (λ j x e r. k (suc j) x e r) h.1)
each_read m taken published [] (p ∷ pasts) k h = absurd h
each_read m taken published (s ∷ ss) [] k h = absurd h

-- over the values that there are
values_read : {T : Type 0} (m : Meaning T) (g : Rows T) (h : History T) (k : IsAtRest m g h) (rest : List (Stream T)) → HaveValues m g h k.stands.taken rest → AllHaveRead m (values_then k.stands.taken rest) g.subs
values_read {T} m g h k rest all = each_read m k.stands.taken (values_then k.stands.taken rest) g.subs h.pasts (λ j x there reads. part_got m k.stands.taken (values_then k.stands.taken rest) x.part reads (each j x there reads)) k.stands.all
  where
    each : (j : ℕ) (x : Subscription T) → slice_get g.subs j ≡ Some x → (x.part.root.state ≡ Live → IsTreeReadAt any_machine (counts_in k.stands.taken) x.part.tree) → OrWhole k.stands.taken (values_then k.stands.taken rest) (λ i. PartOffers m i x.part)
    each j x there reads i v took = elim (all_settled m g h k rest all (suc i) i v (omega arith) took) [
      | inl held ↦ inl (sub_offers m i (length v.items) (counts_in k.stands.taken) g.feeds g.subs j x held.held (count_there k.stands.taken i v took held.unended) there reads)
      | inr q ↦ inr q
    ]

pub rows_read : {T : Type 0} (m : Meaning T) (g : Rows T) (h : History T) → StandsFor m g h → WaitForOne m g → HaveTakenFewer m g → AreHubsQuiet m g (length g.hubs) → HaveCarriedFewer g.feeds → HaveFewNodes g.feeds → HaveAllRead m g h
rows_read {T} m g h s wait taken quiet carried nodes published values =
    let r = values_of any_machine any_laws m g h s in
    let P : List (Stream T) → Type 0 = λ l. AllHaveRead m l g.subs in
    let k : IsAtRest m g h = record { stands = s; wait = wait; taken = taken; quiet = quiet; carried = carried; nodes = nodes } in
    subst P (same_values m g.feeds [] h.hubs (values_then s.taken r.rest) published r.values values) (values_read m g h k r.rest (record { many = r.many; values = r.values }))

-- where no move is enabled at all, none of a hub is: each move of a feed has a name
pub hubs_quiet : {T : Type 0} (m : Meaning T) (g : Rows T) → length g.hubs ≤ MOST_HUBS → IsAllQuiet m g → AreHubsQuiet m g (length g.hubs)
hubs_quiet {T} m g few q h less = record { accept = q (Accept hub) (omega (arith, few, less)); feed = λ step l. by_feed step l (feed_of g.feeds h) refl }
  where
    hub : HubId
    hub = record { 0 = h }

    no_feed : (a : Bool) → feed_of g.feeds h ≡ None → a && is_some (feed_of g.feeds h) ≡ false
    no_feed true e = ap is_some e
    no_feed false e = refl

    by_feed : (step : NodeMove) → Parts.IsNumbered step → (o : Option (Feed T)) → feed_of g.feeds h ≡ o → feed_enabled m g h step ≡ false
    by_feed step l None e = ap (λ b. b && (if is_out step then sends m g h else works m g.feeds h step)) (no_feed (is_some (slice_get g.hubs h)) e)
    by_feed step l (Some f) e = sym (name_enabled any_machine tree_nodes m g hub f step e) ∙ q (name_in f hub step) (numbered_name (route f.part (inside_node step)) (FeedOf hub) step l)
