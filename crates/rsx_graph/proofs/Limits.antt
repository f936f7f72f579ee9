-- Calls and moves keep the limits of a graph.
use Rattle.rsx_kinds.specs.Any.{any_machine}
use Rattle.rsx_kinds.specs.Routes.{tree_nodes}
use Rattle.rsx_graph.specs.Kinds.{IsMoved, IsMovedInFeed, IsMoveMade, LeadTo, Rows, feed_move, Feed, IsFedHubMade}
use Rattle.std.proofs.Common.{◌≡◌, ℕ, zero, suc, ◌+◌, ◌<◌, ◌≤◌, Bool, true, false, ◌&&◌, nat_eq, nat_le, nat_lt, List, [], ◌∷◌, ◌++◌, drop, length, length-append, slice_get, if◌then◌else◌, Option, Some, None, refl, ap, sym, ◌∙◌, subst, arith}
use Rattle.std.proofs.Math.ListN.{set}
use Rattle.std.proofs.lemmas.Bool.Decides.{nat_tests}
use Rattle.rsx_demand.specs.declared.TheConstants.{UNBOUNDED}
use Rattle.rsx_graph_calls.specs.Edits.{fault_of}
use Rattle.rsx_graph_moves.specs.FeedWaits.{IsFeedBounded}
use Rattle.rsx_graph_moves.specs.Moves.{IsMovedInTree}
use Rattle.rsx_graph_moves.specs.Pumped.{Made}
use Rattle.rsx_graph_state.specs.Feeds.{IsFeedHanded}
use Rattle.rsx_graph_state.specs.Hubs.{IsEmittedAt, IsEndedAt}
use Rattle.rsx_graph_state.specs.Moves.{IsAcceptedAt, IsFedAt, IsMadeInFeed, IsMovedBy, is_out}
use Rattle.rsx_graph_state.specs.Prelude.{AllFeedsHanded, HaveJoined, MOST_ACCEPTED, feed_of, fresh_hub}
use Rattle.rsx_hub.specs.Hub.{HubState, accepted, accepted_items, accepts_items, are_numbers, emitted, ended_with, items_of, taken_in, takes_signal, waiting}
use Rattle.rsx_hub.specs.Waiting.{first_waiting, is_open}
use Rattle.rsx_model.proofs.Unfold.{sound}
use Rattle.rsx_model.specs.Check.{refusal}
use Rattle.rsx_model.specs.Shape.{nodes}
use Rattle.rsx_pipe.proofs.Signals.{some_same}
use Rattle.rsx_rooted.proofs.Rows.{length_fresh}
use Rattle.rsx_rooted.specs.Leaves.{HaveJoinedFrom}
use Rattle.rsx_sources.specs.Prelude.{is_nil, Ending, Open, Done, Failed, HubKind, Meaning, Move, Ask, Send, Take, Pick, Row, Accept, SubId, Tree, Sub, Feed as FeedOf, Signal, Next, Complete, Error}
use Rattle.rsx_subscriber.proofs.Values.{effect_count}
use Rattle.rsx_subscriber.specs.Prelude.{Expr, IsWithin, MOST_NODES, Number, all_edges, NodeMove, Send as NodeSend}
use Rattle.rsx_tree.proofs.Runs.{leads_keep}
use Rattle.rsx_graph.specs.Limits.{HaveAcceptedFew, HaveFewNodes, KeepsLimits}

-- ---- the hubs

pub few_got : {T : Type 0} (hubs : List (HubState T)) (i : ℕ) (s : HubState T) → HaveAcceptedFew hubs → slice_get hubs i ≡ Some s → accepted_items s ≤ MOST_ACCEPTED
few_got [] i s k e = cc
few_got {T} (x ∷ xs) zero s k e = let P : HubState T → Type 0 = λ y. accepted_items y ≤ MOST_ACCEPTED in subst P (some_same x s e) k.0
few_got (x ∷ xs) (suc i) s k e = few_got xs i s k.1 e

few_set : {T : Type 0} (hubs : List (HubState T)) (i : ℕ) (s : HubState T) → HaveAcceptedFew hubs → accepted_items s ≤ MOST_ACCEPTED → HaveAcceptedFew (set hubs i s)
few_set [] i s k l = tt
few_set (x ∷ xs) zero s k l = (l, k.1)
few_set (x ∷ xs) (suc i) s k l = (k.0, few_set xs i s k.1 l)

few_behind : {T : Type 0} (hubs : List (HubState T)) (s : HubState T) → HaveAcceptedFew hubs → accepted_items s ≤ MOST_ACCEPTED → HaveAcceptedFew (hubs ++ s ∷ [])
few_behind [] s k l = (l, tt)
few_behind (x ∷ xs) s k l = (k.0, few_behind xs s k.1 l)

fresh_few : (T : Type 0) (k : HubKind) (c : ℕ) → accepted_items (fresh_hub {T = T} k c) ≤ MOST_ACCEPTED
fresh_few T k c = none
  where
    none : 0 + 0 ≤ MOST_ACCEPTED
    none = omega arith

few_joined : {T : Type 0} (n : ℕ) (e : Expr T) (hubs mids : List (HubState T)) → HaveJoinedFrom n e hubs mids → HaveAcceptedFew hubs → HaveAcceptedFew mids
few_joined n e [] [] j k = tt
few_joined n e [] (x ∷ xs) j k = absurd j
few_joined n e (s ∷ ss) [] j k = absurd j
few_joined {T} n e (s ∷ ss) (x ∷ xs) j k = let P : HubState T → Type 0 = λ y. accepted_items y ≤ MOST_ACCEPTED in (subst P (sym j.0) k.0, few_joined (n + 1) e ss xs j.1 k.1)

-- the signal that waits in front of an inbox is counted there
waits_less : {T : Type 0} (is : List T) (e : Ending) (gone : Bool) (s : Signal T) → first_waiting is e gone ≡ Some s → items_of s + length (drop 1 is) ≤ length is
waits_less [] e true s w = cc
waits_less [] Open false s w = cc
waits_less [] Done false s w = none_left (items_of s) (ap items_of (sym (some_same Complete s w)))
  where
    none_left : (n : ℕ) → n ≡ 0 → n + 0 ≤ 0
    none_left n e = omega (arith, e)
waits_less [] (Failed c) false s w = none_left (items_of s) (ap items_of (sym (some_same (Error c) s w)))
  where
    none_left : (n : ℕ) → n ≡ 0 → n + 0 ≤ 0
    none_left n e = omega (arith, e)
waits_less (x ∷ xs) e gone s w = one_left (items_of s) (length xs) (ap items_of (sym (some_same (Next x) s w)))
  where
    one_left : (n k : ℕ) → n ≡ 1 → n + k ≤ suc k
    one_left n k e = omega (arith, e)

accepted_few : {T : Type 0} (s : HubState T) (signal : Signal T) → waiting s ≡ Some signal → accepted_items s ≤ MOST_ACCEPTED → accepted_items (accepted s (Some signal)) ≤ MOST_ACCEPTED
accepted_few {T} s signal waits few = by_signal signal (waits_less s.inbox s.ending s.has_ended signal waits)
  where
    item : (a b c : ℕ) → 1 + b ≤ c → a + c ≤ MOST_ACCEPTED → (a + 1) + b ≤ MOST_ACCEPTED
    item a b c l f = omega (arith, l, f)

    ending : (a b c : ℕ) → 0 + b ≤ c → a + c ≤ MOST_ACCEPTED → a + b ≤ MOST_ACCEPTED
    ending a b c l f = omega (arith, l, f)

    by_signal : (t : Signal T) → items_of t + length (drop 1 s.inbox) ≤ length s.inbox → accepted_items (accepted s (Some t)) ≤ MOST_ACCEPTED
    by_signal (Next x) l = item s.count (length (drop 1 s.inbox)) (length s.inbox) l few
    by_signal Complete l = ending s.count (length (drop 1 s.inbox)) (length s.inbox) l few
    by_signal (Error c) l = ending s.count (length (drop 1 s.inbox)) (length s.inbox) l few

second_true : (a b : Bool) → a && b ≡ true → b ≡ true
second_true true b e = e
second_true false b e = cc

first_true : (a b : Bool) → a && b ≡ true → a ≡ true
first_true true b e = refl
first_true false b e = cc

nothing_in : {A : Type 0} (xs : List A) → is_nil xs ≡ true → length xs ≡ 0
nothing_in [] e = refl
nothing_in (x ∷ xs) e = cc

fed_few : {T : Type 0} (s : HubState T) (signal : Signal T) → takes_signal s signal ≡ true → accepted_items (taken_in s signal) ≤ MOST_ACCEPTED
fed_few {T} s signal takes =
    let more = second_true (is_open s.ending) _ takes in
    by_signal signal (nothing_in s.inbox (first_true (is_nil s.inbox) _ more)) (second_true (is_nil s.inbox) _ more)
  where
    item : (a b : ℕ) → b ≡ 0 → nat_le (a + 1) MOST_ACCEPTED ≡ true → (a + 1) + b ≤ MOST_ACCEPTED
    item a b e l = let few : a + 1 ≤ MOST_ACCEPTED = grind (arith, nat_tests, l) in omega (arith, few, e)

    ending : (a b : ℕ) → b ≡ 0 → nat_le (a + 0) MOST_ACCEPTED ≡ true → a + b ≤ MOST_ACCEPTED
    ending a b e l = let few : a + 0 ≤ MOST_ACCEPTED = grind (arith, nat_tests, l) in omega (arith, few, e)

    by_signal : (t : Signal T) → length s.inbox ≡ 0 → nat_le (s.count + items_of t) MOST_ACCEPTED ≡ true → accepted_items (taken_in s t) ≤ MOST_ACCEPTED
    by_signal (Next x) none l = item s.count (length s.inbox) none l
    by_signal Complete none l = ending s.count (length s.inbox) none l
    by_signal (Error c) none l = ending s.count (length s.inbox) none l

emitted_less : {T : Type 0} (s : HubState T) (x : T) → accepts_items s ≡ true → accepted_items (emitted s x) ≤ MOST_ACCEPTED
emitted_less s x accepts = one_more s.count (length s.inbox) (length (s.inbox ++ x ∷ [])) (length-append s.inbox (x ∷ [])) (first_true (nat_lt (accepted_items s) MOST_ACCEPTED) _ (second_true (is_open s.ending) _ accepts))
  where
    one_more : (a b c : ℕ) → c ≡ b + 1 → nat_lt (a + b) MOST_ACCEPTED ≡ true → a + c ≤ MOST_ACCEPTED
    one_more a b c e l = let few : a + b < MOST_ACCEPTED = grind (arith, nat_tests, l) in omega (arith, few, e)

-- ---- the feeds

nodes_got : {T : Type 0} (fs : List (Feed T)) (i : ℕ) (f : Feed T) → HaveFewNodes fs → slice_get fs i ≡ Some f → length (all_edges f.part) ≤ MOST_NODES
nodes_got [] i f k e = cc
nodes_got {T} (x ∷ xs) zero f k e = let P : Feed T → Type 0 = λ y. length (all_edges y.part) ≤ MOST_NODES in subst P (some_same x f e) k.0
nodes_got (x ∷ xs) (suc i) f k e = nodes_got xs i f k.1 e

-- a feed of which no edge has carried 2^63-1 items
pub feed_bounded : {T : Type 0} (fs : List (Feed T)) (i : ℕ) (f : Feed T) → HaveFewNodes fs → feed_of fs i ≡ Some f → f.part.root.demand.sent < UNBOUNDED → IsWithin f.part.tree → IsFeedBounded f
feed_bounded [] i f k e l w = cc
feed_bounded {T} (x ∷ fs) i f k e l w = by_test (λ q. feed_bounded fs i f k.1 q l w) (nat_eq x.hub i) e
  where
    by_test : (feed_of fs i ≡ Some f → IsFeedBounded f) → (b : Bool) → (if b then Some x else feed_of fs i) ≡ Some f → IsFeedBounded f
    by_test rest true e = let P : Feed T → Type 0 = λ y. length (all_edges y.part) ≤ MOST_NODES in record { fewer = l; within = w; few = subst P (some_same x f e) k.0 }
    by_test rest false e = rest e

nodes_set : {T : Type 0} (fs : List (Feed T)) (i : ℕ) (f : Feed T) → HaveFewNodes fs → length (all_edges f.part) ≤ MOST_NODES → HaveFewNodes (set fs i f)
nodes_set [] i f k l = tt
nodes_set (x ∷ xs) zero f k l = (l, k.1)
nodes_set (x ∷ xs) (suc i) f k l = (k.0, nodes_set xs i f k.1 l)

nodes_behind : {T : Type 0} (fs : List (Feed T)) (f : Feed T) → HaveFewNodes fs → length (all_edges f.part) ≤ MOST_NODES → HaveFewNodes (fs ++ f ∷ [])
nodes_behind [] f k l = (l, tt)
nodes_behind (x ∷ xs) f k l = (k.0, nodes_behind xs f k.1 l)

as_many : (a b : ℕ) → b ≡ a → a ≤ MOST_NODES → b ≤ MOST_NODES
as_many a b e l = omega (arith, e, l)

handed_count : {T : Type 0} (h : ℕ) (s : Signal T) (f g : Feed T) → IsFeedHanded any_machine h s f g → length (all_edges g.part) ≡ length (all_edges f.part)
handed_count {T} h s f g k = by_test (nat_lt h f.hub) refl
  where
    by_test : (b : Bool) → nat_lt h f.hub ≡ b → length (all_edges g.part) ≡ length (all_edges f.part)
    by_test true is = ap length (k.part is).edges
    by_test false is = ap (λ x. length (all_edges x.part)) (k.same is)

nodes_handed : {T : Type 0} (h : ℕ) (s : Signal T) (fs gs : List (Feed T)) → AllFeedsHanded any_machine h s fs gs → HaveFewNodes fs → HaveFewNodes gs
nodes_handed h s [] [] all k = tt
nodes_handed h s [] (g ∷ gs) all k = absurd all
nodes_handed h s (f ∷ fs) [] all k = absurd all
nodes_handed h s (f ∷ fs) (g ∷ gs) all k = (as_many (length (all_edges f.part)) (length (all_edges g.part)) (handed_count h s f g all.0) k.0, nodes_handed h s fs gs all.1 k.1)

-- ---- a move

-- the rows of a graph keep its limits
abbrev Keeps : {T : Type 0} → Rows T → Type 0
Keeps g = KeepsLimits g.hubs g.feeds

accept_keeps : {T : Type 0} (n : ℕ) (old new : Rows T) → IsAcceptedAt any_machine n old new → Keeps old → Keeps new
accept_keeps {T} n old new k l =
    let P : List (HubState T) → Type 0 = λ hubs. HaveAcceptedFew hubs in
    let Q : HubState T → Type 0 = λ s. accepted_items s ≤ MOST_ACCEPTED in
    let e = k.effect in
    record {
      accepted = subst P (sym k.others) (few_set old.hubs n k.after l.accepted (subst Q (sym e.taken) (accepted_few k.hub e.signal e.waited (few_got old.hubs n k.hub l.accepted k.there))));
      nodes = nodes_handed n e.signal old.feeds new.feeds e.fed l.nodes;
    }

out_keeps : {T : Type 0} (m : Meaning T) (n : ℕ) (old new : Rows T) → IsFedAt any_machine m n old new → Keeps old → Keeps new
out_keeps {T} m n old new k l =
    let P : List (HubState T) → Type 0 = λ hubs. HaveAcceptedFew hubs in
    let Q : HubState T → Type 0 = λ s. accepted_items s ≤ MOST_ACCEPTED in
    let e = k.effect in
    let mid : Feed T = record { part = e.part; hub = e.feed.hub } in
    let count = effect_count any_machine m (NodeSend 0) e.feed.part e.part (e.signal ∷ []) e.sent.made.effect in
    record {
      accepted = subst P (sym k.others) (few_set old.hubs n k.after l.accepted (subst Q (sym e.taken) (fed_few k.hub e.signal e.takes)));
      nodes = nodes_handed e.feed.hub e.signal (set old.feeds k.at mid) new.feeds e.fed (nodes_set old.feeds k.at mid l.nodes (as_many (length (all_edges e.feed.part)) (length (all_edges e.part)) count (nodes_got old.feeds k.at e.feed l.nodes e.from)));
    }

inside_keeps : {T : Type 0} (m : Meaning T) (step : NodeMove) (n : ℕ) (old new : Rows T) → IsMadeInFeed any_machine m step n old new → Keeps old → Keeps new
inside_keeps {T} m step n old new k l =
    let P : List (HubState T) → Type 0 = λ hubs. HaveAcceptedFew hubs in
    let Q : List (Feed T) → Type 0 = λ fs. HaveFewNodes fs in
    let w = k.made in
    let mid : Feed T = record { part = w.part; hub = w.feed.hub } in
    let count = effect_count any_machine m step w.feed.part w.part [] w.effect.effect in
    record {
      accepted = subst P (sym k.hubs) l.accepted;
      nodes = subst Q (sym w.others) (nodes_set old.feeds w.at mid l.nodes (as_many (length (all_edges w.feed.part)) (length (all_edges w.part)) count (nodes_got old.feeds w.at w.feed l.nodes w.there)));
    }

in_feed_keeps : {T : Type 0} (m : Meaning T) (o : Option NodeMove) (n : ℕ) (old new : Rows T) → IsMovedInFeed m o n old new → Keeps old → Keeps new
in_feed_keeps m None n old new k l = absurd k
in_feed_keeps {T} m (Some step) n old new k l = by_out (is_out step) k
  where
    by_out : (b : Bool) → IsMovedBy any_machine m step b n old new → Keeps new
    by_out true k = out_keeps m n old new k l
    by_out false k = inside_keeps m step n old new k l

tree_keeps : {T : Type 0} (m : Meaning T) (mv : Move) (t : Tree) (old new : Rows T) (o : Option (SubId × Signal T)) → IsMovedInTree any_machine tree_nodes m mv t old new o → Keeps old → Keeps new
tree_keeps {T} m mv (Sub i) old new o k l =
    let P : List (HubState T) → Type 0 = λ hubs. HaveAcceptedFew hubs in
    let Q : List (Feed T) → Type 0 = λ fs. HaveFewNodes fs in
    record { accepted = subst P (sym k.1) l.accepted; nodes = subst Q (sym k.2) l.nodes }
tree_keeps m mv (FeedOf h) old new o k l = in_feed_keeps m (feed_move old.feeds h.0 mv) h.0 old new k l

pub move_keeps : {T : Type 0} (m : Meaning T) (mv : Move) (old new : Rows T) (o : Option (SubId × Signal T)) → IsMoved m mv old new o → KeepsLimits old.hubs old.feeds → KeepsLimits new.hubs new.feeds
move_keeps m (Ask t n) old new o k l = tree_keeps m (Ask t n) t old new o k l
move_keeps m (Send t n) old new o k l = tree_keeps m (Send t n) t old new o k l
move_keeps m (Take t n) old new o k l = tree_keeps m (Take t n) t old new o k l
move_keeps m (Pick t n i) old new o k l = tree_keeps m (Pick t n i) t old new o k l
move_keeps m (Row t n) old new o k l = tree_keeps m (Row t n) t old new o k l
move_keeps m (Accept h) old new o k l = accept_keeps h.0 old new k l

-- ---- many moves

pub moves_keep : {T : Type 0} (m : Meaning T) (old : Rows T) (moves : List (Made T)) (new : Rows T) → LeadTo m old moves new → KeepsLimits old.hubs old.feeds → KeepsLimits new.hubs new.feeds
moves_keep m old moves new k l = leads_keep (IsMoveMade m) (λ g. KeepsLimits g.hubs g.feeds) (λ a b d made kept. move_keeps m d.move a b d.delivered made.effect kept) old new moves k l

-- ---- the calls

pub emit_keeps : {T : Type 0} (i : ℕ) (x : T) (hubs news : List (HubState T)) (feeds : List (Feed T)) → IsEmittedAt i x hubs news → KeepsLimits hubs feeds → KeepsLimits news feeds
emit_keeps {T} i x hubs news feeds k l =
    let P : List (HubState T) → Type 0 = λ hubs. HaveAcceptedFew hubs in
    record { accepted = subst P (sym k.others) (few_set hubs i (emitted k.hub x) l.accepted (emitted_less k.hub x k.accepts)); nodes = l.nodes }

pub end_keeps : {T : Type 0} (i : ℕ) (d : Ending) (hubs news : List (HubState T)) (feeds : List (Feed T)) → IsEndedAt i d hubs news → KeepsLimits hubs feeds → KeepsLimits news feeds
end_keeps {T} i d hubs news feeds k l =
    let P : List (HubState T) → Type 0 = λ hubs. HaveAcceptedFew hubs in
    record { accepted = subst P (sym k.others) (few_set hubs i (ended_with k.hub d) l.accepted (few_got hubs i k.hub l.accepted k.there)); nodes = l.nodes }

pub hub_keeps : {T : Type 0} (k : HubKind) (c : ℕ) (hubs news : List (HubState T)) (feeds : List (Feed T)) → news ≡ hubs ++ fresh_hub k c ∷ [] → KeepsLimits hubs feeds → KeepsLimits news feeds
hub_keeps {T} k c hubs news feeds is l =
    let P : List (HubState T) → Type 0 = λ hubs. HaveAcceptedFew hubs in
    record { accepted = subst P (sym is) (few_behind hubs (fresh_hub k c) l.accepted (fresh_few T k c)); nodes = l.nodes }

pub join_keeps : {T : Type 0} (e : Expr T) (hubs news : List (HubState T)) (feeds : List (Feed T)) → HaveJoined e hubs news → KeepsLimits hubs feeds → KeepsLimits news feeds
join_keeps e hubs news feeds j l = record { accepted = few_joined 0 e hubs news j l.accepted; nodes = l.nodes }

no_fault : {T : Type 0} (k : HubKind) (c n : ℕ) (e : Expr T) → fault_of k c n e ≡ None → refusal n e ≡ None
no_fault k c n e f = by_test (are_numbers k c) f
  where
    by_test : (b : Bool) → (if b then refusal n e else Some Number) ≡ None → refusal n e ≡ None
    by_test true f = f
    by_test false f = cc

pub fed_hub_keeps : {T : Type 0} (k : HubKind) (c : ℕ) (e : Expr T) (hubs news : List (HubState T)) (feeds fed_by : List (Feed T)) → fault_of k c (length hubs) e ≡ None → IsFedHubMade k c e hubs news feeds fed_by → KeepsLimits hubs feeds → KeepsLimits news fed_by
fed_hub_keeps {T} k c e hubs news feeds fed_by fine made l =
    let P : List (HubState T) → Type 0 = λ hubs. HaveAcceptedFew hubs in
    let Q : List (Feed T) → Type 0 = λ fs. HaveFewNodes fs in
    let small = (sound (length hubs) e (no_fault k c (length hubs) e fine)).small in
    let count = ap length made.edges ∙ length_fresh e in
    record {
      accepted = subst P (sym made.behind) (few_behind made.joined (fresh_hub k c) (few_joined 0 e hubs made.joined made.members l.accepted) (fresh_few T k c));
      nodes = subst Q (sym made.added) (nodes_behind feeds made.feed l.nodes (as_many (nodes e) (length (all_edges made.feed.part)) count small));
    }
