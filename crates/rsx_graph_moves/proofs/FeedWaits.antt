-- What is so of a feed that waits.
use Rattle.std.proofs.Common.{◌≡◌, ℕ, zero, suc, ◌+◌, ◌<◌, ◌≤◌, Bool, true, false, ◌&&◌, nat_le, if◌then◌else◌, List, [], ◌∷◌, ◌++◌, length, map, take, Some, None, slice_get, refl, ap, sym, ◌∙◌, subst, arith}
use Rattle.std.proofs.lemmas.Bool.{both_ways}
use Rattle.std.proofs.lemmas.Bool.Decides.{nat_tests}
use Rattle.std.proofs.lemmas.List.{length-take}
use Rattle.rsx_types.proofs.Options.{none_from_no_some}
use Rattle.rsx_types.specs.declared.names.HubId.{HubId}
use Rattle.rsx_types.specs.declared.names.NodeId.{NodeId}
use Rattle.rsx_sources.specs.Prelude.{Ending, Open, Done, Failed, Meaning, Move, Next, Complete, Error, Signal, Stream, Tree, ending_signals, front_of, is_nil}
use Rattle.rsx_sources.specs.declared.machine.Machine.{Ghosts as Machine}
use Rattle.rsx_rooted.specs.declared.nodes.Nodes.{Ghosts as Nodes}
use Rattle.rsx_rooted.specs.declared.rooted.Rooted.{Rooted}
use Rattle.rsx_tree.specs.Edges.{edge_view, is_live}
use Rattle.rsx_tree.specs.Handed.{is_room_for}
use Rattle.rsx_tree.proofs.Idles.{can_pass_live}
use Rattle.rsx_tree.specs.declared.edge.EdgeState.TheVariants.{Ended as EdgeEnded}
use Rattle.rsx_pipe.specs.Output.{IsUnended, counts_in, items_in}
use Rattle.rsx_pipe.specs.Tree.{offers}
use Rattle.rsx_pipe.proofs.Parts.{few_below, idle_tree, still_root}
use Rattle.rsx_pipe.proofs.Signals.{some_same}
use Rattle.rsx_subscriber.specs.Prelude.{Closed, EdgeState, Expr, IsTaken, Live, carried, next_out}
use Rattle.rsx_graph_state.specs.Prelude.{FeedStands, History, HubPast, HubState, HubStands, MOST_ACCEPTED, Rows, Source, SourceStands, StandsFor, ending_taken, fed, emitted, feed_of, is_open, items_of, takes_next, takes_signal}
use Rattle.rsx_graph_state.specs.declared.feed.Feed.{Feed}
use Rattle.rsx_graph_state.proofs.Named.{feed_named}
use Rattle.rsx_graph_moves.specs.FeedWaits.{IsFeedWait, IsFeedBounded, IsSilent, is_feed_for_pump}
use Rattle.rsx_graph_moves.specs.Hubs.{IsFeedSilent, IsHubWait, IsWhy}
use Rattle.rsx_graph_moves.specs.Idle.{LacksAll}
use Rattle.rsx_graph_moves.specs.Moves.{is_enabled}
use Rattle.rsx_graph_moves.specs.Pumped.{IsAllQuiet}
use Rattle.rsx_graph_moves.specs.Waiting.{Waits}
use Rattle.rsx_graph_moves.proofs.Lacking.{counted_all, tree_within}
use Rattle.rsx_waits.specs.declared.wait.FeedWait.{FeedWait}
use Rattle.rsx_waits.specs.declared.wait.FeedWait.TheVariants.{Ended, Enabled, HeldBy, Hub, Unknown}
use Rattle.rsx_waits.specs.declared.wait.HubWait.{HubWait}
use Rattle.rsx_waits.specs.declared.wait.HubWait.TheVariants as hub_wait

-- ---- a feed that lacks a signal

unended_open : {T : Type 0} (xs : List T) (e : Ending) → IsUnended (map Next xs ++ ending_signals e) → e ≡ Open
unended_open [] Open k = refl
unended_open [] Done k = absurd k
unended_open [] (Failed c) k = absurd k
unended_open (x ∷ xs) e k = unended_open xs e k

signal_items : {T : Type 0} (xs : List T) (e : Ending) → items_in (map Next xs ++ ending_signals e) ≡ xs
signal_items [] Open = refl
signal_items [] Done = refl
signal_items [] (Failed c) = refl
signal_items (x ∷ xs) e = ap (λ l. x ∷ l) (signal_items xs e)

-- a hub that took in no ending is open, where that follows from it
still_open : (e : Ending) (b : Bool) (w : Ending) → w ≡ ending_taken b e → w ≡ Open → (b ≡ true → is_open e ≡ false) → (b ≡ false → e ≡ Open) → e ≡ Open
still_open e true w t o k u = let no : is_open e ≡ true = ap is_open (sym t ∙ o) in let yes = k refl in cc
still_open e false w t o k u = u refl

-- an open hub with nothing in its inbox takes any signal in from its feed
takes_open : {T : Type 0} (e : Ending) (is : List T) (n : ℕ) (s : Signal T) → e ≡ Open → is ≡ [] → n < MOST_ACCEPTED → is_open e && (is_nil is && nat_le (n + items_of s) MOST_ACCEPTED) ≡ true
takes_open Open [] n (Next x) o none l = grind (arith, nat_tests, l)
takes_open Open [] n Complete o none l = grind (arith, nat_tests, l)
takes_open Open [] n (Error c) o none l = grind (arith, nat_tests, l)
takes_open Open (x ∷ xs) n s o none l = cc
takes_open Done is n s o none l = cc
takes_open (Failed c) is n s o none l = cc

any_room : {T : Type 0} (s : Signal T) → is_room_for s true ≡ true
any_room (Next x) = refl
any_room Complete = refl
any_room (Error c) = refl

as_asked : (n : ℕ) → n ≡ MOST_ACCEPTED → (sent : ℕ) → sent < MOST_ACCEPTED → sent < n
as_asked n is sent l = subst (λ k. sent < k) (sym is) l

-- a feed that stands for an expression, into whose hub no ending went
lacks_stands : {M T : Type 0} (mc : Machine M T) (m : Meaning T) (taken : List (Stream T)) (v : Stream T) (f : Feed M) (hub : HubState T) (e : Expr T) (joins : List ℕ) →
    FeedStands mc m taken f e joins → slice_get taken f.hub ≡ Some v → IsTaken hub v → hub.inbox ≡ [] → (hub.has_ended ≡ false → hub.ending ≡ Open) → (f.part.root.state ≡ EdgeEnded → ⊥) → IsSilent mc m f hub → IsFeedBounded f → LacksAll mc m f.part.root f.part.tree
lacks_stands {M} {T} mc m taken v f hub e joins h took is_taken empty unended_hub unended silent within = record {
  live = live;
  more = less;
  nothing = none_from_no_some (offers mc m f.part.tree) offers_none;
  idle = idle_tree mc m f.part false silent.quiet within.few;
  still = still_root mc m f.part false silent.quiet;
  balanced = h.part.balance live;
  within = within.within;
  few = let k = few_below f.part within.few in omega (arith, k);
}
  where
    live : f.part.root.state ≡ Live
    live = by_state f.part.root.state refl
      where
        by_state : (s : EdgeState) → f.part.root.state ≡ s → f.part.root.state ≡ Live
        by_state Live is = is
        by_state Closed is = absurd (h.unclosed is)
        by_state EdgeEnded is = absurd (unended is)

    less : f.part.root.demand.sent < f.part.root.demand.asked
    less = as_asked f.part.root.demand.asked h.asked f.part.root.demand.sent within.fewer

    same : h.value ≡ v
    same = some_same h.value v (sym h.taken ∙ took)

    value_open : v.ending ≡ Open
    value_open = ap (λ x. x.ending) (sym same) ∙ unended_open h.value.items h.value.ending (h.part.unended live)

    hub_open : hub.ending ≡ Open
    hub_open = still_open hub.ending hub.has_ended v.ending is_taken.ending value_open is_taken.closed unended_hub

    count : hub.count ≡ f.part.root.demand.sent
    count = is_taken.taken.counted ∙ (ap (λ x. length x.items) (sym same) ∙ (sym (ap length (signal_items h.value.items h.value.ending)) ∙ h.part.counted))

    takes : (s : Signal T) → takes_signal hub s ≡ true
    takes s = takes_open hub.ending hub.inbox hub.count s hub_open empty (subst (λ n. n < MOST_ACCEPTED) (sym count) within.fewer)

    offers_none : (s : Signal T) → offers mc m f.part.tree ≡ Some s → ⊥
    offers_none s offered =
        let can = can_pass_live (edge_view f.part.root) (front_of s) (ap is_live live) less in
        let goes : next_out mc m f.part ≡ Some s = ap (carried (edge_view f.part.root)) offered ∙ ap (λ b. if b then Some s else None) can in
        let all : takes_next (next_out mc m f.part) hub true ≡ true = ap (λ o. takes_next o hub true) goes ∙ (ap (λ b. b && is_room_for s true) (takes s) ∙ any_room s) in
        both_ways (takes_next (next_out mc m f.part) hub true) silent.nothing all

-- the feed of a hub that stands for what has happened there stands for an expression
record Standing {M T : Type 0} (mc : Machine M T) (m : Meaning T) (taken : List (Stream T)) (f : Feed M) (hub : HubState T) : Type 0 where
  expression : Expr T
  joins : List ℕ
  stands : FeedStands mc m taken f expression joins
  empty : hub.inbox ≡ []
  unended : hub.has_ended ≡ false → hub.ending ≡ Open

standing : {M T : Type 0} (mc : Machine M T) (m : Meaning T) (feeds : List (Feed M)) (taken : List (Stream T)) (i : ℕ) (v : Stream T) (hub : HubState T) (src : Source T) (f : Feed M) → SourceStands mc m feeds taken i v hub src → feed_of feeds i ≡ Some f → Standing mc m taken f hub
standing mc m feeds taken i v hub (emitted w) f k there = let no = sym k.0 ∙ there in cc
standing {M} mc m feeds taken i v hub (fed e joins) f k there =
    let P : Feed M → Type 0 = λ x. FeedStands mc m taken x e joins in
    record { expression = e; joins = joins; stands = subst P (some_same k.feed f (sym k.there ∙ there)) k.stands; empty = k.empty; unended = k.unended }

took_there : {M T : Type 0} (feeds : List (Feed M)) (taken : List (Stream T)) (i : ℕ) (v : Stream T) (f : Feed M) → feed_of feeds i ≡ Some f → slice_get taken i ≡ Some v → slice_get taken f.hub ≡ Some v
took_there feeds taken i v f there took = ap (λ k. slice_get taken k) (feed_named feeds i f there) ∙ took

lacks_fed : {M T : Type 0} (mc : Machine M T) (m : Meaning T) (feeds : List (Feed M)) (taken : List (Stream T)) (i : ℕ) (v : Stream T) (hub : HubState T) (past : HubPast T) (f : Feed M) →
    HubStands mc m feeds taken i v hub past → slice_get taken i ≡ Some v → feed_of feeds i ≡ Some f → (f.part.root.state ≡ EdgeEnded → ⊥) → IsSilent mc m f hub → IsFeedBounded f → LacksAll mc m f.part.root f.part.tree
lacks_fed mc m feeds taken i v hub past f h took there unended silent within =
    let k = standing mc m feeds taken i v hub past.source f h.source there in
    lacks_stands mc m taken v f hub k.expression k.joins k.stands (took_there feeds taken i v f there took) h.taken_in k.empty k.unended unended silent within

live_still : {M : Type 0} (f : Feed M) → f.part.root.state ≡ Live → f.part.root.state ≡ EdgeEnded → ⊥
live_still f live is = let no = sym live ∙ is in cc

pub hub_there : {A : Type 0} (xs : List A) (n : ℕ) → n < length xs → (x : A) × (slice_get xs n ≡ Some x)
hub_there [] n l = absurd (omega (arith, l))
hub_there (x ∷ xs) zero l = (x, refl)
hub_there (x ∷ xs) (suc n) l = hub_there xs n (omega (arith, l))

-- ---- what it waits for

silent_as : {M T : Type 0} (mc : Machine M T) (m : Meaning T) (g : Rows M T) (h : ℕ) (hub : HubState T) (f : Feed M) → feed_of g.feeds h ≡ Some f → IsFeedSilent mc m g h hub → IsSilent mc m f hub
silent_as {M} {T} mc m g h hub f there k =
    let P : Feed M → Type 0 = λ x. IsSilent mc m x hub in
    subst P (some_same k.feed f (sym k.fed ∙ there)) (record { quiet = k.quiet; nothing = k.nothing })

-- the hub that is there is one
pub silent_at : {M T : Type 0} (mc : Machine M T) (m : Meaning T) (g : Rows M T) (h : ℕ) (a b : HubState T) → slice_get g.hubs h ≡ Some a → slice_get g.hubs h ≡ Some b → IsFeedSilent mc m g h a → IsFeedSilent mc m g h b
silent_at {M} {T} mc m g h a b first second k =
    let P : HubState T → Type 0 = λ x. IsFeedSilent mc m g h x in
    subst P (some_same a b (sym first ∙ second)) k

pub feed_moves : {M T : Type 0} (mc : Machine M T) (kd : Nodes M T) (m : Meaning T) (g : Rows M T) (h : HubId) (hub : HubState T) (f : Feed M) (mv : Move) → slice_get g.hubs h.0 ≡ Some hub → feed_of g.feeds h.0 ≡ Some f → IsWhy mc kd m g h hub (hub_wait.Enabled mv) → IsFeedWait mc kd m g h (Enabled mv)
feed_moves mc kd m g h hub f mv there placed k = record { hub = hub; there = there; feed = f; fed = placed; wait = k }

pub feed_held : {M T : Type 0} (mc : Machine M T) (kd : Nodes M T) (m : Meaning T) (g : Rows M T) (h : HubId) (hub : HubState T) (f : Feed M) (tree : Tree) → slice_get g.hubs h.0 ≡ Some hub → feed_of g.feeds h.0 ≡ Some f → IsWhy mc kd m g h hub (hub_wait.HeldBy tree) → IsFeedWait mc kd m g h (HeldBy tree)
feed_held mc kd m g h hub f tree there placed k = record { hub = hub; there = there; feed = f; fed = placed; wait = k }

-- a hub with a feed has no inbox that could be empty
pub feed_none : {M T : Type 0} (mc : Machine M T) (kd : Nodes M T) (m : Meaning T) (g : Rows M T) (h : HubId) (hub : HubState T) (f : Feed M) → feed_of g.feeds h.0 ≡ Some f → IsWhy mc kd m g h hub hub_wait.Nothing → ⊥
feed_none mc kd m g h hub f placed k = let no = sym k.0 ∙ placed in cc

pub feed_ended : {M T : Type 0} (mc : Machine M T) (kd : Nodes M T) (m : Meaning T) (g : Rows M T) (h : HubId) (hub : HubState T) (f : Feed M) (r : Rooted M) → slice_get g.hubs h.0 ≡ Some hub → feed_of g.feeds h.0 ≡ Some f → r ≡ f.part → r.root.state ≡ EdgeEnded → IsFeedWait mc kd m g h Ended
feed_ended mc kd m g h hub f r there placed part is = record { hub = hub; there = there; feed = f; fed = placed; wait = ap (λ x. x.root.state) (sym part) ∙ is }

-- the root edge of a feed isn't closed
pub feed_closed : {M T : Type 0} (mc : Machine M T) (kd : Nodes M T) (m : Meaning T) (g : Rows M T) (h : HubId) (hub : HubState T) (f : Feed M) (r : Rooted M) → slice_get g.hubs h.0 ≡ Some hub → feed_of g.feeds h.0 ≡ Some f → IsFeedSilent mc m g h.0 hub → r ≡ f.part → r.root.state ≡ Closed → IsFeedWait mc kd m g h Unknown
feed_closed mc kd m g h hub f r there placed silent part is = record {
  hub = hub;
  there = there;
  feed = f;
  fed = placed;
  wait = record {
    silent = silent_as mc m g h.0 hub f placed silent;
    never = λ taken v past many took stands within. (standing mc m g.feeds taken h.0 v hub past.source f stands.source placed).stands.unclosed (ap (λ x. x.root.state) (sym part) ∙ is);
  };
}

-- a node of its tree waits for a hub that is there
pub feed_awaits : {M T : Type 0} (mc : Machine M T) (kd : Nodes M T) (m : Meaning T) (g : Rows M T) (h : HubId) (hub : HubState T) (f : Feed M) (r : Rooted M) (node : NodeId) (source : HubId) (number : ℕ) (why : HubWait) →
    slice_get g.hubs h.0 ≡ Some hub → feed_of g.feeds h.0 ≡ Some f → IsFeedSilent mc m g h.0 hub → r ≡ f.part → Waits mc r.root r.tree node.0 number → source.0 ≡ number → IsHubWait mc kd m g source why → IsFeedWait mc kd m g h (Hub node source why)
feed_awaits {M} mc kd m g h hub f r node source number why there placed silent part leaf same is =
    let P : Rooted M → Type 0 = λ x. Waits mc x.root x.tree node.0 source.0 in
    let Q : ℕ → Type 0 = λ n. Waits mc r.root r.tree node.0 n in
    record {
      hub = hub;
      there = there;
      feed = f;
      fed = placed;
      wait = record {
        silent = silent_as mc m g h.0 hub f placed silent;
        leaf = subst P part (subst Q (sym same) leaf);
        why = is;
      };
    }

-- no node of its tree is found that waits for a hub
pub feed_finds_none : {M T : Type 0} (mc : Machine M T) (kd : Nodes M T) (m : Meaning T) (g : Rows M T) (h : HubId) (hub : HubState T) (f : Feed M) (r : Rooted M) →
    slice_get g.hubs h.0 ≡ Some hub → feed_of g.feeds h.0 ≡ Some f → IsFeedSilent mc m g h.0 hub → r ≡ f.part → f.part.root.state ≡ Live → (LacksAll mc m r.root r.tree → ⊥) → IsFeedWait mc kd m g h Unknown
feed_finds_none {M} mc kd m g h hub f r there placed silent part live none =
    let P : Rooted M → Type 0 = λ x. LacksAll mc m x.root x.tree in
    let quiet = silent_as mc m g h.0 hub f placed silent in
    record {
      hub = hub;
      there = there;
      feed = f;
      fed = placed;
      wait = record {
        silent = quiet;
        never = λ taken v past many took stands within. none (subst P (sym part) (lacks_fed mc m g.feeds taken h.0 v hub past f stands took placed (live_still f live) quiet within));
      };
    }

-- the node that is found waits for a hub that isn't there
pub feed_misses : {M T : Type 0} (mc : Machine M T) (kd : Nodes M T) (m : Meaning T) (g : Rows M T) (h : HubId) (hub : HubState T) (f : Feed M) (r : Rooted M) (node number : ℕ) →
    slice_get g.hubs h.0 ≡ Some hub → feed_of g.feeds h.0 ≡ Some f → IsFeedSilent mc m g h.0 hub → r ≡ f.part → f.part.root.state ≡ Live → Waits mc r.root r.tree node number → length g.hubs ≤ number → IsFeedWait mc kd m g h Unknown
feed_misses {M} {T} mc kd m g h hub f r node number there placed silent part live leaf missing =
    let quiet = silent_as mc m g h.0 hub f placed silent in
    record {
      hub = hub;
      there = there;
      feed = f;
      fed = placed;
      wait = record { silent = quiet; never = never quiet };
    }
  where
    never : IsSilent mc m f hub → (taken : List (Stream T)) (v : Stream T) (past : HubPast T) → length taken ≡ length g.hubs → slice_get taken h.0 ≡ Some v → HubStands mc m g.feeds taken h.0 v hub past → IsFeedBounded f → ⊥
    never quiet taken v past many took stands within =
        let P : Rooted M → Type 0 = λ x. Waits mc x.root x.tree node number in
        let k = standing mc m g.feeds taken h.0 v hub past.source f stands.source placed in
        let all = lacks_fed mc m g.feeds taken h.0 v hub past f stands took placed (live_still f live) quiet within in
        let before = take f.hub taken in
        let count : length (counts_in before) ≡ length before = counted_all _ before in
        let least = length-take f.hub taken in
        let there = tree_within mc (counts_in before) f.part.root f.part.tree node number (k.stands.part.reads all.live) (subst P part leaf) in
        omega (arith, count, least, there, many, missing)

-- ---- what follows from it

-- where no move of the graph is enabled, it doesn't wait for a pump
pub feed_not_for_pump : {M T : Type 0} (mc : Machine M T) (kd : Nodes M T) (m : Meaning T) (g : Rows M T) (h : HubId) (wait : FeedWait) → IsAllQuiet mc kd m g → IsFeedWait mc kd m g h wait → is_feed_for_pump wait ≡ false
feed_not_for_pump mc kd m g h Ended q w = refl
feed_not_for_pump mc kd m g h (Enabled move) q w = let k = w.wait in absurd (both_ways (is_enabled mc kd m g move) (q move k.0) k.2)
feed_not_for_pump mc kd m g h (HeldBy tree) q w = refl
feed_not_for_pump mc kd m g h (Hub node source hub_wait.Nothing) q w = refl
feed_not_for_pump mc kd m g h (Hub node source hub_wait.Feed) q w = refl
feed_not_for_pump mc kd m g h (Hub node source (hub_wait.Enabled move)) q w = let k = w.wait.why.why in absurd (both_ways (is_enabled mc kd m g move) (q move k.0) k.2)
feed_not_for_pump mc kd m g h (Hub node source (hub_wait.HeldBy tree)) q w = refl
feed_not_for_pump mc kd m g h Unknown q w = refl

there_too : {A B : Type 0} (xs : List A) (ys : List B) (n : ℕ) (x : A) → length xs ≡ length ys → slice_get xs n ≡ Some x → (y : B) × (slice_get ys n ≡ Some y)
there_too [] ys n x l e = cc
there_too (z ∷ xs) [] n x l e = absurd (omega (arith, l))
there_too (z ∷ xs) (y ∷ ys) zero x l e = (y, refl)
there_too (z ∷ xs) (y ∷ ys) (suc n) x l e = there_too xs ys n x (omega (arith, l)) e

-- where the graph stands for a history, and the feed keeps within its limits, it is known for what it waits
pub feed_always_known : {M T : Type 0} (mc : Machine M T) (kd : Nodes M T) (m : Meaning T) (g : Rows M T) (h : History T) (i : HubId) (f : Feed M) (wait : FeedWait) → StandsFor mc m g h → feed_of g.feeds i.0 ≡ Some f → IsFeedBounded f → IsFeedWait mc kd m g i wait → wait ≡ Unknown → ⊥
feed_always_known {M} {T} mc kd m g h i f Unknown stands there within w e =
    let p = there_too g.hubs h.hubs i.0 w.hub stands.many w.there in
    let v = there_too h.hubs stands.taken i.0 p.0 (sym stands.each) p.1 in
    let P : Feed M → Type 0 = λ x. IsFeedBounded x in
    w.wait.never stands.taken v.0 p.0 (stands.each ∙ sym stands.many) v.1 (stands.hub i.0 v.0 w.hub p.0 v.1 w.there p.1) (subst P (some_same f w.feed (sym there ∙ w.fed)) within)
feed_always_known mc kd m g h i f Ended stands there within w e = cc
feed_always_known mc kd m g h i f (Enabled move) stands there within w e = cc
feed_always_known mc kd m g h i f (HeldBy tree) stands there within w e = cc
feed_always_known mc kd m g h i f (Hub node source why) stands there within w e = cc
