-- Graphs go on standing for what has happened: the joins that they keep, and the hubs that their feeds name.
use Rattle.rsx_kinds.specs.Any.{any_machine}
use Rattle.rsx_kinds.specs.Routes.{tree_nodes}
use Rattle.rsx_graph.proofs.Laws.{any_laws}
use Rattle.rsx_graph.specs.Kinds.{IsCancelledAt, IsMoved, IsRequestedAt, StandsFor, HasEnded, HasPumped as RowsPumped, IsMoveMade, LeadTo, Rows, Subscription, Feed}
use Rattle.std.proofs.Common.{◌≡◌, ℕ, ◌≤◌, ℤ, zero, suc, pos, negsuc, true, ◌++◌, List, [], ◌∷◌, length, map, slice_get, Option, Some, Result, Ok, Err, IfErr, IfOk, OnOk, OnErr, refl, ap, sym, ◌∙◌, subst}
use Rattle.std.proofs.lemmas.List.{length-map, length-set}
use Rattle.std.proofs.lemmas.Option.{same_Some}
use Rattle.rsx_graph_moves.proofs.Keeping.{KeepHubs, lead_keep, moved_keep}
use Rattle.rsx_graph_moves.proofs.Serving.{rows_served}
use Rattle.rsx_graph_moves.specs.Pumped.{Made, after_move, after_moves}
use Rattle.rsx_tree.proofs.Runs.{leads_fold}
use Rattle.rsx_graph_calls.proofs.Behind.{hub_behind}
use Rattle.rsx_graph_calls.proofs.Kept.{joins_hub, joins_published, joins_same, kept_changed, kept_made, regions_hub, regions_published, regions_same}
use Rattle.rsx_graph_calls.proofs.Names.{names_kept}
use Rattle.rsx_graph_calls.proofs.Published.{emitted_stands, ended_stands}
use Rattle.rsx_graph_calls.specs.Edits.{NameHubs, with_hub}
use Rattle.rsx_graph_calls.specs.Publishes.{has_emitter, with_published}
use Rattle.rsx_graph_state.specs.Hubs.{IsEmittedAt, IsEndedAt}
use Rattle.rsx_graph_state.specs.Prelude.{fresh_hub, JoinsStand, History, with_made, rows_of, HubState, SubscriptionState}
use Rattle.rsx_graph_calls.specs.Regions.{HasRegion, RegionLists, RegionsStand, region_in, regions_of, senders_in}
use Rattle.rsx_graph_calls.specs.declared.regions.Regions.{Regions}
use Rattle.rsx_graph_calls.specs.Requests.{with_past}
use Rattle.rsx_graph_calls.specs.Senders.{senders_below}
use Rattle.rsx_graph_state.proofs.Graphs.{joins_kept}
use Rattle.rsx_graph_state.specs.declared.TheConstants.{MOST_HUBS}
use Rattle.rsx_graph_state.specs.declared.refusal.Refusal.{Refusal}
use Rattle.rsx_graph_state.specs.declared.step.Pumped.{Pumped}
use Rattle.rsx_graph_state.specs.declared.step.Pumped.TheVariants.{Idle}
use Rattle.rsx_subscriber.specs.Prelude.{with_signal, Delivered, Past, region_of, requested, requested_in}
use Rattle.rsx_subscriber.specs.declared.state.SubscriptionState.TheVariants.{Open, Ended, Cancelled, Refused}
use Rattle.rsx_sources.specs.Prelude.{Ending, HubId, HubKind, Meaning, Move, Next, Stream, SubId, Signal}
use Rattle.rsx_graph.specs.Pumped.{HasPumped}
use Rattle.rsx_graph.specs.Delivered.{IsAllDelivered}
use Rattle.rsx_graph.specs.Read.{IsAllRead}
use Rattle.rsx_graph.specs.Stands.{GraphStands, GraphState, IsAllServed, nothing}
use Rattle.rsx_graph.specs.Steps.{no_history}
use Rattle.rsx_graph.proofs.Delivered.{rows_delivered, taken_fewer, waits_for_one}
use Rattle.rsx_graph.proofs.Limits.{emit_keeps, end_keeps, hub_keeps, move_keeps, moves_keep}
use Rattle.rsx_graph.proofs.Reading.{hubs_quiet, rows_read}

-- a graph of these rows, joins and regions
abbrev pub state_with : {T : Type 0} → List (HubState T) → List (Feed T) → List (Subscription T) → List (List ℕ) → List (List ℕ) → RegionLists → GraphState T
state_with hubs feeds subs joins feed_joins regions = record { rows = rows_of hubs feeds subs; joins = joins; feed_joins = feed_joins; regions = regions }

-- one that has just begun stands for nothing that has happened
pub begun : {T : Type 0} (m : Meaning T) → GraphStands m nothing no_history
begun m = record {
  rows = record { taken = []; many = refl; each = refl; hub = λ i v s p a b c. cc; all = tt };
  joined = record { subs = refl; fed = λ i p e. cc };
  placed = record { roots = refl; senders = refl; fed = λ i p e. cc };
  limits = record { accepted = tt; nodes = tt };
}

pub begun_from : {T : Type 0} (m : Meaning T) (g : GraphState T) → g ≡ nothing → GraphStands m g no_history
begun_from {T} m g empty = let P : GraphState T → Type 0 = λ s. GraphStands m s no_history in subst P (sym empty) (begun m)

-- ---- the joins

-- what subscribers did
pub past_joins : {T : Type 0} (f : Past T → Past T) (i : SubId) (feeds : List (Feed T)) (joins feed_joins : List (List ℕ)) (h : History T) → ((p : Past T) → (f p).joins ≡ p.joins) → JoinsStand feeds joins feed_joins h → JoinsStand feeds joins feed_joins (with_past f i h)
past_joins f i feeds joins feed_joins h keeps j = joins_same feeds feeds joins feed_joins h (with_past f i h) refl (joins_kept f keeps h.pasts i.0) refl j

-- one move
pub made_joins : {T : Type 0} (m : Meaning T) (mv : Move) (o : Option (SubId × Signal T)) (s : Option (Signal T)) (old new : Rows T) (joins feed_joins : List (List ℕ)) (h : History T) → IsMoved m mv old new o → JoinsStand old.feeds joins feed_joins h → JoinsStand new.feeds joins feed_joins (with_made mv o s h)
made_joins m mv o s old new joins feed_joins h effect j =
    let k = kept_made mv o s h in
    joins_same old.feeds new.feeds joins feed_joins h (with_made mv o s h) (moved_keep any_machine tree_nodes m mv old new o effect) k.joins k.sources j

-- many
pub moved_joins : {T : Type 0} (m : Meaning T) (old new : Rows T) (moves : List (Made T)) (joins feed_joins : List (List ℕ)) (h : History T) → LeadTo m old moves new → JoinsStand old.feeds joins feed_joins h → JoinsStand new.feeds joins feed_joins (after_moves h moves)
moved_joins m old new moves joins feed_joins h lead j =
    leads_fold (IsMoveMade m) after_move (λ g k. JoinsStand g.feeds joins feed_joins k) (λ a b d k made j. made_joins m d.move d.delivered d.fed a b joins feed_joins k made.effect j) old new moves h lead j

-- ---- the regions

-- what subscribers did
pub past_regions : {T : Type 0} (f : Past T → Past T) (i : SubId) (feeds : List (Feed T)) (regions : RegionLists) (h : History T) → ((p : Past T) → (f p).expression ≡ p.expression) → RegionsStand feeds regions h → RegionsStand feeds regions (with_past f i h)
past_regions f i feeds regions h keeps k = record {
  roots = k.roots ∙ sym (kept_changed region_in f (λ p. ap region_of (keeps p)) h.pasts i.0);
  senders = k.senders ∙ sym (kept_changed senders_in f (λ p. ap senders_below (keeps p)) h.pasts i.0);
  fed = k.fed;
}

pub requested_expression : {T : Type 0} (n : ℤ) (p : Past T) → (requested n p).expression ≡ p.expression
requested_expression n p = by_state p.state n
  where
    by_state : (s : SubscriptionState) (n : ℤ) → (requested_in s n p).expression ≡ p.expression
    by_state Open (pos zero) = refl
    by_state Open (pos (suc n)) = refl
    by_state Open (negsuc n) = refl
    by_state Ended n = refl
    by_state Cancelled n = refl
    by_state Refused n = refl

-- one move
pub made_regions : {T : Type 0} (m : Meaning T) (mv : Move) (o : Option (SubId × Signal T)) (s : Option (Signal T)) (old new : Rows T) (regions : RegionLists) (h : History T) → IsMoved m mv old new o → RegionsStand old.feeds regions h → RegionsStand new.feeds regions (with_made mv o s h)
made_regions m mv o s old new regions h effect k =
    regions_same old.feeds new.feeds regions h (with_made mv o s h) (moved_keep any_machine tree_nodes m mv old new o effect) (kept_made mv o s h) k

-- many
pub moved_regions : {T : Type 0} (m : Meaning T) (old new : Rows T) (moves : List (Made T)) (regions : RegionLists) (h : History T) → LeadTo m old moves new → RegionsStand old.feeds regions h → RegionsStand new.feeds regions (after_moves h moves)
moved_regions m old new moves regions h lead k =
    leads_fold (IsMoveMade m) after_move (λ g x. RegionsStand g.feeds regions x) (λ a b d x made j. made_regions m d.move d.delivered d.fed a b regions x made.effect j) old new moves h lead k

-- the region at one place
got_region : {T : Type 0} (pasts : List (Past T)) (i r : ℕ) → slice_get (map region_in pasts) i ≡ Some r → HasRegion pasts i r
got_region [] i r e = cc
got_region (p ∷ pasts) zero r e = (p, refl, sym (same_Some (region_in p) r e))
got_region (p ∷ pasts) (suc i) r e = got_region pasts i r e

pub region_there : {T : Type 0} (feeds : List (Feed T)) (regions : RegionLists) (h : History T) (i r : ℕ) → slice_get regions.roots i ≡ Some r → RegionsStand feeds regions h → HasRegion h.pasts i r
region_there feeds regions h i r there k = got_region h.pasts i r (ap (λ l. slice_get l i) (sym k.roots) ∙ there)

-- ---- the hubs that the feeds name

pub names_on : {T : Type 0} (n k : ℕ) (feeds : List (Feed T)) → k ≡ n → NameHubs n feeds → NameHubs k feeds
names_on {T} n k feeds count names = let P : ℕ → Type 0 = λ i. NameHubs i feeds in subst P (sym count) names

pub names_moved : {T : Type 0} (old new : Rows T) → KeepHubs old new → length new.hubs ≡ length old.hubs → NameHubs (length old.hubs) old.feeds → NameHubs (length new.hubs) new.feeds
names_moved old new keep count names = names_on (length old.hubs) (length new.hubs) new.feeds count (names_kept (length old.hubs) old.feeds new.feeds keep names)

-- they go on doing so by each call, whatever it answers

pub names_made : {T E : Type 0} (m : Meaning T) (mv : Move) (old new : Rows T) (r : Result (Option (SubId × Signal T)) E) → IfOk r (λ o. IsMoved m mv old new o) → OnErr r ((new.hubs ≡ old.hubs) × (new.feeds ≡ old.feeds) × (new.subs ≡ old.subs)) → length new.hubs ≡ length old.hubs →
    NameHubs (length old.hubs) old.feeds → NameHubs (length new.hubs) new.feeds
names_made m mv old new (Ok o) effect same count names = names_moved old new (moved_keep any_machine tree_nodes m mv old new o effect) count names
names_made m mv old new (Err e) effect same count names = names_moved old new (ap (map (λ f. f.hub)) same.1) count names

pub names_pumped : {T : Type 0} (m : Meaning T) (budget : ℕ) (old new : Rows T) (before after : Delivered T) (r : Result Pumped Refusal) → RowsPumped m budget old before r new after → length new.hubs ≡ length old.hubs → NameHubs (length old.hubs) old.feeds → NameHubs (length new.hubs) new.feeds
names_pumped m budget old new before after r k count names = names_moved old new (lead_keep any_machine tree_nodes m old k.0 new k.2.lead) count names

pub names_hub : {T A E : Type 0} (olds news : List (HubState T)) (feeds : List (Feed T)) (r : Result A E) → OnOk r (NameHubs (length news) feeds) → OnErr r (news ≡ olds) → NameHubs (length olds) feeds → NameHubs (length news) feeds
names_hub olds news feeds (Ok a) made same names = made
names_hub olds news feeds (Err e) made same names = names_on (length olds) (length news) feeds (ap length same) names

-- ---- as many as before

-- with one feed more or with none, there are as many lists of senders as feeds
pub feeds_sent : {A E F : Type 0} (P Q : Type 0) (r : Result A E) (olds news : List F) (old new : Regions) → OnOk r (length new.feed_senders.items ≡ length news) → OnErr r (P × (news ≡ olds) × Q × (regions_of new ≡ regions_of old)) → length old.feed_senders.items ≡ length olds → length new.feed_senders.items ≡ length news
feeds_sent P Q (Ok a) olds news old new made same was = made
feeds_sent P Q (Err e) olds news old new made same was =
    sym (length-map new.feed_senders.items (λ v. v.items))
    ∙ (ap (λ (x : RegionLists). length x.feed_senders) same.3 ∙ (length-map old.feed_senders.items (λ v. v.items) ∙ (was ∙ sym (ap length same.1))))

pub cancelled_count : {T A E : Type 0} (i : ℕ) (olds news : List (Subscription T)) (r : Result A E) → OnOk r (IsCancelledAt i olds news) → OnErr r (news ≡ olds) → length news ≡ length olds
cancelled_count i olds news (Ok a) effect same = ap length effect.others ∙ length-set olds i effect.new
cancelled_count i olds news (Err e) effect same = ap length same

pub requested_count : {T E : Type 0} (i : ℕ) (n : ℤ) (olds news : List (Subscription T)) (r : Result (Option (Signal T)) E) → IfOk r (λ o. IsRequestedAt i n olds news o) → OnErr r (news ≡ olds) → length news ≡ length olds
requested_count i n olds news (Ok o) effect same = ap length effect.others ∙ length-set olds i effect.new
requested_count i n olds news (Err e) effect same = ap length same

-- ---- runs of moves

pub graph_pumped : {T : Type 0} (m : Meaning T) (budget : ℕ) (old : GraphState T) (before : Delivered T) (result : Result Pumped Refusal) (new : Rows T) (after : Delivered T) → RowsPumped m budget old.rows before result new after →
    HasPumped m budget old before result (record { rows = new; joins = old.joins; feed_joins = old.feed_joins; regions = old.regions }) after
graph_pumped m budget old before result new after k = record {
  moves = k.0;
  ends = k.1;
  lead = k.2.lead;
  same = (refl, refl, refl);
  stands = λ h s. record { rows = k.2.stands h s.rows; joined = moved_joins m old.rows new k.0 old.joins old.feed_joins h k.2.lead s.joined; placed = moved_regions m old.rows new k.0 old.regions h k.2.lead s.placed; limits = moves_keep m old.rows k.0 new k.2.lead s.limits };
  output = k.3;
}

-- where no move is enabled any more, each live subscriber was served
pub idle_served : {T : Type 0} (m : Meaning T) (budget : ℕ) (old : GraphState T) (new : Rows T) (before after : Delivered T) (r : Result Pumped Refusal) → RowsPumped m budget old.rows before r new after →
    IfOk r (λ p. p ≡ Idle → IsAllServed m (record { rows = new; joins = old.joins; feed_joins = old.feed_joins; regions = old.regions }))
idle_served {T} m budget old new before after (Ok p) k = λ idle h s.
    let P : Pumped → Type 0 = λ q. HasEnded m budget (length k.0) new (Ok q) in
    rows_served any_machine tree_nodes any_laws m new h s.rows (subst P idle k.1).1
idle_served m budget old new before after (Err e) k = tt

-- each live subscriber got what it asked for, where no hub has two live members
pub idle_delivered : {T : Type 0} (m : Meaning T) (budget : ℕ) (old : GraphState T) (new : Rows T) (before after : Delivered T) (r : Result Pumped Refusal) → length new.hubs ≤ MOST_HUBS → RowsPumped m budget old.rows before r new after →
    IfOk r (λ p. p ≡ Idle → IsAllDelivered m (record { rows = new; joins = old.joins; feed_joins = old.feed_joins; regions = old.regions }))
idle_delivered {T} m budget old new before after (Ok p) few k = λ idle h s one carried.
    let P : Pumped → Type 0 = λ q. HasEnded m budget (length k.0) new (Ok q) in
    rows_delivered m new h s.rows s.limits few (subst P idle k.1).1 (waits_for_one m new one) carried
idle_delivered m budget old new before after (Err e) few k = tt

-- and each node that reads a hub and is at rest has got all that was published there, where each hub in front of which a signal waits
-- has one reader at most
pub idle_read : {T : Type 0} (m : Meaning T) (budget : ℕ) (old : GraphState T) (new : Rows T) (before after : Delivered T) (r : Result Pumped Refusal) → length new.hubs ≤ MOST_HUBS → RowsPumped m budget old.rows before r new after →
    IfOk r (λ p. p ≡ Idle → IsAllRead m (record { rows = new; joins = old.joins; feed_joins = old.feed_joins; regions = old.regions }))
idle_read {T} m budget old new before after (Ok p) few k = λ idle h s wait carried.
    let P : Pumped → Type 0 = λ q. HasEnded m budget (length k.0) new (Ok q) in
    let quiet = hubs_quiet m new few (subst P idle k.1).1 in
    rows_read m new h s.rows wait (taken_fewer m new h s.rows s.limits.accepted quiet carried) quiet carried s.limits.nodes
idle_read m budget old new before after (Err e) few k = tt

-- ---- a refused call

pub unchanged : {T : Type 0} (m : Meaning T) (old new : GraphState T) → new ≡ old → (h : History T) → GraphStands m old h → GraphStands m new h
unchanged {T} m old new same h s = let P : GraphState T → Type 0 = λ g. GraphStands m g h in subst P (sym same) s

-- ---- one call

-- facts of a call's answer, of which others follow
pub on_ok : {A E P Q : Type 0} (r : Result A E) → OnOk r P → (P → Q) → OnOk r Q
on_ok (Ok a) p k = k p
on_ok (Err e) p k = tt

pub on_both : {A E P Q R : Type 0} (r : Result A E) → OnOk r P → OnOk r Q → (P → Q → R) → OnOk r R
on_both (Ok a) p q k = k p q
on_both (Err e) p q k = tt

pub on_err : {A E P Q : Type 0} (r : Result A E) → OnErr r P → (P → Q) → OnErr r Q
on_err (Ok a) p k = tt
on_err (Err e) p k = k p

pub if_ok : {A E : Type 0} {P Q : A → Type 0} (r : Result A E) → IfOk r P → ((a : A) → P a → Q a) → IfOk r Q
if_ok (Ok a) p k = k a p
if_ok (Err e) p k = tt

pub if_err : {A E : Type 0} {P Q : E → Type 0} (r : Result A E) → IfErr r P → ((e : E) → P e → Q e) → IfErr r Q
if_err (Ok a) p k = tt
if_err (Err e) p k = k e p

-- an item was emitted
pub emitted_graph : {T : Type 0} (m : Meaning T) (x : T) (i : HubId) (old : GraphState T) (hubs : List (HubState T)) (h : History T) → IsEmittedAt i.0 x old.rows.hubs hubs → has_emitter old.rows.hubs old.rows.feeds i.0 ≡ true → GraphStands m old h →
    GraphStands m (state_with hubs old.rows.feeds old.rows.subs old.joins old.feed_joins old.regions) (with_published (Next x) i h)
emitted_graph m x i old hubs h effect known s = record {
  rows = emitted_stands any_machine m x i old.rows.hubs hubs old.rows.feeds old.rows.subs h effect known s.rows;
  joined = joins_published (Next x) i old.rows.feeds old.joins old.feed_joins h s.joined;
  placed = regions_published (Next x) i old.rows.feeds old.regions h s.placed;
  limits = emit_keeps i.0 x old.rows.hubs hubs old.rows.feeds effect s.limits;
}

-- a hub ended, by a signal that gives any stream this ending
pub ended_graph : {T : Type 0} (m : Meaning T) (sig : Signal T) (d : Ending) (i : HubId) (old : GraphState T) (hubs : List (HubState T)) (h : History T) → ((w : Stream T) → with_signal sig w ≡ record { items = w.items; ending = d }) → IsEndedAt i.0 d old.rows.hubs hubs → has_emitter old.rows.hubs old.rows.feeds i.0 ≡ true → GraphStands m old h →
    GraphStands m (state_with hubs old.rows.feeds old.rows.subs old.joins old.feed_joins old.regions) (with_published sig i h)
ended_graph m sig d i old hubs h ends effect known s = record {
  rows = ended_stands any_machine m sig d i old.rows.hubs hubs old.rows.feeds old.rows.subs h ends effect known s.rows;
  joined = joins_published sig i old.rows.feeds old.joins old.feed_joins h s.joined;
  placed = regions_published sig i old.rows.feeds old.regions h s.placed;
  limits = end_keeps i.0 d old.rows.hubs hubs old.rows.feeds effect s.limits;
}

-- there is a hub more, with an emitter
pub begun_hub : {T : Type 0} (m : Meaning T) (k : HubKind) (c : ℕ) (old : GraphState T) (hubs : List (HubState T)) (h : History T) → hubs ≡ old.rows.hubs ++ fresh_hub k c ∷ [] → NameHubs (length old.rows.hubs) old.rows.feeds → GraphStands m old h →
    GraphStands m (state_with hubs old.rows.feeds old.rows.subs old.joins old.feed_joins old.regions) (with_hub k h)
begun_hub m k c old hubs h effect named s = record {
  rows = hub_behind any_machine m k c old.rows hubs h effect named s.rows;
  joined = joins_hub k old.rows.feeds old.joins old.feed_joins h s.joined;
  placed = regions_hub k old.rows.feeds old.regions h s.placed;
  limits = hub_keeps k c old.rows.hubs hubs old.rows.feeds effect s.limits;
}

-- a move was made, unless it was refused
pub graph_made : {T : Type 0} (m : Meaning T) (mv : Move) (sent : Option (Signal T)) (old : GraphState T) (new : Rows T) (r : Result (Option (SubId × Signal T)) Refusal) →
    IfOk r (λ o. (h : History T) → StandsFor m old.rows h → StandsFor m new (with_made mv o sent h)) → IfOk r (λ o. IsMoved m mv old.rows new o) →
    IfOk r (λ o. (h : History T) → GraphStands m old h → GraphStands m (record { rows = new; joins = old.joins; feed_joins = old.feed_joins; regions = old.regions }) (with_made mv o sent h))
graph_made m mv sent old new (Ok o) stands effect = λ h s. record {
  rows = stands h s.rows;
  joined = made_joins m mv o sent old.rows new old.joins old.feed_joins h effect s.joined;
  placed = made_regions m mv o sent old.rows new old.regions h effect s.placed;
  limits = move_keeps m mv old.rows new o effect s.limits;
}
graph_made m mv sent old new (Err e) stands effect = tt
