-- Links that are opened one after the other, and the graph that is put between them.
use Rattle.std.proofs.Common.{◌≡◌, inl, inr, ℕ, zero, suc, ◌+◌, ◌-◌, ◌^◌, ◌<◌, ◌≤◌, Bool, true, false, if◌then◌else◌, nat_eq, eq-eqb, not, List, [], ◌∷◌, ◌++◌, length, length-append, map, refl, ap, sym, ◌∙◌, subst, arith, add-one, Option, None, Some, option_map, slice_get, Result, Ok, Err, OnOk, IfErr, IfOk, min}
use Rattle.std.proofs.lemmas.Bool.{ne_eqb}
use Rattle.std.proofs.lemmas.List.{append-nil, length-map, map-append}
use Rattle.std.proofs.lemmas.Option.{slice_get_within}
use Rattle.rsx_demand.specs.declared.TheConstants.{UNBOUNDED}
use Rattle.rsx_types.specs.declared.limits.TheConstants.{CAPACITY}
use Rattle.rsx_types.specs.declared.names.HubId.{HubId}
use Rattle.rsx_types.specs.declared.names.SubId.{SubId}
use Rattle.rsx_types.specs.declared.ops.Ops.{Ghosts as Ops}
use Rattle.atomic_table.specs.declared.shared.Seat.{Seat}
use Rattle.rsx_gate.specs.Machine.{all_parts}
use Rattle.rsx_gate.specs.declared.view.View.{View}
use Rattle.rsx_graph.specs.InGraph.{state_of}
use Rattle.rsx_graph.specs.Pieces.{ArePiecesOf}
use Rattle.rsx_graph.specs.declared.graph.Graph.{Graph}
use Rattle.rsx_graph.specs.declared.pieces.Pieces.{Pieces}
use Rattle.rsx_graph_state.specs.Stands.{place_of}
use Rattle.rsx_graph_state.specs.declared.TheConstants.{MOST_SUBSCRIPTIONS}
use Rattle.rsx_graph_state.specs.declared.feed.Feed.{Feed}
use Rattle.rsx_hub.specs.Hub.{HubState, accepted_items}
use Rattle.rsx_hub.specs.Waiting.{is_open}
use Rattle.rsx_link.specs.Ends.{IsCancelSeatOf, IsDownOf, IsUpOf, capacity_of, carried_down, carried_up, sent_signals}
use Rattle.rsx_link.specs.declared.link.Link.{Link}
use Rattle.rsx_runtime.specs.declared.emitter.Emitter.{Emitter}
use Rattle.rsx_runtime.specs.declared.tap.Tap.{Tap}
use Rattle.rsx_subscriber.specs.Stands.{standing_of}
use Rattle.rsx_subscriber.specs.declared.subscription.Subscription.{Subscription}
use Rattle.rsx_serialized.specs.Ends.{Beside, BesideFew, IsPassedOn}
use Rattle.rsx_serialized.specs.Opens.{IsEmitterLink, IsTapLink}
use Rattle.rsx_serialized.specs.Opened.{IsOpened}
use Rattle.rsx_serialized.specs.Regions.{AreEndsOf, AreInletsOf, AreSpare, IsSpare}
use Rattle.rsx_serialized.specs.Started.{AreEmittersOf, AreTapsOf, HaveRoom, IsFresh, IsTapAt, opened}
use Rattle.rsx_serialized.specs.Starting.{AreEmitterLinks, AreTapLinks, BesideFirst, CarryAlike, ComesBack, CountsOn, GoesOver, HasEmitterLink, HasPlace, HasTapLink, IsStartedOf, IsUnasked, NothingCame, TakesOver, hub_number, is_open_state, unfed, where_none}
use Rattle.rsx_serialized.specs.declared.emitter_links.EmitterLinks.{EmitterLinks}
use Rattle.rsx_serialized.specs.declared.ends.FromEmitter.{FromEmitter}
use Rattle.rsx_serialized.specs.declared.ends.ToTap.{ToTap}
use Rattle.rsx_serialized.specs.declared.links.EmitterLink.{EmitterLink}
use Rattle.rsx_serialized.specs.declared.links.TapLink.{TapLink}
use Rattle.rsx_serialized.specs.declared.opening.Opening.{Opening}
use Rattle.rsx_serialized.specs.declared.region.GraphRegion.{GraphRegion}
use Rattle.rsx_serialized.specs.declared.region.Links.{Links}
use Rattle.rsx_serialized.specs.declared.serialized.SerializedGraph.{SerializedGraph}
use Rattle.rsx_serialized.specs.declared.starting.StartedGraph.{StartedGraph}
use Rattle.rsx_serialized.specs.declared.tap_links.TapLinks.{TapLinks}
use Rattle.rsx_serialized.specs.declared.starting.TheConstants.{MOST_PLACES}
use Rattle.rsx_serialized.proofs.Lists.{beside_push, few_more, few_of, get_behind}
use Rattle.rsx_serialized.proofs.Regions.{spare_as}

-- ---- lists

pub on_ok : {A E P Q : Type 0} (r : Result A E) → (P → Q) → OnOk r P → OnOk r Q
on_ok (Ok a) f h = f h
on_ok (Err e) f h = tt

pub if_ok : {A E : Type 0} {P Q : A → Type 0} (r : Result A E) → ((a : A) → P a → Q a) → IfOk r P → IfOk r Q
if_ok (Ok a) f h = f a h
if_ok (Err e) f h = tt

pub if_err : {A E : Type 0} {P Q : E → Type 0} (r : Result A E) → ((e : E) → P e → Q e) → IfErr r P → IfErr r Q
if_err (Ok a) f h = tt
if_err (Err e) f h = f e h

-- what is so of each is so of each where one stands more
each_push : {X : Type 0} (P : X → Type 0) (xs : List X) (x : X) → P x → ((k : ℕ) (y : X) → slice_get xs k ≡ Some y → P y) → (k : ℕ) (y : X) → slice_get (xs ++ x ∷ []) k ≡ Some y → P y
each_push {X} P xs x h all k y e = elim (get_behind xs x k y e) [
  | inl u ↦ all k y u
  | inr u ↦ subst (λ (z : X). P z) (sym u.1) h
]

each_as : {X : Type 0} (P : X → Type 0) (xs us : List X) → us ≡ xs → ((k : ℕ) (y : X) → slice_get xs k ≡ Some y → P y) → (k : ℕ) (y : X) → slice_get us k ≡ Some y → P y
each_as {X} P xs us e all k y at = all k y (ap (λ (l : List X). slice_get l k) (sym e) ∙ at)

beside_as : {X Y : Type 0} (P : ℕ → X → Y → Type 0) (xs us : List X) (ys vs : List Y) → us ≡ xs → vs ≡ ys → Beside P xs ys → Beside P us vs
beside_as {X} {Y} P xs us ys vs e f h =
    let A : List X → Type 0 = λ l. Beside P l ys in
    let B : List Y → Type 0 = λ l. Beside P us l in
    subst B (sym f) (subst A (sym e) h)

-- the same of two lists with one element more
beside_more : {X Y : Type 0} (P : ℕ → X → Y → Type 0) (xs us : List X) (ys vs : List Y) (x : X) (y : Y) → us ≡ xs ++ x ∷ [] → vs ≡ ys ++ y ∷ [] → P (length xs) x y → Beside P xs ys → Beside P us vs
beside_more P xs us ys vs x y e f p h = beside_as P (xs ++ x ∷ []) us (ys ++ y ∷ []) vs e f (beside_push P xs ys x y p h)

-- of the next element of the longer list, too
first_more : {X Y : Type 0} (P : X → Y → Type 0) (n : ℕ) (xs : List X) (ys vs : List Y) (x : X) (y : Y) → vs ≡ ys ++ y ∷ [] → slice_get xs n ≡ Some x → P x y → BesideFirst P n xs ys → BesideFirst P (n + 1) xs vs
first_more {X} {Y} P n xs ys vs x y e at p h =
    let long = h.count in
    let more = length-append ys (y ∷ []) in
    let now : length (ys ++ y ∷ []) ≡ n + 1 = omega (arith, long, more) in
    let B : List Y → Type 0 = λ l. BesideFirst P (n + 1) xs l in
    let all : BesideFirst P (n + 1) xs (ys ++ y ∷ []) = record {
      count = now;
      each = λ k a b u v. elim (get_behind ys y k b v) [
        | inl w ↦ h.each k a b u w
        | inr w ↦
            let here : slice_get xs k ≡ Some x = ap (slice_get xs) (w.0 ∙ long) ∙ at in
            let same : x ≡ a = cc in
            subst (λ (z : X). P z b) same (subst (λ (z : Y). P x z) (sym w.1) p)
      ];
    } in
    subst B (sym e) all

-- all of them
pub first_all : {X Y : Type 0} (P : X → Y → Type 0) (xs : List X) (ys : List Y) → BesideFirst P (length xs) xs ys → Beside (λ k. P) xs ys
first_all P xs ys h = record { count = h.count; each = λ k x y. h.each k x y }

none_there : {X : Type 0} (xs : List X) (k : ℕ) (x : X) → xs ≡ [] → slice_get xs k ≡ Some x → ⊥
none_there [] k x e at = cc
none_there (w ∷ xs) k x e at = cc

beside_none : {X Y : Type 0} (P : ℕ → X → Y → Type 0) (xs : List X) (ys : List Y) → xs ≡ [] → ys ≡ [] → Beside P xs ys
beside_none P xs ys e f = record { count = ap length f ∙ sym (ap length e); each = λ k x y a b. absurd (none_there xs k x e a) }

first_none : {X Y : Type 0} (P : X → Y → Type 0) (xs : List X) (ys : List Y) → ys ≡ [] → BesideFirst P 0 xs ys
first_none P xs ys e = record { count = ap length e; each = λ k x y a b. absurd (none_there ys k y e b) }

few_as : {X Y : Type 0} (P : ℕ → X → Y → Type 0) (xs us : List X) (ys vs : List Y) → us ≡ xs → vs ≡ ys → BesideFew P xs ys → BesideFew P us vs
few_as {X} {Y} P xs us ys vs e f h =
    let A : List X → Type 0 = λ l. BesideFew P l ys in
    let B : List Y → Type 0 = λ l. BesideFew P us l in
    subst B (sym f) (subst A (sym e) h)

few_all : {X Y : Type 0} (P : ℕ → X → Y → Type 0) (xs : List X) (ys : List Y) → length ys ≡ length xs → BesideFew P xs ys → Beside P xs ys
few_all P xs ys e h = record { count = e; each = h.each }

abbrev Carried : {T : Type 0} → ℕ → ToTap T → Tap T → Type 0
Carried k o t = carried_down t.down ≡ carried_up o.up

-- ---- the links of emitters

below_next : (a b n : ℕ) → a < n → b ≡ n → a ≡ b → ⊥
below_next a b n lt e f = omega arith

module _ {T : Type 0} where
  room_more : (ls ms : List (Link T)) (l : Link T) → ms ≡ ls ++ l ∷ [] → capacity_of l ≡ CAPACITY → HaveRoom ls → HaveRoom ms
  room_more ls ms l e h all = each_as (λ x. capacity_of x ≡ CAPACITY) (ls ++ l ∷ []) ms e (each_push (λ x. capacity_of x ≡ CAPACITY) ls l h all)

  -- an end of a hub behind those of hubs with lower numbers
  apart_more : (is : List (FromEmitter T)) (i : FromEmitter T) (n : ℕ) → i.hub.0 ≡ n → ((k : ℕ) (a : FromEmitter T) → slice_get is k ≡ Some a → a.hub.0 < n) →
      ((j k : ℕ) (a c : FromEmitter T) → slice_get is j ≡ Some a → slice_get is k ≡ Some c → a.hub.0 ≡ c.hub.0 → j ≡ k) →
      (j k : ℕ) (a c : FromEmitter T) → slice_get (is ++ i ∷ []) j ≡ Some a → slice_get (is ++ i ∷ []) k ≡ Some c → a.hub.0 ≡ c.hub.0 → j ≡ k
  apart_more is i n here below all j k a c e f same = elim (get_behind is i j a e) [
    | inl u ↦ elim (get_behind is i k c f) [
      | inl v ↦ all j k a c u v same
      | inr v ↦ absurd (below_next a.hub.0 c.hub.0 n (below j a u) (ap (λ (x : FromEmitter T). x.hub.0) v.1 ∙ here) same)
    ]
    | inr u ↦ elim (get_behind is i k c f) [
      | inl v ↦ absurd (below_next c.hub.0 a.hub.0 n (below k c v) (ap (λ (x : FromEmitter T). x.hub.0) u.1 ∙ here) (sym same))
      | inr v ↦ u.0 ∙ sym v.0
    ]
  ]

  inlets_more : (ls ms : List (Link T)) (is js : List (FromEmitter T)) (l : Link T) (i : FromEmitter T) (n : ℕ) → ms ≡ ls ++ l ∷ [] → js ≡ is ++ i ∷ [] → IsDownOf l i.down → IsCancelSeatOf l i.seat → i.hub.0 ≡ n → ((k : ℕ) (a : FromEmitter T) → slice_get is k ≡ Some a → a.hub.0 < n) → AreInletsOf ls is → AreInletsOf ms js
  inlets_more ls ms is js l i n e f down seat here below h =
      let L : List (FromEmitter T) → Type 0 = λ zs. (j k : ℕ) (a c : FromEmitter T) → slice_get zs j ≡ Some a → slice_get zs k ≡ Some c → a.hub.0 ≡ c.hub.0 → j ≡ k in record {
        ends = beside_more (λ k x (y : FromEmitter T). IsDownOf x y.down × IsCancelSeatOf x y.seat) ls ms is js l i e f (down, seat) h.ends;
        apart = subst L (sym f) (apart_more is i n here below h.apart);
      }

  emitters_more : (ls ms : List (Link T)) (is js : List (FromEmitter T)) (es fs : List (Emitter T)) (l : Link T) (i : FromEmitter T) (x : Emitter T) → ms ≡ ls ++ l ∷ [] → js ≡ is ++ i ∷ [] → fs ≡ es ++ x ∷ [] → x.link ≡ length ls → IsUpOf l x.up → x.hub ≡ i.hub → AreEmittersOf ls is es → AreEmittersOf ms js fs
  emitters_more ls ms is js es fs l i x e f d number up hub h = record {
    ends = beside_more (λ k y (z : Emitter T). (z.link ≡ k) × IsUpOf y z.up) ls ms es fs l x e d (number, up) h.ends;
    hubs = beside_more (λ k (y : FromEmitter T) (z : Emitter T). z.hub ≡ y.hub) is js es fs i x f d hub h.hubs;
  }

module _ {M T : Type 0} (hubs : List (HubState T)) (feeds : List (Feed M)) (n : ℕ) where
  numbers_more : (es fs : List (Emitter T)) (x : Emitter T) → fs ≡ es ++ x ∷ [] → x.hub.0 ≡ n → place_of feeds n ≡ None → map hub_number es ≡ unfed feeds n → map hub_number fs ≡ unfed feeds (n + 1)
  numbers_more es fs x e here none h =
      let more : map hub_number fs ≡ unfed feeds n ++ n ∷ [] = ap (map hub_number) e ∙ (map-append hub_number es (x ∷ []) ∙ (ap (λ l. l ++ hub_number x ∷ []) h ∙ ap (λ k. unfed feeds n ++ k ∷ []) here)) in
      let place : unfed feeds (suc n) ≡ unfed feeds n ++ n ∷ [] = ap (λ o. unfed feeds n ++ where_none o n) none in
      more ∙ (sym place ∙ ap (unfed feeds) (sym (add-one n)))

  -- nothing was opened
  pub no_emitter_links : (o : EmitterLinks T) → n ≡ 0 → o.links.items ≡ [] → o.emitters.items ≡ [] → o.inlets.items ≡ [] → AreEmitterLinks hubs feeds n o
  no_emitter_links o start ls es is = record {
    inlets = record { ends = beside_none (λ k x (y : FromEmitter T). IsDownOf x y.down × IsCancelSeatOf x y.seat) o.links.items o.inlets.items ls is; apart = λ j k a c e f same. absurd (none_there o.inlets.items j a is e) };
    fresh = λ k i at. absurd (none_there o.inlets.items k i is at);
    room = λ k l at. absurd (none_there o.links.items k l ls at);
    emitters = record {
      ends = beside_none (λ k y (z : Emitter T). (z.link ≡ k) × IsUpOf y z.up) o.links.items o.emitters.items ls es;
      hubs = beside_none (λ k (y : FromEmitter T) (z : Emitter T). z.hub ≡ y.hub) o.inlets.items o.emitters.items is es;
    };
    each = λ k e at. absurd (none_there o.emitters.items k e es at);
    numbers = ap (map hub_number) es ∙ ap (unfed feeds) (sym start);
    below = λ k i at. absurd (none_there o.inlets.items k i is at);
    few = let none : length o.links.items ≡ 0 = ap length ls in omega (arith, none);
  }

  where_some : (o : Option ℕ) → (o ≡ None → ⊥) → where_none o n ≡ []
  where_some None fed = absurd (fed refl)
  where_some (Some k) fed = refl

  below_more : (is : List (FromEmitter T)) → ((k : ℕ) (a : FromEmitter T) → slice_get is k ≡ Some a → a.hub.0 < n) → (k : ℕ) (a : FromEmitter T) → slice_get is k ≡ Some a → a.hub.0 < n + 1
  below_more is h k a at = let lt = h k a at in omega (arith, lt)

  -- a hub that some feed feeds has none
  pub emitter_links_same : (o : EmitterLinks T) → (place_of feeds n ≡ None → ⊥) → AreEmitterLinks hubs feeds n o → AreEmitterLinks hubs feeds (n + 1) o
  emitter_links_same o fed h =
      let few = h.few in record {
        inlets = h.inlets;
        fresh = h.fresh;
        room = h.room;
        emitters = h.emitters;
        each = h.each;
        numbers = h.numbers ∙ (sym (append-nil (unfed feeds n)) ∙ (ap (λ l. unfed feeds n ++ l) (sym (where_some (place_of feeds n) fed)) ∙ ap (unfed feeds) (sym (add-one n))));
        below = below_more o.inlets.items h.below;
        few = omega (arith, few);
      }

  -- another one has one more
  pub emitter_links_more : (old new : EmitterLinks T) (x : EmitterLink T) (hub : HubState T) (number : ℕ) → place_of feeds n ≡ None → slice_get hubs n ≡ Some hub → number ≡ length old.links.items →
      IsEmitterLink (record { 0 = n }) number (accepted_items hub) (not (is_open hub.ending)) x → HasEmitterLink old x new → AreEmitterLinks hubs feeds n old → AreEmitterLinks hubs feeds (n + 1) new
  emitter_links_more old new x hub number none there count is more h =
      let few = h.few in
      let long : length new.links.items ≡ length (old.links.items ++ x.link ∷ []) = ap length more.links in
      let added = length-append old.links.items (x.link ∷ []) in
      let inlet : x.inlet.hub.0 ≡ n = ap (λ (i : HubId). i.0) is.takes.3 in
      let emitter : x.emitter.hub.0 ≡ n = ap (λ (i : HubId). i.0) is.names.0 in
      let counts : CountsOn hubs x.emitter = record { hub = hub; there = ap (slice_get hubs) emitter ∙ there; nothing = is.sends.1; accepted = is.counts.0; most = is.counts.1; ended = is.names.2 } in
      let lt : x.inlet.hub.0 < n + 1 = omega (arith, inlet) in record {
        inlets = inlets_more old.links.items new.links.items old.inlets.items new.inlets.items x.link x.inlet n more.links more.inlets is.takes.0 is.seat inlet h.below h.inlets;
        fresh = each_as NothingCame _ new.inlets.items more.inlets (each_push NothingCame old.inlets.items x.inlet (is.takes.1, is.takes.2) h.fresh);
        room = room_more old.links.items new.links.items x.link more.links is.room h.room;
        emitters = emitters_more old.links.items new.links.items old.inlets.items new.inlets.items old.emitters.items new.emitters.items x.link x.inlet x.emitter more.links more.inlets more.emitters (is.names.1 ∙ count) is.sends.0 (is.names.0 ∙ sym is.takes.3) h.emitters;
        each = each_as (CountsOn hubs) _ new.emitters.items more.emitters (each_push (CountsOn hubs) old.emitters.items x.emitter counts h.each);
        numbers = numbers_more old.emitters.items new.emitters.items x.emitter more.emitters emitter none h.numbers;
        below = each_as (λ (i : FromEmitter T). i.hub.0 < n + 1) _ new.inlets.items more.inlets (each_push (λ (i : FromEmitter T). i.hub.0 < n + 1) old.inlets.items x.inlet lt (below_more old.inlets.items h.below));
        few = omega (arith, few, long, added);
      }

least : (a b c d r : ℕ) → a ≡ c → b ≡ d → r ≡ min (a + b) (2 ^ 64 - 1) → min UNBOUNDED r ≡ min UNBOUNDED (c + d)
least a b c d r e f g = omega (arith, e, f, g)

-- a count that stops at the largest number counts as well
pub emitter_link_as : {T : Type 0} (id : HubId) (number a b r : ℕ) (hub : HubState T) (over is_over : Bool) (x : EmitterLink T) → a ≡ hub.count → b ≡ length hub.inbox → r ≡ min (a + b) (2 ^ 64 - 1) → over ≡ is_over → IsEmitterLink id number r over x → IsEmitterLink id number (accepted_items hub) is_over x
emitter_link_as id number a b r hub over is_over x e f g same h = record {
  names = (h.names.0, h.names.1, h.names.2 ∙ same);
  sends = h.sends;
  counts = (h.counts.0 ∙ least a b hub.count (length hub.inbox) r e f g, h.counts.1);
  takes = h.takes;
  seat = h.seat;
  room = h.room;
}

-- ---- which hubs are fed

abbrev chosen : Bool → Option ℕ → Option ℕ
chosen b o = if b then Some 0 else option_map suc o

unfed_first : (b : Bool) (o : Option ℕ) → b ≡ false → o ≡ None → chosen b o ≡ None
unfed_first true o e f = cc
unfed_first false o e f = ap (option_map suc) f

fed_first : (b : Bool) (o : Option ℕ) → b ≡ true → chosen b o ≡ None → ⊥
fed_first true o e none = cc
fed_first false o e none = cc

fed_later : (b : Bool) (o : Option ℕ) → (o ≡ None → ⊥) → chosen b o ≡ None → ⊥
fed_later true o fed none = cc
fed_later false None fed none = fed refl
fed_later false (Some k) fed none = cc

-- no feed names the hub
pub unfed_where : {M : Type 0} (feeds : List (Feed M)) (hub : ℕ) → ((k : ℕ) (f : Feed M) → slice_get feeds k ≡ Some f → f.hub ≡ hub → ⊥) → place_of feeds hub ≡ None
unfed_where [] hub none = refl
unfed_where (f ∷ fs) hub none = unfed_first (nat_eq f.hub hub) (place_of fs hub) (ne_eqb f.hub hub (none 0 f refl)) (unfed_where fs hub (λ k. none (suc k)))

-- one does
pub fed_by : {M : Type 0} (feeds : List (Feed M)) (k : ℕ) (f : Feed M) (hub : ℕ) → slice_get feeds k ≡ Some f → f.hub ≡ hub → place_of feeds hub ≡ None → ⊥
fed_by [] k f hub at e none = cc
fed_by {M} (g ∷ fs) zero f hub at e none = let same : g ≡ f = cc in fed_first (nat_eq g.hub hub) (place_of fs hub) (eq-eqb g.hub hub (ap (λ (x : Feed M). x.hub) same ∙ e)) none
fed_by (g ∷ fs) (suc k) f hub at e none = fed_later (nat_eq g.hub hub) (place_of fs hub) (fed_by fs k f hub at e) none

-- ---- the links of taps

no_next : (k n p : ℕ) → k ≡ n + p → k < n → ⊥
no_next k n p e lt = omega arith

module _ {M T : Type 0} (subs : List (Subscription M T)) (n : ℕ) where
  -- nothing was opened
  pub no_tap_links : (o : TapLinks T) → n ≡ 0 → o.links.items ≡ [] → o.taps.items ≡ [] → o.outlets.items ≡ [] → o.spare.items ≡ [] → AreTapLinks subs n 0 o
  no_tap_links o start ls ts os us = record {
    outlets = beside_none (λ k l (p : ToTap T). IsUpOf l p.up × IsPassedOn p) o.links.items o.outlets.items ls os;
    fresh = λ k p at. absurd (none_there o.outlets.items k p os at);
    room = λ k l at. absurd (none_there o.links.items k l ls at);
    taps = few_of IsTapAt o.links.items o.taps.items (beside_none IsTapAt o.links.items o.taps.items ls ts);
    carry = few_of Carried o.outlets.items o.taps.items (beside_none Carried o.outlets.items o.taps.items os ts);
    each = subst (λ k. BesideFirst TakesOver k subs o.taps.items) (sym start) (first_none TakesOver subs o.taps.items ts);
    ends = λ k s p lt at there. absurd (none_there o.outlets.items k p os there);
    spare = record {
      count = let a : length o.links.items ≡ 0 = ap length ls in let c : length o.spare.items ≡ 0 = ap length us in omega (arith, a, c, start);
      each = λ k l t at there. absurd (none_there o.spare.items k t us there);
    };
    count = ap length us;
    others = λ k p le at. absurd (none_there o.outlets.items k p os at);
  }

  -- the next subscription has one, too
  pub tap_links_more : (old new : TapLinks T) (x : TapLink T) (s : Subscription M T) → slice_get subs n ≡ Some s → IsTapLink (record { 0 = n }) n s.demand.asked (is_open_state (standing_of s)) x → HasTapLink old x new → AreTapLinks subs n 0 old → AreTapLinks subs (n + 1) 0 new
  tap_links_more old new x s there is more h =
      let total = h.spare.count in
      let none = h.count in
      let ends = h.outlets.count in
      let taken = h.each.count in
      let place : n ≡ length old.links.items = omega (arith, total, none) in
      let sent : n ≡ length old.outlets.items = omega (arith, place, ends) in
      let as_many : length old.taps.items ≡ length old.links.items = omega (arith, place, taken) in
      let as_sent : length old.taps.items ≡ length old.outlets.items = omega (arith, sent, taken) in
      let longer : length new.links.items ≡ length (old.links.items ++ x.link ∷ []) = ap length more.links in
      let longer_by = length-append old.links.items (x.link ∷ []) in
      let wider : length new.outlets.items ≡ length (old.outlets.items ++ x.outlet ∷ []) = ap length more.outlets in
      let wider_by = length-append old.outlets.items (x.outlet ∷ []) in
      let kept : length new.spare.items ≡ length old.spare.items = ap length more.spare in
      let takes : TakesOver s x.tap = record { gave = is.takes.1; state = is.takes.2; asked = is.asked.0; parts = is.seat.0; steps = (is.seat.1, is.seat.2) } in
      let sends : GoesOver s x.outlet = record { asked = is.asked.1; flags = is.passed.1 } in
      let sub : x.tap.sub.0 ≡ n = ap (λ (i : SubId). i.0) is.names.0 in
      record {
        outlets = beside_more (λ k l (p : ToTap T). IsUpOf l p.up × IsPassedOn p) old.links.items new.links.items old.outlets.items new.outlets.items x.link x.outlet more.links more.outlets (is.sends.0, is.passed.0) h.outlets;
        fresh = each_as (λ (p : ToTap T). sent_signals p.up ≡ []) _ new.outlets.items more.outlets (each_push (λ (p : ToTap T). sent_signals p.up ≡ []) old.outlets.items x.outlet is.sends.1 h.fresh);
        room = room_more old.links.items new.links.items x.link more.links is.room h.room;
        taps = few_of IsTapAt new.links.items new.taps.items (beside_more IsTapAt old.links.items new.links.items old.taps.items new.taps.items x.link x.tap more.links more.taps (is.names.1 ∙ place, sub ∙ place, is.takes.0) (few_all IsTapAt old.links.items old.taps.items as_many h.taps));
        carry = few_of Carried new.outlets.items new.taps.items (beside_more Carried old.outlets.items new.outlets.items old.taps.items new.taps.items x.outlet x.tap more.outlets more.taps is.carried (few_all Carried old.outlets.items old.taps.items as_sent h.carry));
        each = first_more TakesOver n subs old.taps.items new.taps.items s x.tap more.taps there takes h.each;
        ends = λ k a p lt at here. end_more old new x s there sends more.outlets sent h.ends k a p lt at here;
        spare = record {
          count = omega (arith, place, none, longer, longer_by, kept);
          each = λ k l t at here. let within = slice_get_within new.spare.items k t here in absurd (omega (arith, within, none, kept));
        };
        count = kept ∙ none;
        others = λ k p le here. let within = slice_get_within new.outlets.items k p here in absurd (omega (arith, within, le, wider, wider_by, sent));
      }
    where
      end_more : (old new : TapLinks T) (x : TapLink T) (s : Subscription M T) → slice_get subs n ≡ Some s → GoesOver s x.outlet → new.outlets.items ≡ old.outlets.items ++ x.outlet ∷ [] → n ≡ length old.outlets.items →
          ((k : ℕ) (a : Subscription M T) (p : ToTap T) → k < n → slice_get subs k ≡ Some a → slice_get old.outlets.items k ≡ Some p → GoesOver a p) → (k : ℕ) (a : Subscription M T) (p : ToTap T) → k < n + 1 → slice_get subs k ≡ Some a → slice_get new.outlets.items k ≡ Some p → GoesOver a p
      end_more old new x s there sends more long all k a p lt at here = elim (get_behind old.outlets.items x.outlet k p (ap (λ (l : List (ToTap T)). slice_get l k) (sym more) ∙ here)) [
        | inl u ↦ let within = slice_get_within old.outlets.items k p u in all k a p (omega (arith, within, long)) at u
        | inr u ↦
            let same : slice_get subs n ≡ slice_get subs k = ap (slice_get subs) (long ∙ sym u.0) in
            let one : s ≡ a = cc in
            subst (λ (y : Subscription M T). GoesOver y p) one (subst (λ (y : ToTap T). GoesOver s y) (sym u.1) sends)
      ]

  -- one more place for a subscription to come
  pub place_more : (old new : TapLinks T) (x : TapLink T) (p number : ℕ) → number ≡ n + p → IsTapLink (record { 0 = number }) number 0 true x → HasPlace old x new → AreTapLinks subs n p old → AreTapLinks subs n (p + 1) new
  place_more old new x p number place is more h =
      let total = h.spare.count in
      let before = h.count in
      let ends = h.outlets.count in
      let few = h.each.count in
      let longer : length new.links.items ≡ length (old.links.items ++ x.link ∷ []) = ap length more.links in
      let longer_by = length-append old.links.items (x.link ∷ []) in
      let kept : length new.spare.items ≡ length (old.spare.items ++ x.tap ∷ []) = ap length more.spare in
      let kept_by = length-append old.spare.items (x.tap ∷ []) in
      let number_is : number ≡ length old.links.items = omega (arith, place, total, before) in
      let spare : IsSpare number x.link x.tap = record { names = (ap (λ (i : SubId). i.0) is.names.0, is.names.1); takes = is.takes; asked = is.asked.0; seat = is.seat } in
      record {
        outlets = beside_more (λ k l (q : ToTap T). IsUpOf l q.up × IsPassedOn q) old.links.items new.links.items old.outlets.items new.outlets.items x.link x.outlet more.links more.outlets (is.sends.0, is.passed.0) h.outlets;
        fresh = each_as (λ (q : ToTap T). sent_signals q.up ≡ []) _ new.outlets.items more.outlets (each_push (λ (q : ToTap T). sent_signals q.up ≡ []) old.outlets.items x.outlet is.sends.1 h.fresh);
        room = room_more old.links.items new.links.items x.link more.links is.room h.room;
        taps = few_as IsTapAt (old.links.items ++ x.link ∷ []) new.links.items old.taps.items new.taps.items more.links more.taps (few_more IsTapAt old.links.items old.taps.items x.link h.taps);
        carry = few_as Carried (old.outlets.items ++ x.outlet ∷ []) new.outlets.items old.taps.items new.taps.items more.outlets more.taps (few_more Carried old.outlets.items old.taps.items x.outlet h.carry);
        each = subst (λ (l : List (Tap T)). BesideFirst TakesOver n subs l) (sym more.taps) h.each;
        ends = λ k a q lt at here. elim (get_behind old.outlets.items x.outlet k q (ap (λ (l : List (ToTap T)). slice_get l k) (sym more.outlets) ∙ here)) [
          | inl u ↦ h.ends k a q lt at u
          | inr u ↦ let e = u.0 in absurd (no_next k n p (omega (arith, e, ends, total, before)) lt)
        ];
        spare = record {
          count = omega (arith, total, longer, longer_by, kept, kept_by);
          each = λ k l t at here. spare_more old new x number p spare more.links more.spare h.spare (omega (arith, place, total, before)) before k l t at here;
        };
        count = omega (arith, before, kept, kept_by);
        others = λ k q le here. elim (get_behind old.outlets.items x.outlet k q (ap (λ (l : List (ToTap T)). slice_get l k) (sym more.outlets) ∙ here)) [
          | inl u ↦ h.others k q le u
          | inr u ↦ subst (λ (y : ToTap T). IsUnasked y) (sym u.1) (is.asked.1, is.passed.1)
        ];
      }
    where
      spare_more : (old new : TapLinks T) (x : TapLink T) (number p : ℕ) → IsSpare number x.link x.tap → new.links.items ≡ old.links.items ++ x.link ∷ [] → new.spare.items ≡ old.spare.items ++ x.tap ∷ [] → AreSpare old.links.items n old.spare.items → number ≡ length old.links.items → length old.spare.items ≡ p →
          (k : ℕ) (l : Link T) (t : Tap T) → slice_get new.links.items (n + k) ≡ Some l → slice_get new.spare.items k ≡ Some t → IsSpare (n + k) l t
      spare_more old new x number p mine links spare all count places k l t at here =
          let total = all.count in
          elim (get_behind old.spare.items x.tap k t (ap (λ (y : List (Tap T)). slice_get y k) (sym spare) ∙ here)) [
            | inl u ↦ elim (get_behind old.links.items x.link (n + k) l (ap (λ (y : List (Link T)). slice_get y (n + k)) (sym links) ∙ at)) [
              | inl v ↦ all.each k l t v u
              | inr v ↦ let within = slice_get_within old.spare.items k t u in let e = v.0 in absurd (omega (arith, within, e, total))
            ]
            | inr u ↦ elim (get_behind old.links.items x.link (n + k) l (ap (λ (y : List (Link T)). slice_get y (n + k)) (sym links) ∙ at)) [
              | inl v ↦ let within = slice_get_within old.links.items (n + k) l v in let e = u.0 in absurd (omega (arith, within, e, total))
              | inr v ↦ subst (λ (j : ℕ). IsSpare j l t) (count ∙ sym v.0) (subst (λ (y : Link T). IsSpare number y t) (sym v.1) (subst (λ (y : Tap T). IsSpare number x.link y) (sym u.1) mine))
            ]
          ]

-- ---- the graph between them

module _ {O T : Type 0} {b : Ops O T} (graph : Graph O T b) (emitters : EmitterLinks T) (taps : TapLinks T) (r : GraphRegion O T b) (es : AreEmitterLinks graph.hubs.items graph.feeds.items (length graph.hubs.items) emitters) (ts : AreTapLinks graph.subscriptions.items (length graph.subscriptions.items) (length taps.spare.items) taps) where
  abbrev Region : GraphRegion O T b
  Region = record r { graph = graph; inlets = emitters.inlets; outlets = taps.outlets; spare = taps.spare }

  abbrev Between : Links T
  Between = record { emitters = emitters.links; taps = taps.links }

  -- their ends are those of the links
  pub between : AreEndsOf Between Region
  between = record {
    inlets = es.inlets;
    outlets = ts.outlets;
    spare = spare_as taps.links.items (length graph.subscriptions.items) (length (state_of graph).joins) taps.spare.items taps.spare.items (length-map graph.joins.items (λ v. v.items) ∙ graph.joined) refl ts.spare;
  }

  -- it was put behind a gate
  pub begun : (s : SerializedGraph O T b) (first : Seat (GraphRegion O T b) (View (Opening O T b))) → r.pending.items ≡ [] → IsOpened Between Region s first → IsStartedOf graph (length taps.spare.items) (record { graph = s; seat = first; emitters = emitters.emitters; taps = taps.taps })
  begun s first none o =
      let moved : (P : Links T → GraphRegion O T b → Type 0) → P Between Region → P s.links (opened s) = λ P h. subst (λ (l : Links T). P l (opened s)) (sym o.over) (subst (λ (r : GraphRegion O T b). P Between r) (sym o.opening) h) in
      let fresh : IsFresh Between Region = record { inlets = es.fresh; outlets = ts.fresh; pending = none; emitters = es.room; taps = ts.room } in
      let total = ts.spare.count in
      let ends = ts.outlets.count in
      let parts : first.me.0.parts ≡ all_parts = ap (λ (v : View (Opening O T b)). v.parts) o.seat.1 in record {
        started = record {
          fresh = moved (λ l r. IsFresh l r) fresh;
          seat = o.seat.0;
          parts = omega (arith, parts);
          emitters = moved (λ l r. AreEmittersOf l.emitters.items r.inlets.items emitters.emitters.items) es.emitters;
          taps = moved (λ l r. AreTapsOf l.taps.items taps.taps.items) ts.taps;
        };
        functions = moved (λ l r. r.graph.ops ≡ graph.ops) refl;
        state = moved (λ l r. state_of r.graph ≡ state_of graph) refl;
        first = o.seat.1;
        hubs = es.numbers;
        emitters = es.each;
        taps = first_all TakesOver graph.subscriptions.items taps.taps.items ts.each;
        outlets = moved (λ l r. BesideFew (λ k (p : ToTap T) x. GoesOver x p) r.outlets.items graph.subscriptions.items) (record {
          few = omega (arith, total, ends);
          each = λ k p x at there. ts.ends k x p (slice_get_within graph.subscriptions.items k x there) there at;
        });
        links = moved (λ l r. length l.taps.items ≡ length graph.subscriptions.items + length taps.spare.items) (sym total);
        ends = moved (λ l r. length r.outlets.items ≡ length graph.subscriptions.items + length taps.spare.items) (ends ∙ sym total);
        others = moved (λ l r. (k : ℕ) (p : ToTap T) → length graph.subscriptions.items ≤ k → slice_get r.outlets.items k ≡ Some p → IsUnasked p) ts.others;
        carry = moved (λ l r. CarryAlike r.outlets.items taps.taps.items) ts.carry;
      }

-- the links are those of lists that are equal
pub emitter_links_of : {M T : Type 0} (hubs us : List (HubState T)) (feeds fs : List (Feed M)) (o : EmitterLinks T) → us ≡ hubs → fs ≡ feeds → AreEmitterLinks hubs feeds (length hubs) o → AreEmitterLinks us fs (length us) o
emitter_links_of {M} {T} hubs us feeds fs o e f h =
    let A : List (HubState T) → Type 0 = λ l. AreEmitterLinks l feeds (length l) o in
    let B : List (Feed M) → Type 0 = λ l. AreEmitterLinks us l (length us) o in
    subst B (sym f) (subst A (sym e) h)

pub tap_links_of : {M T : Type 0} (subs us : List (Subscription M T)) (places : ℕ) (o : TapLinks T) → us ≡ subs → AreTapLinks subs (length subs) places o → AreTapLinks us (length us) (length o.spare.items) o
tap_links_of {M} {T} subs us places o e h =
    let A : List (Subscription M T) → Type 0 = λ l. AreTapLinks l (length l) (length o.spare.items) o in
    subst A (sym e) (subst (λ (n : ℕ). AreTapLinks subs (length subs) n o) (sym h.count) h)

-- how many places there are
pub places_of : {M T : Type 0} (subs us : List (Subscription M T)) (wanted : ℕ) (o : TapLinks T) → us ≡ subs → AreTapLinks subs (length subs) (min wanted (min MOST_PLACES (MOST_SUBSCRIPTIONS - length subs))) o → length o.spare.items ≡ min wanted (min MOST_PLACES (MOST_SUBSCRIPTIONS - length us))
places_of subs us wanted o e h = h.count ∙ ap (λ l. min wanted (min MOST_PLACES (MOST_SUBSCRIPTIONS - length l))) (sym e)

-- the same of a graph with the same pieces
module _ {O T : Type 0} {b : Ops O T} (graph again : Graph O T b) (p : Pieces O T b) (one : ArePiecesOf graph p) (two : ArePiecesOf again p) where
  pub again_as : state_of again ≡ state_of graph → ComesBack graph again
  again_as same = (sym two.ops ∙ one.ops, same)

  pub back_as : (g : Graph O T b) → state_of again ≡ state_of graph → g ≡ again → ComesBack graph g
  back_as g same is = subst (λ (x : Graph O T b). ComesBack graph x) (sym is) (again_as same)

  pub again_started : (n m : ℕ) (s : StartedGraph O T b) → state_of again ≡ state_of graph → m ≡ n → IsStartedOf again m s → IsStartedOf graph n s
  again_started n m s same places is =
      let hubs : again.hubs.items ≡ graph.hubs.items = ap (λ v. v.items) (sym two.hubs ∙ one.hubs) in
      let feeds : again.feeds.items ≡ graph.feeds.items = ap (λ v. v.items) (sym two.feeds ∙ one.feeds) in
      let subs : again.subscriptions.items ≡ graph.subscriptions.items = ap (λ v. v.items) (sym two.subs ∙ one.subs) in
      let count : length again.subscriptions.items + m ≡ length graph.subscriptions.items + n = ap (λ l. length l + m) subs ∙ ap (λ k. length graph.subscriptions.items + k) places in record {
        started = is.started;
        functions = is.functions ∙ (sym two.ops ∙ one.ops);
        state = is.state ∙ same;
        first = is.first;
        hubs = is.hubs ∙ (ap (λ fs. unfed fs (length again.hubs.items)) feeds ∙ ap (λ hs. unfed graph.feeds.items (length hs)) hubs);
        emitters = λ k e at. subst (λ (hs : List (HubState T)). CountsOn hs e) hubs (is.emitters k e at);
        taps = beside_as (λ k. TakesOver) again.subscriptions.items graph.subscriptions.items s.taps.items s.taps.items (sym subs) refl is.taps;
        outlets = few_as (λ k (p : ToTap T) x. GoesOver x p) (opened s.graph).outlets.items (opened s.graph).outlets.items again.subscriptions.items graph.subscriptions.items refl (sym subs) is.outlets;
        links = is.links ∙ count;
        ends = is.ends ∙ count;
        others = λ k o le at. is.others k o (subst (λ (z : ℕ). z ≤ k) (ap length (sym subs)) le) at;
        carry = is.carry;
      }
