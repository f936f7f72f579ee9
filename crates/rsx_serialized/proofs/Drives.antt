-- Emitters and taps of which one changes, and the graph that stays behind its gate with them.
use Rattle.std.proofs.Common.{◌≡◌, ℕ, ◌<◌, List, length, ap, sym, ◌∙◌, subst, arith, refl, ℤ, Option, Some, slice_get, slice_index_or, slice_set, Vec, Global}
use Rattle.std.proofs.lemmas.Option.{slice_get_read, slice_get_within}
use Rattle.atomic_table.specs.declared.shared.Seat.{Seat}
use Rattle.rsx_types.specs.declared.names.HubId.{HubId}
use Rattle.rsx_types.specs.declared.names.SubId.{SubId}
use Rattle.rsx_types.specs.declared.ops.Ops.{Ghosts as Ops}
use Rattle.rsx_types.specs.declared.signal.Signal.{Signal}
use Rattle.rsx_gate.specs.Seats.{IsSeatOf}
use Rattle.rsx_gate.specs.declared.view.View.{View}
use Rattle.rsx_link.specs.Ends.{IsUpOf}
use Rattle.rsx_link.specs.declared.link.Link.{Link}
use Rattle.rsx_runtime.specs.Emitting.{KeepsEmitter}
use Rattle.rsx_runtime.specs.Poking.{IsAmong}
use Rattle.rsx_runtime.specs.Tapping.{IsTapOf, KeepsTap}
use Rattle.rsx_runtime.specs.declared.emitter.Emitter.{Emitter}
use Rattle.rsx_runtime.specs.declared.tap.Tap.{Tap}
use Rattle.rsx_serialized.specs.Calls.{IsAt}
use Rattle.rsx_serialized.specs.Driven.{ChangesAt, EmitterChanges, TapRequests}
use Rattle.rsx_serialized.specs.Started.{AreEmittersOf, AreTapsOf, IsStarted, IsTapAt}
use Rattle.rsx_serialized.specs.declared.ends.FromEmitter.{FromEmitter}
use Rattle.rsx_serialized.specs.declared.opening.Opening.{Opening}
use Rattle.rsx_serialized.specs.declared.region.GraphRegion.{GraphRegion}
use Rattle.rsx_serialized.specs.declared.starting.StartedGraph.{StartedGraph}
use Rattle.rsx_serialized.proofs.Lists.{beside_set, few_set, there}

-- ---- lists

-- what was read at a place
module _ {X : Type 0} (P : X → Type 0) (xs : List X) (i : ℕ) (x : X) (among : IsAmong xs i P) (read : x ≡ slice_index_or xs i x) where
  read_at : slice_get xs i ≡ Some x
  read_at = slice_get_read xs (length xs) i x refl (slice_get_within xs i among.0 among.1) read

  -- what is so of the one at the place is so of it
  so_read : P x
  so_read =
      let at = read_at in
      let here = among.1 in
      let same : among.0 ≡ x = cc in
      subst P same among.2

  -- it alone changed
  put_at : (K did : X → X → Type 0) (next : X) → K x next → did x next → ChangesAt i xs (slice_set xs i next) (λ a b. K a b × did a b)
  put_at K did next keeps done = record { was = x; now = next; there = read_at; put = refl; done = (keeps, done) }

abbrev pub changes_did : {X : Type 0} (i : ℕ) (xs ys : List X) (K did : X → X → Type 0) → ChangesAt i xs ys (λ a b. K a b × did a b) → ChangesAt i xs ys did
changes_did i xs ys K did ch = record { was = ch.was; now = ch.now; there = ch.there; put = ch.put; done = ch.done.1 }

-- an emitter that was read at a place, of emitters each of which is over its link
module _ {T : Type 0} (links : List (Link T)) (es : List (Emitter T)) (place : ℕ) (e : Emitter T) (among : IsAmong es place (λ x. IsAt links x.link (λ l. IsUpOf l x.up))) (read : e ≡ slice_index_or es place e) where
  pub emitter_read : IsAt links e.link (λ l. IsUpOf l e.up)
  emitter_read = so_read (λ x. IsAt links x.link (λ l. IsUpOf l x.up)) es place e among read

  -- it alone changed
  pub emitter_moved : (next : Emitter T) (did : Emitter T → Emitter T → Type 0) → IsAt links e.link (λ l. KeepsEmitter l e next) → did e next → ChangesAt place es (slice_set es place next) (λ x y. IsAt links x.link (λ l. KeepsEmitter l x y) × did x y)
  emitter_moved next did keeps done = put_at (λ x. IsAt links x.link (λ l. IsUpOf l x.up)) es place e among read (λ x y. IsAt links x.link (λ l. KeepsEmitter l x y)) did next keeps done

-- the same of a tap
module _ {T : Type 0} (links : List (Link T)) (ts : List (Tap T)) (place : ℕ) (t : Tap T) (among : IsAmong ts place (λ x. IsAt links x.link (λ l. IsTapOf l x))) (read : t ≡ slice_index_or ts place t) where
  pub tap_read : IsAt links t.link (λ l. IsTapOf l t)
  tap_read = so_read (λ x. IsAt links x.link (λ l. IsTapOf l x)) ts place t among read

  pub tap_moved : (next : Tap T) (did : Tap T → Tap T → Type 0) → IsAt links t.link (λ l. KeepsTap l t next) → did t next → ChangesAt place ts (slice_set ts place next) (λ x y. IsAt links x.link (λ l. KeepsTap l x y) × did x y)
  tap_moved next did keeps done = put_at (λ x. IsAt links x.link (λ l. IsTapOf l x)) ts place t among read (λ x y. IsAt links x.link (λ l. KeepsTap l x y)) did next keeps done

module _ {T : Type 0} (links : List (Link T)) where
  one_link : (k n : ℕ) (l m : Link T) → n ≡ k → slice_get links n ≡ Some l → slice_get links k ≡ Some m → l ≡ m
  one_link k n l m e at here = let same : slice_get links n ≡ slice_get links k = ap (slice_get links) e in cc

  -- ---- emitters

  module _ (is : List (FromEmitter T)) (es : List (Emitter T)) (h : AreEmittersOf links is es) where
    -- each is over its link
    pub emitter_over : (k : ℕ) (e : Emitter T) → slice_get es k ≡ Some e → IsAt links e.link (λ l. IsUpOf l e.up)
    emitter_over k e at =
        let within = slice_get_within es k e at in
        let long = h.ends.count in
        let l = there links k (omega (arith, within, long)) in
        let own = h.ends.each k l.0 e l.1 at in
        (l.0, ap (slice_get links) own.0 ∙ l.1, own.1)

    emitter_put : (place : ℕ) (was now : Emitter T) → slice_get es place ≡ Some was → IsAt links was.link (λ l. KeepsEmitter l was now) → AreEmittersOf links is (slice_set es place now)
    emitter_put place was now at keeps =
        let E : ℕ → Link T → Emitter T → Type 0 = λ k l e. (e.link ≡ k) × IsUpOf l e.up in
        let H : ℕ → FromEmitter T → Emitter T → Type 0 = λ k i e. e.hub ≡ i.hub in record {
          ends = beside_set E E links es place now
              (λ l e.
              let own = h.ends.each place l was e at in
              let same = one_link place was.link keeps.0 l own.0 keeps.1 e in
              (keeps.2.2 ∙ own.0, subst (λ (x : Link T). IsUpOf x now.up) same keeps.2.0.0))
              (λ k x y apart e f p. p) h.ends;
          hubs = beside_set H H is es place now (λ i e. keeps.2.1 ∙ h.hubs.each place i was e at) (λ k x y apart e f p. p) h.hubs;
        }

    -- one changed, over its link
    pub emitters_put : (fs : List (Emitter T)) (place : ℕ) (did : Emitter T → Emitter T → Type 0) → ChangesAt place es fs (λ was now. IsAt links was.link (λ l. KeepsEmitter l was now) × did was now) → AreEmittersOf links is fs
    emitters_put fs place did ch = subst (λ (l : List (Emitter T)). AreEmittersOf links is l) (sym ch.put) (emitter_put place ch.was ch.now ch.there ch.done.0)

  -- ---- taps

  module _ (ts : List (Tap T)) (h : AreTapsOf links ts) where
    -- there is one at each place within, which is over its link
    pub tap_over : (k : ℕ) → k < length ts → IsAmong ts k (λ t. IsAt links t.link (λ l. IsTapOf l t))
    tap_over k within =
        let few = h.few in
        let l = there links k (omega (arith, within, few)) in
        let t = there ts k within in
        let own = h.each k l.0 t.0 l.1 t.1 in
        (t.0, t.1, (l.0, ap (slice_get links) own.0 ∙ l.1, own.2))

    tap_put : (place : ℕ) (was now : Tap T) → slice_get ts place ≡ Some was → IsAt links was.link (λ l. KeepsTap l was now) → AreTapsOf links (slice_set ts place now)
    tap_put place was now at keeps =
        few_set IsTapAt links ts place now
        (λ l e.
        let own = h.each place l was e at in
        let same = one_link place was.link keeps.0 l own.0 keeps.1 e in
        (keeps.2.2 ∙ own.0, ap (λ (x : SubId). x.0) keeps.2.1 ∙ own.1, subst (λ (x : Link T). IsTapOf x now) same keeps.2.0))
        h

    -- one changed, over its link
    pub taps_put : (us : List (Tap T)) (place : ℕ) (did : Tap T → Tap T → Type 0) → ChangesAt place ts us (λ was now. IsAt links was.link (λ l. KeepsTap l was now) × did was now) → AreTapsOf links us
    taps_put us place did ch = subst (λ (l : List (Tap T)). AreTapsOf links l) (sym ch.put) (tap_put place ch.was ch.now ch.there ch.done.0)

-- ---- the graph

module _ {O T : Type 0} {b : Ops O T} (s : StartedGraph O T b) (is : IsStarted s) where
  -- the emitter of a hub was found at a place, among emitters that are seen through a reference
  module _ (hub : HubId) (seen : List (Emitter T)) (place : ℕ) (same : seen ≡ s.emitters.items) (found : IsAmong seen place (λ e. e.hub ≡ hub)) where
    here : slice_get s.emitters.items place ≡ Some found.0
    here = ap (λ (l : List (Emitter T)). slice_get l place) (sym same) ∙ found.1

    -- it is over its link
    pub emitter_found : IsAmong s.emitters.items place (λ e. IsAt s.graph.links.emitters.items e.link (λ l. IsUpOf l e.up))
    emitter_found = (found.0, here, emitter_over s.graph.links.emitters.items _ s.emitters.items is.emitters place found.0 here)

    pub emitter_changed : (fs : List (Emitter T)) (K did : Emitter T → Emitter T → Type 0) → ChangesAt place s.emitters.items fs (λ was now. K was now × did was now) → EmitterChanges hub s.emitters.items fs did
    emitter_changed fs K did ch =
        let at = here in
        let there = ch.there in
        let one : found.0 ≡ ch.was = cc in record {
          place = place;
          changes = changes_did place s.emitters.items fs K did ch;
          named = ap (λ (e : Emitter T). e.hub) (sym one) ∙ found.2;
        }

  pub emitters_started : (now : Vec (Emitter T) Global) (place : ℕ) (did : Emitter T → Emitter T → Type 0) → ChangesAt place s.emitters.items now.items (λ x y. IsAt s.graph.links.emitters.items x.link (λ l. KeepsEmitter l x y) × did x y) → IsStarted (record s { emitters = now })
  emitters_started now place did ch = record { fresh = is.fresh; seat = is.seat; parts = is.parts; emitters = emitters_put s.graph.links.emitters.items _ s.emitters.items is.emitters now.items place did ch; taps = is.taps }

  -- there is a tap at each place within
  pub tap_found : (place : ℕ) → place < length s.taps.items → IsAmong s.taps.items place (λ t. IsAt s.graph.links.taps.items t.link (λ l. IsTapOf l t))
  tap_found place less = tap_over s.graph.links.taps.items s.taps.items is.taps place less

  pub taps_started : (now : Vec (Tap T) Global) (place : ℕ) (did : Tap T → Tap T → Type 0) → ChangesAt place s.taps.items now.items (λ x y. IsAt s.graph.links.taps.items x.link (λ l. KeepsTap l x y) × did x y) → IsStarted (record s { taps = now })
  taps_started now place did ch = record { fresh = is.fresh; seat = is.seat; parts = is.parts; emitters = is.emitters; taps = taps_put s.graph.links.taps.items s.taps.items is.taps now.items place did ch }

  pub seat_started : (seat : Seat (GraphRegion O T b) (View (Opening O T b))) → IsSeatOf s.graph.gate seat → seat.me.0.parts ≡ s.seat.me.0.parts → IsStarted (record s { seat = seat })
  seat_started seat own parts =
      let all = is.parts in
      record { fresh = is.fresh; seat = own; parts = omega (arith, all, parts); emitters = is.emitters; taps = is.taps }

pub requests_as : {T : Type 0} (m n : ℤ) (result : Option (Signal T)) (old new : Tap T) → m ≡ n → TapRequests m result old new → TapRequests n result old new
requests_as m n result old new same did = subst (λ (z : ℤ). TapRequests z result old new) same did

pub requests_put : {T : Type 0} (m n : ℤ) (result : Option (Signal T)) (place : ℕ) (old new : List (Tap T)) → m ≡ n → ChangesAt place old new (TapRequests m result) → ChangesAt place old new (TapRequests n result)
requests_put m n result place old new same ch = record { was = ch.was; now = ch.now; there = ch.there; put = ch.put; done = requests_as m n result ch.was ch.now same ch.done }
