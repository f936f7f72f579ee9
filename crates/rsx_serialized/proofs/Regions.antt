-- What single steps of a region do to its ends.
use Rattle.std.proofs.Common.{◌≡◌, inl, inr, ℕ, ◌+◌, ◌≤◌, ◌<◌, Bool, true, false, ◌||◌, List, [], ◌∷◌, ◌++◌, map, length, refl, ap, sym, ◌∙◌, subst, arith, get_or, Result, Some, slice_get, slice_set}
use Rattle.std.proofs.lemmas.Grind.{flat_map-append}
use Rattle.std.proofs.lemmas.Option.{slice_get_read}
use Rattle.std.proofs.lemmas.List.{append-nil}
use Rattle.rsx_demand.specs.declared.TheConstants.{UNBOUNDED}
use Rattle.rsx_types.specs.declared.names.HubId.{HubId}
use Rattle.rsx_types.specs.declared.names.SubId.{SubId}
use Rattle.rsx_types.specs.declared.ops.Ops.{Ghosts as Ops}
use Rattle.rsx_types.specs.declared.signal.Signal.{Signal}
use Rattle.rsx_graph.specs.InGraph.{HasPumpedIn, state_of}
use Rattle.rsx_graph.specs.Rows.{History, Made, delivered_by}
use Rattle.rsx_graph.specs.Stands.{GraphStands}
use Rattle.rsx_graph.specs.declared.graph.Graph.{Graph}
use Rattle.rsx_graph_state.specs.declared.refusal.Refusal.{Refusal}
use Rattle.rsx_graph_state.specs.declared.step.Pumped.{Pumped}
use Rattle.rsx_link.specs.Ends.{IsCancelSeatOf, IsDownOf, IsUpOf, carried_up, received_signals, sent_signals, up_steps}
use Rattle.rsx_link.specs.Steps.{flags_of, has_cancel, has_refusal}
use Rattle.rsx_link.specs.declared.cancel.CancelSeat.{CancelSeat}
use Rattle.rsx_link.specs.declared.link.Link.{Link}
use Rattle.rsx_runtime.specs.declared.tap.Tap.{Tap}
use Rattle.rsx_subscriber.specs.Delivered.{Delivered}
use Rattle.rsx_serialized.specs.Ends.{Beside, InletGoes, IsPassedOn, OutletGoes, held, is_flagged}
use Rattle.rsx_serialized.specs.Events.{AreFor, AreKnown, Event, asked_in, given_in, moved, published_in, signal_for, signals_for, stopped_in, subscribed_in}
use Rattle.rsx_serialized.specs.Regions.{AreEndsOf, AreInletsOf, AreOutletsOf, AreSpare, Goes, GoesBy, GoesOn, OutletsGo, StandsSince, TakesIn}
use Rattle.rsx_serialized.specs.Sending.{IsFirstFor, IsOffered, SendsFirst}
use Rattle.rsx_serialized.specs.Told.{publishes}
use Rattle.rsx_serialized.specs.declared.ends.FromEmitter.{FromEmitter}
use Rattle.rsx_serialized.specs.declared.ends.ToTap.{ToTap}
use Rattle.rsx_serialized.specs.declared.region.GraphRegion.{GraphRegion}
use Rattle.rsx_serialized.specs.declared.region.Links.{Links}
use Rattle.rsx_serialized.proofs.Known.{as_many, for_all, moves_for, moves_known, moves_subscribed, publishes_known, publishes_subscribed, told_known, told_subscribed}
use Rattle.rsx_serialized.proofs.Lists.{beside_same, beside_set, set_cases}
use Rattle.rsx_serialized.proofs.Steps.{moves_after, moves_asked, moves_given, moves_published, moves_stopped, publishes_asked, publishes_elsewhere, publishes_given, publishes_here, publishes_stopped, sent_elsewhere, sent_here, told, told_asked, told_given, told_others, told_published, told_stopped}

within_links : (at n m links outlets : ℕ) → at < n → n + m ≡ links → outlets ≡ links → at < outlets
within_links at n m links outlets lt e f = omega arith

module _ {T : Type 0} where
  -- the spare taps are those of as many subscriptions
  pub spare_as : (ls : List (Link T)) (n m : ℕ) (ts us : List (Tap T)) → m ≡ n → us ≡ ts → AreSpare ls n ts → AreSpare ls m us
  spare_as ls n m ts us e f h = subst (λ (k : ℕ). AreSpare ls k us) (sym e) (subst (λ (l : List (Tap T)). AreSpare ls n l) (sym f) h)

  -- no subscription was made
  none_new : (n m : ℕ) (es : List (Event T)) → m ≡ n → subscribed_in es ≡ [] → m ≡ n + length (subscribed_in es)
  none_new n m es e f = let none : length (subscribed_in es) ≡ 0 = ap length f in omega (arith, e, none)

  -- ---- one end

  -- an end to which nothing happened
  pub outlet_still : (k : ℕ) (es : List (Event T)) (before after : List (SubId × Signal T)) (a : ToTap T) → signals_for k before ++ given_in k es ≡ signals_for k after → asked_in k a.asked es ≡ a.asked → (stopped_in k es ≡ true → ⊥) → OutletGoes k es before after a a
  outlet_still k es before after a d n s = record {
    carried = refl;
    sent = [];
    signals = sym (append-nil (sent_signals a.up));
    delivered = d;
    asked = sym n;
    flagged = λ h. h;
    stopped = λ h. absurd (s h);
  }

  pub inlet_still : (es : List (Event T)) (a : FromEmitter T) → published_in a.hub.0 es ≡ [] → InletGoes es a a
  inlet_still es a none = record {
    hub = refl;
    came = [];
    received = sym (append-nil (received_signals a.down));
    published = append-nil (held a) ∙ ap (λ l. l ++ held a) (sym none);
    seat = refl;
  }

  -- the ends that send, of which one went on
  outlets_set : (es : List (Event T)) (before after : List (SubId × Signal T)) (os : List (ToTap T)) (at : ℕ) (o p : ToTap T) → slice_get os at ≡ Some o → OutletGoes at es before after o p →
      ((k : ℕ) (a : ToTap T) → (k ≡ at → ⊥) → slice_get os k ≡ Some a → OutletGoes k es before after a a) → OutletsGo es before after os (slice_set os at p)
  outlets_set es before after os at o p there here others =
      beside_set (λ k x y. x ≡ y) (λ k. OutletGoes k es before after) os os at p
      (λ x e. let same : o ≡ x = cc in subst (λ (a : ToTap T). OutletGoes at es before after a p) same here)
      (λ k x y apart e f same. subst (λ (a : ToTap T). OutletGoes k es before after x a) same (others k x apart e))
      (beside_same (λ k x y. x ≡ y) os (λ k x e. refl))

  -- they are those of their links still
  outlets_of_set : (ls : List (Link T)) (os : List (ToTap T)) (at : ℕ) (p : ToTap T) → ((l : Link T) → slice_get ls at ≡ Some l → IsUpOf l p.up × IsPassedOn p) → AreOutletsOf ls os → AreOutletsOf ls (slice_set os at p)
  outlets_of_set ls os at p here h =
      let P : ℕ → Link T → ToTap T → Type 0 = λ k l o. IsUpOf l o.up × IsPassedOn o in
      beside_set P P ls os at p here (λ k x y apart e f g. g) h

  -- ---- the ends at a place

  pub outlet_at : (os : List (ToTap T)) (at : ℕ) (o : ToTap T) → at < length os → o ≡ get_or os at o → slice_get os at ≡ Some o
  outlet_at os at o lt e = slice_get_read os (length os) at o refl lt e

  link_at : (ls : List (Link T)) (at n : ℕ) (l : Link T) → n ≡ length ls → at < n → l ≡ get_or ls at l → slice_get ls at ≡ Some l
  link_at ls at n l long lt e = slice_get_read ls n at l long lt e

  pub outlet_there : (ls : List (Link T)) (os : List (ToTap T)) (at : ℕ) (l : Link T) (o : ToTap T) → AreOutletsOf ls os → at < length os → l ≡ get_or ls at l → o ≡ get_or os at o → IsUpOf l o.up × IsPassedOn o
  outlet_there ls os at l o all lt e f = all.each at l o (link_at ls at (length os) l all.count lt e) (outlet_at os at o lt f)

  pub only_at : (ls : List (Link T)) (os : List (ToTap T)) (at : ℕ) (l : Link T) (p : ToTap T) → AreOutletsOf ls os → at < length os → l ≡ get_or ls at l → IsUpOf l p.up × IsPassedOn p → (k : Link T) → slice_get ls at ≡ Some k → IsUpOf k p.up × IsPassedOn p
  only_at ls os at l p all lt e h k f =
      let g = link_at ls at (length os) l all.count lt e in
      let same : l ≡ k = cc in
      subst (λ (x : Link T). IsUpOf x p.up × IsPassedOn p) same h

  pub inlet_at : (is : List (FromEmitter T)) (at : ℕ) (i : FromEmitter T) → at < length is → i ≡ get_or is at i → slice_get is at ≡ Some i
  inlet_at is at i lt e = slice_get_read is (length is) at i refl lt e

  pub inlet_only : (ls : List (Link T)) (is : List (FromEmitter T)) (at : ℕ) (l : Link T) (j : FromEmitter T) → AreInletsOf ls is → at < length is → l ≡ get_or ls at l → IsDownOf l j.down → (k : Link T) → slice_get ls at ≡ Some k → IsDownOf k j.down
  inlet_only ls is at l j all lt e h k f =
      let g = link_at ls at (length is) l all.ends.count lt e in
      let same : l ≡ k = cc in
      subst (λ (x : Link T). IsDownOf x j.down) same h

  pub inlet_there : (ls : List (Link T)) (is : List (FromEmitter T)) (at : ℕ) (l : Link T) (i : FromEmitter T) → AreInletsOf ls is → at < length is → l ≡ get_or ls at l → i ≡ get_or is at i → IsDownOf l i.down
  inlet_there ls is at l i all lt e f = (all.ends.each at l i (link_at ls at (length is) l all.ends.count lt e) (inlet_at is at i lt f)).0

  pub first_some : (n : ℕ) (ds : List (SubId × Signal T)) → IsFirstFor n ds → 0 < length ds
  first_some n [] h = absurd h
  first_some n (d ∷ ds) h = omega arith

  -- ---- moves

  pub pump_inlets : (es : List (Event T)) (is : List (FromEmitter T)) → ((k : ℕ) → published_in k es ≡ []) → Beside (λ k. InletGoes es) is is
  pump_inlets es is none = beside_same (λ k. InletGoes es) is (λ k a e. inlet_still es a (none a.hub.0))

module _ {O T : Type 0} {b : Ops O T} where
  -- each subscription has an end
  pub outlet_within : (links : Links T) (r : GraphRegion O T b) (at : ℕ) → AreEndsOf links r → at < length (state_of r.graph).joins → at < length r.outlets.items
  outlet_within links r at ends lt = within_links at (length (state_of r.graph).joins) (length r.spare.items) (length links.taps.items) (length r.outlets.items) lt ends.spare.count ends.outlets.count

  -- a step that changes one end that sends
  outlet_goes : (links : Links T) (es : List (Event T)) (r s : GraphRegion O T b) (at : ℕ) (o p : ToTap T) → AreEndsOf links r → s.graph.ops ≡ r.graph.ops → (state_of s.graph).joins ≡ (state_of r.graph).joins → StandsSince (b.meaning r.graph.ops) es (state_of r.graph) (state_of s.graph) →
      s.inlets.items ≡ r.inlets.items → s.outlets.items ≡ slice_set r.outlets.items at p → slice_get r.outlets.items at ≡ Some o → ((l : Link T) → slice_get links.taps.items at ≡ Some l → IsUpOf l p.up × IsPassedOn p) →
      ((k : ℕ) → published_in k es ≡ []) → OutletGoes at es r.pending.items s.pending.items o p → ((k : ℕ) (a : ToTap T) → (k ≡ at → ⊥) → slice_get r.outlets.items k ≡ Some a → OutletGoes k es r.pending.items s.pending.items a a) → ((n : ℕ) → AreFor n r.pending.items → AreFor n s.pending.items) →
      s.spare.items ≡ r.spare.items → subscribed_in es ≡ [] → AreKnown (length (state_of r.graph).joins) es → AreEndsOf links s × GoesBy (b.meaning r.graph.ops) es r s
  outlet_goes links es r s at o p ends ops joins stands ins outs there up none here others known spare alone knows = (
    record {
      inlets = subst (λ (l : List (FromEmitter T)). AreInletsOf links.emitters.items l) (sym ins) ends.inlets;
      outlets = subst (λ (l : List (ToTap T)). AreOutletsOf links.taps.items l) (sym outs) (outlets_of_set links.taps.items r.outlets.items at p up ends.outlets);
      spare = spare_as links.taps.items (length (state_of r.graph).joins) (length (state_of s.graph).joins) r.spare.items s.spare.items (ap length joins) spare ends.spare;
    },
    record {
      ops = ops;
      stands = stands;
      subs = none_new (length (state_of r.graph).joins) (length (state_of s.graph).joins) es (ap length joins) alone;
      events = knows;
      inlets = subst (λ (l : List (FromEmitter T)). Beside (λ k. InletGoes es) r.inlets.items l) (sym ins) (pump_inlets es r.inlets.items none);
      outlets = subst (λ (l : List (ToTap T)). OutletsGo es r.pending.items s.pending.items r.outlets.items l) (sym outs) (outlets_set es r.pending.items s.pending.items r.outlets.items at o p there here others);
      known = λ h. subst (λ (n : ℕ). AreFor n s.pending.items) (ap length (sym joins)) (known (length (state_of r.graph).joins) h);
    },
  )

  outlet_step : (links : Links T) (es : List (Event T)) (r s : GraphRegion O T b) (at : ℕ) (o p : ToTap T) → AreEndsOf links r → s.graph.ops ≡ r.graph.ops → (state_of s.graph).joins ≡ (state_of r.graph).joins → StandsSince (b.meaning r.graph.ops) es (state_of r.graph) (state_of s.graph) →
      s.inlets.items ≡ r.inlets.items → s.outlets.items ≡ slice_set r.outlets.items at p → slice_get r.outlets.items at ≡ Some o → ((l : Link T) → slice_get links.taps.items at ≡ Some l → IsUpOf l p.up × IsPassedOn p) →
      ((k : ℕ) → published_in k es ≡ []) → OutletGoes at es r.pending.items s.pending.items o p → ((k : ℕ) (a : ToTap T) → (k ≡ at → ⊥) → slice_get r.outlets.items k ≡ Some a → OutletGoes k es r.pending.items s.pending.items a a) → ((n : ℕ) → AreFor n r.pending.items → AreFor n s.pending.items) →
      s.spare.items ≡ r.spare.items → subscribed_in es ≡ [] → AreKnown (length (state_of r.graph).joins) es → GoesOn links r s
  outlet_step links es r s at o p ends ops joins stands ins outs there up none here others known spare alone knows =
      let h = outlet_goes links es r s at o p ends ops joins stands ins outs there up none here others known spare alone knows in
      (h.0, (es, h.1))

  -- a tap was looked at, and the graph was told of it
  pub look_step : (links : Links T) (r s : GraphRegion O T b) (at n : ℕ) (flag : Bool) (i : SubId) (o p : ToTap T) → AreEndsOf links r → s.graph.ops ≡ r.graph.ops → (state_of s.graph).joins ≡ (state_of r.graph).joins → StandsSince (b.meaning r.graph.ops) (told i n flag) (state_of r.graph) (state_of s.graph) →
      s.inlets.items ≡ r.inlets.items → s.outlets.items ≡ slice_set r.outlets.items at p → s.pending.items ≡ r.pending.items → slice_get r.outlets.items at ≡ Some o → ((l : Link T) → slice_get links.taps.items at ≡ Some l → IsUpOf l p.up × IsPassedOn p) →
      i.0 ≡ at → p.asked ≡ o.asked + n → p.asked ≤ UNBOUNDED → flag ≡ is_flagged p.up → (is_flagged o.up ≡ true → is_flagged p.up ≡ true) → sent_signals p.up ≡ sent_signals o.up → carried_up p.up ≡ carried_up o.up →
      s.spare.items ≡ r.spare.items → at < length (state_of r.graph).joins → AreEndsOf links s × GoesBy (b.meaning r.graph.ops) (told i n flag) r s
  look_step links r s at n flag i o p ends ops joins stands ins outs waits there up is asked most stopped stays sent carried spare lt =
      let es : List (Event T) = told i n flag in
      let most' : o.asked + n ≤ UNBOUNDED = subst (λ (x : ℕ). x ≤ UNBOUNDED) asked most in
      let got : (k : ℕ) → signals_for k r.pending.items ++ given_in k es ≡ signals_for k s.pending.items = λ k. ap (λ l. signals_for k r.pending.items ++ l) (told_given T i n flag k) ∙ (append-nil (signals_for k r.pending.items) ∙ ap (signals_for k) (sym waits)) in
      let total : asked_in at o.asked es ≡ o.asked + n = subst (λ (x : ℕ). asked_in x o.asked es ≡ o.asked + n) is (told_asked T i n flag o.asked most') in
      outlet_goes links es r s at o p ends ops joins stands ins outs there up (λ k. told_published T i n flag k)
      (record {
        carried = carried;
        sent = [];
        signals = sent ∙ sym (append-nil (sent_signals o.up));
        delivered = got at;
        asked = asked ∙ sym total;
        flagged = stays;
        stopped = λ h. sym stopped ∙ (told_stopped T i n flag at h).1;
      })
      (λ k a apart e. outlet_still k es r.pending.items s.pending.items a (got k) (told_others T i n flag k a.asked (λ h. apart (sym h ∙ is))) (λ h. apart (sym (told_stopped T i n flag k h).0 ∙ is)))
      (λ k h. subst (λ (l : List (SubId × Signal T)). AreFor k l) (sym waits) h)
      spare (told_subscribed T i n flag) (told_known T (length (state_of r.graph).joins) i n flag (subst (λ (k : ℕ). k < length (state_of r.graph).joins) (sym is) lt))

  -- an end that sends was asked whether it has room
  pub room_step : (links : Links T) (r s : GraphRegion O T b) (at : ℕ) (o p : ToTap T) → AreEndsOf links r → s.graph ≡ r.graph → s.inlets.items ≡ r.inlets.items → s.outlets.items ≡ slice_set r.outlets.items at p → s.pending.items ≡ r.pending.items → slice_get r.outlets.items at ≡ Some o → ((l : Link T) → slice_get links.taps.items at ≡ Some l → IsUpOf l p.up × IsPassedOn p) →
      p.asked ≡ o.asked → up_steps p.up ≡ up_steps o.up → sent_signals p.up ≡ sent_signals o.up → carried_up p.up ≡ carried_up o.up → s.spare.items ≡ r.spare.items → GoesOn links r s
  room_step links r s at o p ends graph ins outs waits there up asked steps sent carried spare =
      let m = b.meaning r.graph.ops in
      let got : (k : ℕ) → signals_for k r.pending.items ++ [] ≡ signals_for k s.pending.items = λ k. append-nil (signals_for k r.pending.items) ∙ ap (signals_for k) (sym waits) in
      outlet_step links [] r s at o p ends (ap (λ (g : Graph O T b). g.ops) graph) (ap (λ (g : Graph O T b). (state_of g).joins) graph) (λ h k. subst (λ (g : Graph O T b). GraphStands m (state_of g) h) (sym graph) k) ins outs there up (λ k. refl)
      (record {
        carried = carried;
        sent = [];
        signals = sent ∙ sym (append-nil (sent_signals o.up));
        delivered = got at;
        asked = asked;
        flagged = λ h. ap (λ ss. has_cancel (flags_of ss) || has_refusal (flags_of ss)) steps ∙ h;
        stopped = λ h. cc;
      })
      (λ k a apart e. outlet_still k [] r.pending.items s.pending.items a (got k) refl (λ h. cc))
      (λ k h. subst (λ (l : List (SubId × Signal T)). AreFor k l) (sym waits) h)
      spare refl tt

  -- the signal in front was sent to its tap
  pub send_step : (links : Links T) (r s : GraphRegion O T b) (at : ℕ) (d : SubId × Signal T) (o p : ToTap T) → AreEndsOf links r → s.graph ≡ r.graph → s.inlets.items ≡ r.inlets.items → s.outlets.items ≡ slice_set r.outlets.items at p → r.pending.items ≡ d ∷ s.pending.items → slice_get r.outlets.items at ≡ Some o → ((l : Link T) → slice_get links.taps.items at ≡ Some l → IsUpOf l p.up × IsPassedOn p) →
      d.0.0 ≡ at → p.asked ≡ o.asked → up_steps p.up ≡ up_steps o.up → sent_signals p.up ≡ sent_signals o.up ++ d.1 ∷ [] → carried_up p.up ≡ carried_up o.up → s.spare.items ≡ r.spare.items → GoesOn links r s
  send_step links r s at d o p ends graph ins outs waits there up is asked steps sent carried spare =
      let m = b.meaning r.graph.ops in
      outlet_step links [] r s at o p ends (ap (λ (g : Graph O T b). g.ops) graph) (ap (λ (g : Graph O T b). (state_of g).joins) graph) (λ h k. subst (λ (g : Graph O T b). GraphStands m (state_of g) h) (sym graph) k) ins outs there up (λ k. refl)
      (record {
        carried = carried;
        sent = d.1 ∷ [];
        signals = sent;
        delivered = append-nil (signals_for at r.pending.items) ∙ (ap (signals_for at) waits ∙ sent_here d s.pending.items at is);
        asked = asked;
        flagged = λ h. ap (λ ss. has_cancel (flags_of ss) || has_refusal (flags_of ss)) steps ∙ h;
        stopped = λ h. cc;
      })
      (λ k a apart e. outlet_still k [] r.pending.items s.pending.items a (append-nil (signals_for k r.pending.items) ∙ (ap (signals_for k) waits ∙ sent_elsewhere d s.pending.items k (λ h. apart (sym h ∙ is)))) refl (λ h. cc))
      (λ k h. (subst (λ (l : List (SubId × Signal T)). AreFor k l) waits h).1)
      spare refl tt

  -- what came of an emitter was published
  pub take_step : (links : Links T) (r s : GraphRegion O T b) (at : ℕ) (taken : Bool) (i j : FromEmitter T) → AreEndsOf links r → s.graph.ops ≡ r.graph.ops → (state_of s.graph).joins ≡ (state_of r.graph).joins → (t : TakesIn taken (b.meaning r.graph.ops) (state_of r.graph) i (state_of s.graph) j) →
      s.outlets.items ≡ r.outlets.items → s.pending.items ≡ r.pending.items → s.inlets.items ≡ slice_set r.inlets.items at j → slice_get r.inlets.items at ≡ Some i → ((l : Link T) → slice_get links.emitters.items at ≡ Some l → IsDownOf l j.down) → s.spare.items ≡ r.spare.items → AreEndsOf links s × GoesBy (b.meaning r.graph.ops) (publishes i.hub t.signals) r s
  take_step links r s at taken i j ends ops joins t outs waits ins there down spare =
      let es : List (Event T) = publishes i.hub t.signals in
      let P : ℕ → Link T → FromEmitter T → Type 0 = λ k l a. IsDownOf l a.down × IsCancelSeatOf l a.seat in
      let end : (l : Link T) → slice_get links.emitters.items at ≡ Some l → P at l j = λ l e. (down l e, subst (λ (c : CancelSeat). IsCancelSeatOf l c) (sym t.seat) (ends.inlets.ends.each at l i e there).1) in
      let is = r.inlets.items in
      let got : (k : ℕ) → signals_for k r.pending.items ++ given_in k es ≡ signals_for k s.pending.items = λ k. ap (λ l. signals_for k r.pending.items ++ l) (publishes_given i.hub t.signals k) ∙ (append-nil (signals_for k r.pending.items) ∙ ap (signals_for k) (sym waits)) in
      let here : InletGoes es i j = record {
        hub = t.hub;
        came = t.came;
        received = t.received;
        published = t.published ∙ ap (λ l. l ++ held j) (sym (publishes_here i.hub t.signals i.hub.0 refl));
        seat = t.seat;
      } in (
        record {
          inlets = record {
            ends = subst (λ (l : List (FromEmitter T)). Beside P links.emitters.items l) (sym ins) (beside_set P P links.emitters.items is at j end (λ k x y apart e f g. g) ends.inlets.ends);
            apart = λ x y a c e f same. ends.inlets.apart x y (was x a e).0 (was y c f).0 (was x a e).1 (was y c f).1 ((was x a e).2 ∙ (same ∙ sym (was y c f).2));
          };
          outlets = subst (λ (l : List (ToTap T)). AreOutletsOf links.taps.items l) (sym outs) ends.outlets;
          spare = spare_as links.taps.items (length (state_of r.graph).joins) (length (state_of s.graph).joins) r.spare.items s.spare.items (ap length joins) spare ends.spare;
        },
        record {
          ops = ops;
          stands = t.stands;
          subs = none_new (length (state_of r.graph).joins) (length (state_of s.graph).joins) es (ap length joins) (publishes_subscribed i.hub t.signals);
          events = publishes_known (length (state_of r.graph).joins) i.hub t.signals;
          inlets = subst (λ (l : List (FromEmitter T)). Beside (λ k. InletGoes es) is l) (sym ins)
              (beside_set (λ k x y. x ≡ y) (λ k. InletGoes es) is is at j
              (λ x e. let same : i ≡ x = cc in subst (λ (a : FromEmitter T). InletGoes es a j) same here)
              (λ k x y apart e f same. subst (λ (a : FromEmitter T). InletGoes es x a) same (inlet_still es x (publishes_elsewhere i.hub t.signals x.hub.0 (λ h. apart (ends.inlets.apart k at x i e there (sym h))))))
              (beside_same (λ k x y. x ≡ y) is (λ k x e. refl)));
          outlets = subst (λ (l : List (ToTap T)). OutletsGo es r.pending.items s.pending.items r.outlets.items l) (sym outs)
              (beside_same (λ k. OutletGoes k es r.pending.items s.pending.items) r.outlets.items (λ k a e. outlet_still k es r.pending.items s.pending.items a (got k) (publishes_asked i.hub t.signals k a.asked) (λ h. no_stop k h)));
          known = λ h. subst (λ (l : List (SubId × Signal T)). AreFor (length (state_of s.graph).joins) l) (sym waits) (subst (λ (n : ℕ). AreFor n r.pending.items) (ap length (sym joins)) h);
        },
      )
    where
      no_stop : (k : ℕ) → stopped_in k (publishes i.hub t.signals) ≡ true → ⊥
      no_stop k h = let none = publishes_stopped i.hub t.signals k in let bad : true ≡ false = sym h ∙ none in cc

      was : (x : ℕ) (a : FromEmitter T) → slice_get s.inlets.items x ≡ Some a → (c : FromEmitter T) × (slice_get r.inlets.items x ≡ Some c) × (c.hub.0 ≡ a.hub.0)
      was x a e = elim (set_cases r.inlets.items at x j a (ap (λ l. slice_get l x) (sym ins) ∙ e)) [
        | inl h ↦ (i, ap (slice_get r.inlets.items) h.0 ∙ there, ap (λ (n : HubId). n.0) (sym t.hub) ∙ ap (λ (n : FromEmitter T). n.hub.0) (sym h.1))
        | inr h ↦ (a, h.1, refl)
      ]

  -- moves were made
  pub pump_step : (budget : ℕ) (r s : GraphRegion O T b) (before after : Delivered T) (result : Result Pumped Refusal) → (h : HasPumpedIn budget r.graph before result s.graph after) → s.graph.ops ≡ r.graph.ops → before.signals ≡ r.pending.items → after.signals ≡ s.pending.items → s.inlets ≡ r.inlets → s.outlets ≡ r.outlets → GoesBy (b.meaning r.graph.ops) (map moved h.moves) r s
  pump_step budget r s before after result h ops first last ins outs =
      let m = b.meaning r.graph.ops in
      let es : List (Event T) = map moved h.moves in
      let all : s.pending.items ≡ r.pending.items ++ delivered_by h.moves = sym last ∙ (h.output ∙ ap (λ l. l ++ delivered_by h.moves) first) in
      let got : (k : ℕ) → signals_for k r.pending.items ++ given_in k es ≡ signals_for k s.pending.items = λ k. ap (λ l. signals_for k r.pending.items ++ l) (moves_given m (state_of r.graph).rows (state_of s.graph).rows h.moves k h.lead) ∙ (sym (flat_map-append (signal_for k) r.pending.items (delivered_by h.moves)) ∙ ap (signals_for k) (sym all)) in record {
        ops = ops;
        stands = λ x k. subst (λ (y : History T). GraphStands m (state_of s.graph) y) (sym (moves_after x h.moves)) (h.stands x k);
        subs = none_new (length (state_of r.graph).joins) (length (state_of s.graph).joins) es (ap length h.same.0) (moves_subscribed h.moves);
        events = moves_known m (length (state_of r.graph).joins) (state_of r.graph).rows (state_of s.graph).rows h.moves (as_many r.graph) h.lead;
        inlets = subst (λ (l : List (FromEmitter T)). Beside (λ k. InletGoes es) r.inlets.items l) (ap (λ v. v.items) (sym ins)) (pump_inlets es r.inlets.items (λ k. moves_published h.moves k));
        outlets = subst (λ (l : List (ToTap T)). OutletsGo es r.pending.items s.pending.items r.outlets.items l) (ap (λ v. v.items) (sym outs))
            (beside_same (λ k. OutletGoes k es r.pending.items s.pending.items) r.outlets.items (λ k a e. outlet_still k es r.pending.items s.pending.items a (got k) (moves_asked h.moves k a.asked) (λ x. no_stop h.moves k x)));
        known = λ x. subst (λ (n : ℕ). AreFor n s.pending.items) (ap length (sym h.same.0)) (subst (λ (l : List (SubId × Signal T)). AreFor (length (state_of r.graph).joins) l) (sym all) (for_all (length (state_of r.graph).joins) r.pending.items (delivered_by h.moves) x (moves_for m (length (state_of r.graph).joins) (state_of r.graph).rows (state_of s.graph).rows h.moves (as_many r.graph) h.lead)));
      }
    where
      no_stop : (ds : List (Made T)) (k : ℕ) → stopped_in k (map moved ds) ≡ true → ⊥
      no_stop ds k e = let none = moves_stopped ds k in let bad : true ≡ false = sym e ∙ none in cc

  -- moves leave the ends as they are
  pub moves_on : (links : Links T) (r s : GraphRegion O T b) → AreEndsOf links r → Goes (b.meaning r.graph.ops) r s → s.inlets ≡ r.inlets → s.outlets ≡ r.outlets → (state_of s.graph).joins ≡ (state_of r.graph).joins → s.spare ≡ r.spare → GoesOn links r s
  moves_on links r s ends goes ins outs joins spare = (
    record {
      inlets = subst (λ (l : List (FromEmitter T)). AreInletsOf links.emitters.items l) (ap (λ v. v.items) (sym ins)) ends.inlets;
      outlets = subst (λ (l : List (ToTap T)). AreOutletsOf links.taps.items l) (ap (λ v. v.items) (sym outs)) ends.outlets;
      spare = spare_as links.taps.items (length (state_of r.graph).joins) (length (state_of s.graph).joins) r.spare.items s.spare.items (ap length joins) (ap (λ v. v.items) spare) ends.spare;
    },
    goes,
  )

  -- the signal in front was sent, or found no room
  pub sends_step : (links : Links T) (r s : GraphRegion O T b) (at : ℕ) (sent : Bool) (l : Link T) (o p : ToTap T) → AreEndsOf links r → at < length r.outlets.items → l ≡ get_or links.taps.items at l → o ≡ get_or r.outlets.items at o → s.graph ≡ r.graph → s.inlets.items ≡ r.inlets.items → s.outlets.items ≡ slice_set r.outlets.items at p →
      IsFirstFor at r.pending.items → IsOffered l o p → SendsFirst sent r.pending.items s.pending.items o p → s.spare.items ≡ r.spare.items → GoesOn links r s
  sends_step links r s at false l o p ends lt link out graph ins outs first kept still spare =
      let passed : IsPassedOn p = kept.passed (outlet_there links.taps.items r.outlets.items at l o ends.outlets lt link out).1 in
      room_step links r s at o p ends graph ins outs still.0 (outlet_at r.outlets.items at o lt out) (only_at links.taps.items r.outlets.items at l p ends.outlets lt link (kept.end, passed)) kept.asked kept.steps still.1 kept.carried spare
  sends_step links r s at true l o p ends lt link out graph ins outs first kept (d, waits, sent) spare =
      let passed : IsPassedOn p = kept.passed (outlet_there links.taps.items r.outlets.items at l o ends.outlets lt link out).1 in
      let is : at ≡ d.0.0 = subst (λ ds. IsFirstFor at ds) waits first in
      send_step links r s at d o p ends graph ins outs waits (outlet_at r.outlets.items at o lt out) (only_at links.taps.items r.outlets.items at l p ends.outlets lt link (kept.end, passed)) (sym is) kept.asked kept.steps sent kept.carried spare
