-- What has happened to a graph that came back, up to the close of its links.
use Rattle.std.proofs.Common.{Vec, Global, ◌≡◌, ℕ, ◌+◌, Bool, true, false, ◌||◌, List, [], ◌++◌, append_assoc, length, refl, ap, sym, ◌∙◌, subst, arith, Some, slice_get}
use Rattle.std.specs.Option.{option_to_list}
use Rattle.std.proofs.lemmas.Grind.{flat_map-append}
use Rattle.std.proofs.lemmas.List.{append-nil}
use Rattle.std.proofs.lemmas.List.Sums.{fold-append}
use Rattle.std.proofs.lemmas.Option.{slice_get_within}
use Rattle.rsx_types.specs.declared.names.HubId.{HubId}
use Rattle.rsx_types.specs.declared.names.SubId.{SubId}
use Rattle.rsx_types.specs.declared.ops.Ops.{Ghosts as Ops}
use Rattle.rsx_types.specs.declared.signal.Signal.{Signal}
use Rattle.rsx_graph.specs.InGraph.{state_of}
use Rattle.rsx_graph.specs.declared.graph.Graph.{Graph}
use Rattle.rsx_link.specs.Ends.{received_signals, sent_signals}
use Rattle.rsx_runtime.specs.declared.emitter.Emitter.{Emitter}
use Rattle.rsx_runtime.specs.declared.tap.Tap.{Tap}
use Rattle.rsx_serialized.specs.Closing.{AreAllThere, AreEmitterEnds, AreTapEnds, EmitterSince, EmittersClose, HasAllTaps, HasClosed, IsClosedSince, IsFirstRefused, IsStoppedBy, TapSince, TapsClose, signals_at}
use Rattle.rsx_serialized.specs.Ends.{Beside, InletGoes, OutletGoes, held}
use Rattle.rsx_serialized.specs.Events.{AreKnown, Event, asked_by, asked_in, given_by, given_in, published_by, published_in, signal_for, signals_for, stopped_in, subscribed_by, subscribed_in}
use Rattle.rsx_serialized.specs.Opened.{HasStopped}
use Rattle.rsx_serialized.specs.Regions.{StandsSince}
use Rattle.rsx_serialized.specs.Started.{AreEmittersOf, AreTapsOf, IsFresh}
use Rattle.rsx_serialized.specs.declared.closing.Closed.{Closed}
use Rattle.rsx_serialized.specs.declared.closing.Stopped.{Stopped}
use Rattle.rsx_serialized.specs.declared.ends.FromEmitter.{FromEmitter}
use Rattle.rsx_serialized.specs.declared.ends.ToTap.{ToTap}
use Rattle.rsx_serialized.specs.declared.region.GraphRegion.{GraphRegion}
use Rattle.rsx_serialized.specs.declared.region.Links.{Links}
use Rattle.rsx_serialized.proofs.Closes.{emitter_ends, tap_ends}
use Rattle.rsx_serialized.proofs.Goes.{stands_on, stopped_on}
use Rattle.rsx_serialized.proofs.Known.{known_on}
use Rattle.rsx_serialized.proofs.Left.{EmitterFound, Settled, Silent, TapFound, Untold, emitter_found, settled_emitters, settled_taps, silent, tap_found, untold}
use Rattle.rsx_serialized.proofs.Lists.{there}
use Rattle.rsx_serialized.proofs.Late.{since}

-- a flag that was seen before is one that is seen now
absorbed : (x y : Bool) → (x ≡ true → y ≡ true) → x || y ≡ y
absorbed true y f = sym (f refl)
absorbed false y f = refl

or_none : (x y : Bool) → y ≡ false → x || y ≡ x
or_none true y e = refl
or_none false y e = e

module _ {T : Type 0} where
  -- what a fresh emitter's end took in and still holds, and what remained on its link
  emitter_sum : (i j : FromEmitter T) (es : List (Event T)) (rest : List (Signal T)) → InletGoes es i j → received_signals i.down ≡ [] → held i ≡ [] → received_signals j.down ++ rest ≡ published_in i.hub.0 es ++ (held j ++ rest)
  emitter_sum i j es rest g none empty =
      let came : received_signals j.down ≡ g.came = g.received ∙ ap (λ l. l ++ g.came) none in
      let all : g.came ≡ published_in i.hub.0 es ++ held j = sym (ap (λ l. l ++ g.came) empty) ∙ g.published in
      ap (λ l. l ++ rest) (came ∙ all) ∙ append_assoc (published_in i.hub.0 es) (held j) rest

  -- the three parts of what has happened: while the gate was there, what taps had asked for, and what was left of emitters
  past_of : (n : ℕ) (es fs gs : List (Event T)) → published_in n fs ≡ [] → published_in n ((es ++ fs) ++ gs) ≡ published_in n es ++ published_in n gs
  past_of n es fs gs quiet =
      flat_map-append (published_by n) (es ++ fs) gs ∙ ap (λ l. l ++ published_in n gs) (flat_map-append (published_by n) es fs ∙ (ap (λ l. published_in n es ++ l) quiet ∙ append-nil (published_in n es)))

  pub emitter_since : (i j : FromEmitter T) (e : Emitter T) (es fs gs : List (Event T)) (more : List (HubId × Signal T)) → InletGoes es i j → received_signals i.down ≡ [] → held i ≡ [] → e.hub ≡ j.hub → published_in j.hub.0 fs ≡ [] → EmitterFound gs more j e → EmitterSince ((es ++ fs) ++ gs) more e
  emitter_since i j e es fs gs more g none empty hub quiet f =
      let n = j.hub.0 in
      let own : published_in i.hub.0 es ≡ published_in n es = ap (λ (h : HubId). published_in h.0 es) (sym g.hub) in
      let whole : sent_signals e.up ≡ published_in n es ++ (published_in n gs ++ signals_at n more) = sym f.sent ∙ (emitter_sum i j es f.remaining g none empty ∙ (ap (λ l. l ++ (held j ++ f.remaining)) own ∙ ap (λ l. published_in n es ++ l) f.parts)) in
      let all : sent_signals e.up ≡ published_in n ((es ++ fs) ++ gs) ++ signals_at n more = whole ∙ (sym (append_assoc (published_in n es) (published_in n gs) (signals_at n more)) ∙ ap (λ l. l ++ signals_at n more) (sym (past_of n es fs gs quiet))) in
      record {
        sent = all ∙ ap (λ (h : HubId). published_in h.0 ((es ++ fs) ++ gs) ++ signals_at h.0 more) (sym hub);
        state = f.state;
        refused = subst (λ (h : HubId). IsFirstRefused f.state h (signals_at h.0 more)) (sym hub) f.refused;
      }

  -- nothing more is told of a subscriber
  pub tap_after : (k : ℕ) (o : ToTap T) (t : Tap T) (es gs : List (Event T)) (untaken : List (SubId × Signal T)) → Untold k gs → TapSince k es untaken o t → TapSince k (es ++ gs) untaken o t
  tap_after k o t es gs untaken u s = record {
    received = flat_map-append (given_by k) es gs ∙ (ap (λ l. given_in k es ++ l) u.given ∙ (append-nil (given_in k es) ∙ s.received));
    asked = fold-append (asked_by k) o.asked es gs ∙ (u.asked (asked_in k o.asked es) ∙ s.asked);
    stopped = subst (λ (b : Bool). IsStoppedBy t b) (sym (stopped_on k es gs ∙ or_none (stopped_in k es) (stopped_in k gs) u.stopped)) s.stopped;
  }

  pub tap_since : (k : ℕ) (o p : ToTap T) (t : Tap T) (es fs : List (Event T)) (pending more : List (SubId × Signal T)) → OutletGoes k es [] pending o p → sent_signals o.up ≡ [] → Silent k fs → TapFound k fs more p t → TapSince k (es ++ fs) (more ++ pending) o t
  tap_since k o p t es fs pending more g none quiet f =
      let sent : g.sent ≡ received_signals t.down ++ signals_for k more = sym (g.signals ∙ ap (λ l. l ++ g.sent) none) ∙ sym f.sent in
      let flag : stopped_in k (es ++ fs) ≡ stopped_in k fs = stopped_on k es fs ∙ absorbed (stopped_in k es) (stopped_in k fs) (λ h. f.seen (g.stopped h)) in
      record {
        received = flat_map-append (given_by k) es fs ∙ (ap (λ l. given_in k es ++ l) quiet.given ∙ (append-nil (given_in k es) ∙ (g.delivered ∙ (ap (λ l. l ++ signals_for k pending) sent ∙ (append_assoc (received_signals t.down) (signals_for k more) (signals_for k pending) ∙ ap (λ l. received_signals t.down ++ l) (sym (flat_map-append (signal_for k) more pending)))))));
        asked = fold-append (asked_by k) o.asked es fs ∙ (ap (λ n. asked_in k n fs) (sym g.asked) ∙ f.asked);
        stopped = subst (λ (b : Bool). IsStoppedBy t b) (sym flag) f.why;
      }

  -- the subscriptions that were there before the links were closed are there still
  after_none : (n r : ℕ) (es fs gs : List (Event T)) → subscribed_in fs ≡ [] → r ≡ n + length (subscribed_in es) → AreKnown r gs → AreKnown (n + length (subscribed_in (es ++ fs))) gs
  after_none n r es fs gs alone subs known =
      let here : subscribed_in (es ++ fs) ≡ subscribed_in es = flat_map-append subscribed_by es fs ∙ (ap (λ l. subscribed_in es ++ l) alone ∙ append-nil (subscribed_in es)) in
      subst (λ (k : ℕ). AreKnown k gs) (subs ∙ ap (λ l. n + length l) (sym here)) known

  all_subs : (taps r n : ℕ) (es fs gs : List (Event T)) → taps ≡ r → r ≡ n + length (subscribed_in es) → subscribed_in fs ≡ [] → subscribed_in gs ≡ [] → taps ≡ n + length (subscribed_in ((es ++ fs) ++ gs))
  all_subs taps r n es fs gs every subs alone quiet =
      let first : subscribed_in (es ++ fs) ≡ subscribed_in es = flat_map-append subscribed_by es fs ∙ (ap (λ l. subscribed_in es ++ l) alone ∙ append-nil (subscribed_in es)) in
      let all : subscribed_in ((es ++ fs) ++ gs) ≡ subscribed_in es = flat_map-append subscribed_by (es ++ fs) gs ∙ (ap (λ l. subscribed_in (es ++ fs) ++ l) quiet ∙ (append-nil (subscribed_in (es ++ fs)) ∙ first)) in
      every ∙ (subs ∙ ap (λ l. n + length l) (sym all))

  -- each emitter publishes at the hub of the end at its place still
  hubs_still : (es : List (Event T)) (is js : List (FromEmitter T)) (ems : List (Emitter T)) → Beside (λ k. InletGoes es) is js → Beside (λ k (i : FromEmitter T) (e : Emitter T). e.hub ≡ i.hub) is ems → (k : ℕ) (j : FromEmitter T) (e : Emitter T) → slice_get js k ≡ Some j → slice_get ems k ≡ Some e → e.hub ≡ j.hub
  hubs_still es is js ems goes hubs k j e at em =
      let within = slice_get_within js k j at in
      let long = goes.count in
      let i = there is k (omega (arith, within, long)) in
      hubs.each k i.0 e i.1 em ∙ sym (goes.each k i.0 j i.1 at).hub

module _ {O T : Type 0} {b : Ops O T} where
  pub closed_since : (s : Stopped O T b) (mid : Graph O T b) (c : Closed O T b) (untaken : List (SubId × Signal T)) → AreAllThere s → HasAllTaps s → mid.ops ≡ s.region.graph.ops → c.graph.ops ≡ mid.ops →
      TapsClose (b.meaning s.region.graph.ops) 0 s.region.outlets.items s.taps.items (state_of s.region.graph) (state_of mid) [] untaken → EmittersClose (b.meaning mid.ops) s.region.inlets.items s.emitters.items (state_of mid) (state_of c.graph) [] c.unpublished.items →
      c.untaken.items ≡ untaken ++ s.region.pending.items → HasClosed s c
  closed_since s mid c untaken all every one two taps emitters put opening stopped fresh =
      let m = b.meaning opening.graph.ops in
      let r = s.region in
      let es = stopped.events in
      let fs = taps.events in
      let gs = emitters.events in
      let same : r.graph.ops ≡ opening.graph.ops = stopped.goes.ops in
      let second : StandsSince m fs (state_of r.graph) (state_of mid) = subst (λ (o : O). StandsSince (b.meaning o) fs (state_of r.graph) (state_of mid)) same taps.stands in
      let third : StandsSince m gs (state_of mid) (state_of c.graph) = subst (λ (o : O). StandsSince (b.meaning o) gs (state_of mid) (state_of c.graph)) (one ∙ same) emitters.stands in
      let more : taps.more ≡ untaken = sym taps.put in
      let left : emitters.more ≡ c.unpublished.items = sym emitters.put in
      let n = length (state_of opening.graph).joins in
      let r0 = length (state_of r.graph).joins in
      let told : Settled r0 fs = settled_taps r0 0 fs taps.more r.outlets.items s.taps.items (omega (arith, every)) taps.left in
      let quiet_gs : Settled r0 gs = settled_emitters r0 gs emitters.more r.inlets.items s.emitters.items emitters.left in
      let quiet : (k : ℕ) → Silent k fs = λ k. silent 0 fs taps.more r.outlets.items s.taps.items taps.left k in
      record {
        events = (es ++ fs) ++ gs;
        ops = two ∙ (one ∙ same);
        stands = stands_on m (es ++ fs) gs (state_of opening.graph) (state_of mid) (state_of c.graph) (stands_on m es fs (state_of opening.graph) (state_of r.graph) (state_of mid) stopped.goes.stands second) third;
        emitters = λ k e em.
            let j = there r.inlets.items k (let within = slice_get_within s.emitters.items k e em in let long = all.emitters.hubs.count in omega (arith, within, long)) in
            let i = there opening.inlets.items k (let within = slice_get_within r.inlets.items k j.0 j.1 in let long = stopped.goes.inlets.count in omega (arith, within, long)) in
            let f = fresh.inlets k i.0 i.1 in
            let found : EmitterFound gs c.unpublished.items j.0 e = subst (λ (l : List (HubId × Signal T)). EmitterFound gs l j.0 e) left (emitter_found gs emitters.more r.inlets.items s.emitters.items all.ends.inlets.apart emitters.left k j.0 e j.1 em) in
            emitter_since i.0 j.0 e es fs gs c.unpublished.items (stopped.goes.inlets.each k i.0 j.0 i.1 j.1) f.0 (ap (λ o. option_to_list o) f.1) (all.emitters.hubs.each k j.0 e j.1 em) (quiet j.0.hub.0).published found;
        taps = λ k o t at tap.
            let p = there r.outlets.items k (let within = slice_get_within opening.outlets.items k o at in let long = stopped.goes.outlets.count in omega (arith, within, long)) in
            let f : TapFound k fs untaken p.0 t = subst (λ (l : List (SubId × Signal T)). TapFound k fs l p.0 t) more (tap_found 0 fs taps.more r.outlets.items s.taps.items taps.left k k (omega arith) p.0 t p.1 tap) in
            let g : OutletGoes k es [] r.pending.items o p.0 = subst (λ (l : List (SubId × Signal T)). OutletGoes k es l r.pending.items o p.0) fresh.pending (stopped.goes.outlets.each k o p.0 at p.1) in
            let now : TapSince k (es ++ fs) (untaken ++ r.pending.items) o t = tap_since k o p.0 t es fs r.pending.items untaken g (fresh.outlets k o at) (quiet k) f in
            subst (λ (l : List (SubId × Signal T)). TapSince k ((es ++ fs) ++ gs) l o t) (sym put) (tap_after k o t (es ++ fs) gs (untaken ++ r.pending.items) (untold gs emitters.more r.inlets.items s.emitters.items emitters.left k) now);
        since = λ h. since ((es ++ fs) ++ gs) h;
        known = known_on n (es ++ fs) gs (known_on n es fs stopped.goes.events (subst (λ (k : ℕ). AreKnown k fs) stopped.goes.subs told.known)) (after_none n r0 es fs gs told.alone stopped.goes.subs quiet_gs.known);
        subs = all_subs (length s.taps.items) r0 n es fs gs every stopped.goes.subs told.alone quiet_gs.alone;
      }

  -- the ends of the links, one after the other
  pub emitter_ends_of : (s : Stopped O T b) → AreAllThere s → AreEmitterEnds s.region.inlets.items s.links.emitters.items s.emitters.items
  emitter_ends_of s all = emitter_ends s.links.emitters.items s.region.inlets.items s.emitters.items all.ends.inlets.ends.count all.emitters.ends.count (λ k l i e p q r.
      let down = all.ends.inlets.ends.each k l i p q in
      let room = all.emitter_room k l p in
      record { ends = ((all.emitters.ends.each k l e p r).1, down.0, down.1); room = omega (arith, room) })

  pub tap_ends_of : (s : Stopped O T b) → AreAllThere s → AreTapEnds s.region.outlets.items s.links.taps.items s.taps.items
  tap_ends_of s all = tap_ends s.links.taps.items s.region.outlets.items s.taps.items all.ends.outlets.count all.taps.few (λ k l o t p q r.
      let up = all.ends.outlets.each k l o p q in
      let room = all.tap_room k l p in
      record { end = up.0; passed = up.1; tap = (all.taps.each k l t p r).2; room = omega (arith, room) })

  -- what the single calls of a close say
  pub closes_all : (s : Stopped O T b) (mid : Graph O T b) (c : Closed O T b) (is : List (FromEmitter T)) (es : List (Emitter T)) (os : List (ToTap T)) (ts : List (Tap T)) (ps : List (SubId × Signal T)) (none : List (HubId × Signal T)) (before after : List (SubId × Signal T)) →
      AreAllThere s → HasAllTaps s → mid.ops ≡ s.region.graph.ops → c.graph.ops ≡ mid.ops → os ≡ s.region.outlets.items → ts ≡ s.taps.items → TapsClose (b.meaning s.region.graph.ops) 0 os ts (state_of s.region.graph) (state_of mid) before after → before ≡ [] →
      is ≡ s.region.inlets.items → es ≡ s.emitters.items → EmittersClose (b.meaning mid.ops) is es (state_of mid) (state_of c.graph) none c.unpublished.items → none ≡ [] → c.untaken.items ≡ after ++ ps → ps ≡ s.region.pending.items → HasClosed s c
  closes_all s mid c is es os ts ps none before after all every one two outs taps close begun ins ems left first put rest =
      let m = b.meaning s.region.graph.ops in
      let n = b.meaning mid.ops in
      let B : List (SubId × Signal T) → Type 0 = λ l. TapsClose m 0 s.region.outlets.items s.taps.items (state_of s.region.graph) (state_of mid) l after in
      let there : TapsClose m 0 s.region.outlets.items s.taps.items (state_of s.region.graph) (state_of mid) before after =
      subst (λ (x : List (ToTap T)). TapsClose m 0 x s.taps.items (state_of s.region.graph) (state_of mid) before after) outs (subst (λ (x : List (Tap T)). TapsClose m 0 os x (state_of s.region.graph) (state_of mid) before after) taps close) in
      let E : List (HubId × Signal T) → Type 0 = λ l. EmittersClose n s.region.inlets.items s.emitters.items (state_of mid) (state_of c.graph) l c.unpublished.items in
      let here : EmittersClose n s.region.inlets.items s.emitters.items (state_of mid) (state_of c.graph) none c.unpublished.items =
      subst (λ (x : List (FromEmitter T)). EmittersClose n x s.emitters.items (state_of mid) (state_of c.graph) none c.unpublished.items) ins (subst (λ (x : List (Emitter T)). EmittersClose n is x (state_of mid) (state_of c.graph) none c.unpublished.items) ems left) in
      closed_since s mid c after all every one two (subst B begun there) (subst E first here) (put ∙ ap (λ l. after ++ l) rest)

  -- all ends are there as the graph comes out of its gate
  pub all_there : (opening now : GraphRegion O T b) (links own : Links T) (es : Vec (Emitter T) Global) (ts : Vec (Tap T) Global) → own ≡ links → HasStopped links opening now → IsFresh links opening → AreEmittersOf links.emitters.items opening.inlets.items es.items → AreTapsOf links.taps.items ts.items → AreAllThere {b = b} (record { region = now; links = own; emitters = es; taps = ts })
  all_there opening now links own es ts same h fresh emitters taps =
      let P : Links T → Type 0 = λ l. AreAllThere {b = b} (record { region = now; links = l; emitters = es; taps = ts }) in
      subst P (sym same) (record {
        ends = h.ends;
        emitters = record {
          ends = emitters.ends;
          hubs = record {
            count = emitters.hubs.count ∙ sym h.goes.inlets.count;
            each = λ k i e p q. hubs_still h.events opening.inlets.items now.inlets.items es.items h.goes.inlets emitters.hubs k i e p q;
          };
        };
        taps = taps;
        emitter_room = fresh.emitters;
        tap_room = fresh.taps;
      })

  -- so the graph closed since its gate was opened
  pub closed_from : (opening : GraphRegion O T b) (s : Stopped O T b) (c : Closed O T b) (links : Links T) → s.links ≡ links → HasStopped links opening s.region → IsFresh links opening → HasClosed s c → IsClosedSince opening s.emitters.items s.taps.items c
  closed_from opening s c links same h fresh closed =
      let H : Links T → Type 0 = λ l. HasStopped l opening s.region in
      let F : Links T → Type 0 = λ l. IsFresh l opening in
      closed opening (subst H (sym same) h) (subst F (sym same) fresh)

  -- the graph has stopped where it comes back so
  pub stopped_from : (opening : GraphRegion O T b) (links : Links T) (s t : Stopped O T b) → t ≡ s → HasStopped links opening s.region → AreAllThere s → HasStopped links opening t.region × AreAllThere t
  stopped_from opening links s t same h all =
      let P : Stopped O T b → Type 0 = λ x. HasStopped links opening x.region × AreAllThere x in
      subst P (sym same) (h, all)
