-- What is left of the links of a graph that came back, found by the numbers of subscriptions and hubs.
use Rattle.std.proofs.Common.{◌≡◌, ℕ, zero, suc, ◌+◌, ◌<◌, ◌≤◌, Bool, true, false, ◌||◌, List, [], ◌∷◌, ◌++◌, length, refl, ap, sym, ◌∙◌, subst, arith, Some, slice_get}
use Rattle.std.proofs.lemmas.Grind.{flat_map-append}
use Rattle.std.proofs.lemmas.List.{append-nil}
use Rattle.std.proofs.lemmas.List.Sums.{fold-append}
use Rattle.rsx_demand.specs.declared.TheConstants.{UNBOUNDED}
use Rattle.rsx_types.specs.declared.names.HubId.{HubId}
use Rattle.rsx_types.specs.declared.names.SubId.{SubId}
use Rattle.rsx_types.specs.declared.signal.Signal.{Signal}
use Rattle.rsx_graph.specs.Stands.{GraphState}
use Rattle.rsx_link.specs.Ends.{asked_total, received_signals, sent_signals}
use Rattle.rsx_runtime.specs.declared.emitter.Emitter.{Emitter}
use Rattle.rsx_runtime.specs.declared.tap.Tap.{Tap}
use Rattle.rsx_serialized.specs.Closing.{AllEmittersLeft, AllTapsLeft, EmitterLeft, IsFirstRefused, IsStoppedBy, TapLeft, named, signal_at, signals_at}
use Rattle.rsx_serialized.specs.Ends.{held, is_flagged}
use Rattle.rsx_serialized.specs.Events.{AreKnown, Event, asked_by, asked_in, given_by, given_in, published_by, published_in, signal_for, signals_for, stopped_in, subscribed_by, subscribed_in}
use Rattle.rsx_serialized.specs.Told.{publishes}
use Rattle.rsx_serialized.specs.declared.ends.FromEmitter.{FromEmitter}
use Rattle.rsx_serialized.specs.declared.ends.ToTap.{ToTap}
use Rattle.rsx_serialized.proofs.Closes.{hub_elsewhere, hub_here, named_elsewhere, named_here, total_bounded}
use Rattle.rsx_serialized.proofs.Goes.{stopped_on}
use Rattle.rsx_serialized.proofs.Known.{known_on, publishes_known, publishes_subscribed, told_known, told_subscribed}
use Rattle.rsx_serialized.proofs.Steps.{publishes_asked, publishes_elsewhere, publishes_given, publishes_here, publishes_stopped, told, told_asked, told_given, told_others, told_published, told_stopped, told_stops}

-- ---- taps

-- what was told of the subscription itself
told_is : (T : Type 0) (i : SubId) (n : ℕ) (s : Bool) (k : ℕ) → i.0 ≡ k → stopped_in k (told {T = T} i n s) ≡ s
told_is T i n true k e = told_stops T i n true k e refl
told_is T i zero false k e = refl
told_is T i (suc n) false k e = refl

-- of another one nothing was told
told_not : (T : Type 0) (i : SubId) (n : ℕ) (s : Bool) (k : ℕ) (b : Bool) → stopped_in k (told {T = T} i n s) ≡ b → (i.0 ≡ k → ⊥) → b ≡ false
told_not T i n s k true e apart = absurd (apart (told_stopped T i n s k e).0)
told_not T i n s k false e apart = refl

or_none : (x y : Bool) → y ≡ false → x || y ≡ x
or_none true y e = refl
or_none false y e = e

or_only : (x y : Bool) → x ≡ false → x || y ≡ y
or_only true y e = cc
or_only false y e = refl

same_some : {X : Type 0} (x y : X) → Some x ≡ Some y → x ≡ y
same_some x y e = cc

zero_not : (k : ℕ) → zero ≡ suc k → ⊥
zero_not k e = omega (arith, e)

same_before : (j k : ℕ) → suc j ≡ suc k → j ≡ k
same_before j k e = omega (arith, e)

module _ {T : Type 0} where
  -- what concerns the subscriptions from a number on says nothing of those before
  pub record Aside (k : ℕ) (fs : List (Event T)) (more : List (SubId × Signal T)) : Type 0 where
    pub asked : (a : ℕ) → asked_in k a fs ≡ a
    pub stopped : stopped_in k fs ≡ false
    pub signals : signals_for k more ≡ []

  -- nothing is published or delivered by it
  pub record Silent (k : ℕ) (fs : List (Event T)) : Type 0 where
    pub published : published_in k fs ≡ []
    pub given : given_in k fs ≡ []

  pub silent : (at : ℕ) (fs : List (Event T)) (more : List (SubId × Signal T)) (os : List (ToTap T)) (ts : List (Tap T)) → AllTapsLeft at fs more os ts → (k : ℕ) → Silent k fs
  silent at fs more os [] h k = record { published = ap (published_in k) h.0; given = ap (given_in k) h.0 }
  silent at fs more [] (t ∷ ts) h k = absurd h
  silent at fs more (o ∷ os) (t ∷ ts) h k =
      let x = h.0 in
      let n = silent (suc at) x.later x.others os ts h.1 k in record {
        published = ap (published_in k) x.told ∙ (flat_map-append (published_by k) (told x.sub x.items x.stopped) x.later ∙ (ap (λ l. l ++ published_in k x.later) (told_published T x.sub x.items x.stopped k) ∙ n.published));
        given = ap (given_in k) x.told ∙ (flat_map-append (given_by k) (told x.sub x.items x.stopped) x.later ∙ (ap (λ l. l ++ given_in k x.later) (told_given T x.sub x.items x.stopped k) ∙ n.given));
      }

  -- it says of no subscription but of those that have a tap, and none was made
  pub record Settled (n : ℕ) (fs : List (Event T)) : Type 0 where
    pub known : AreKnown n fs
    pub alone : subscribed_in fs ≡ []

  settled_on : (n : ℕ) (es fs : List (Event T)) → AreKnown n es → subscribed_in es ≡ [] → Settled n fs → Settled n (es ++ fs)
  settled_on n es fs known alone s =
      let none : n + length (subscribed_in es) ≡ n = let z : length (subscribed_in es) ≡ 0 = ap length alone in omega (arith, z) in record {
        known = known_on n es fs known (subst (λ (k : ℕ). AreKnown k fs) (sym none) s.known);
        alone = flat_map-append subscribed_by es fs ∙ (ap (λ l. l ++ subscribed_in fs) alone ∙ s.alone);
      }

  settled_as : (n : ℕ) (es fs : List (Event T)) → fs ≡ es → Settled n es → Settled n fs
  settled_as n es fs e s = subst (λ (l : List (Event T)). Settled n l) (sym e) s

  pub settled_taps : (n at : ℕ) (fs : List (Event T)) (more : List (SubId × Signal T)) (os : List (ToTap T)) (ts : List (Tap T)) → at + length ts ≤ n → AllTapsLeft at fs more os ts → Settled n fs
  settled_taps n at fs more os [] le h = settled_as n [] fs h.0 (record { known = tt; alone = refl })
  settled_taps n at fs more [] (t ∷ ts) le h = absurd h
  settled_taps n at fs more (o ∷ os) (t ∷ ts) le h =
      let x = h.0 in
      let is = x.is in
      let rest = settled_taps n (suc at) x.later x.others os ts (omega (arith, le)) h.1 in
      settled_as n _ fs x.told (settled_on n (told x.sub x.items x.stopped) x.later (told_known T n x.sub x.items x.stopped (omega (arith, le, is))) (told_subscribed T x.sub x.items x.stopped) rest)

  pub settled_emitters : (n : ℕ) (gs : List (Event T)) (more : List (HubId × Signal T)) (is : List (FromEmitter T)) (es : List (Emitter T)) → AllEmittersLeft gs more is es → Settled n gs
  settled_emitters n gs more [] es h = settled_as n [] gs h.0 (record { known = tt; alone = refl })
  settled_emitters n gs more (i ∷ is) [] h = absurd h
  settled_emitters n gs more (i ∷ is) (e ∷ es) h =
      let x = h.0 in
      settled_as n _ gs x.told (settled_on n (publishes i.hub x.taken) x.later (publishes_known n i.hub x.taken) (publishes_subscribed i.hub x.taken) (settled_emitters n x.later x.others is es h.1))

  -- what one tap left, for another subscription
  before : (at k : ℕ) (fs : List (Event T)) (more : List (SubId × Signal T)) (o : ToTap T) (t : Tap T) → (x : TapLeft at fs more o t) → (k ≡ at → ⊥) →
      ((a : ℕ) → asked_in k a fs ≡ asked_in k a x.later) × (stopped_in k fs ≡ stopped_in k x.later) × (signals_for k more ≡ signals_for k x.others)
  before at k fs more o t x apart =
      let other : x.sub.0 ≡ k → ⊥ = λ e. apart (sym e ∙ x.is) in
      let ts = told x.sub x.items x.stopped in (
        λ a. ap (asked_in k a) x.told ∙ (fold-append (asked_by k) a ts x.later ∙ ap (λ n. asked_in k n x.later) (told_others T x.sub x.items x.stopped k a other)),
        ap (stopped_in k) x.told ∙ (stopped_on k ts x.later ∙ or_only (stopped_in k ts) (stopped_in k x.later) (told_not T x.sub x.items x.stopped k (stopped_in k ts) refl other)),
        ap (signals_for k) x.left ∙ (flat_map-append (signal_for k) (named x.sub x.rest) x.others ∙ ap (λ l. l ++ signals_for k x.others) (named_elsewhere x.sub x.rest k other)),
      )

  aside : (at : ℕ) (fs : List (Event T)) (more : List (SubId × Signal T)) (os : List (ToTap T)) (ts : List (Tap T)) → AllTapsLeft at fs more os ts → (k : ℕ) → k < at → Aside k fs more
  aside at fs more os [] h k lt = record { asked = λ a. ap (asked_in k a) h.0; stopped = ap (stopped_in k) h.0; signals = ap (signals_for k) h.1 }
  aside at fs more [] (t ∷ ts) h k lt = absurd h
  aside at fs more (o ∷ os) (t ∷ ts) h k lt =
      let x = h.0 in
      let b = before at k fs more o t x (λ e. omega (arith, e)) in
      let n = aside (suc at) x.later x.others os ts h.1 k (omega arith) in record {
        asked = λ a. b.0 a ∙ n.asked a;
        stopped = b.1 ∙ n.stopped;
        signals = b.2 ∙ n.signals;
      }

  -- what is left of one tap's link
  pub record TapFound (k : ℕ) (fs : List (Event T)) (more : List (SubId × Signal T)) (o : ToTap T) (t : Tap T) : Type 0 where
    pub asked : asked_in k o.asked fs ≡ asked_total t.down
    pub why : IsStoppedBy t (stopped_in k fs)
    pub seen : is_flagged o.up ≡ true → stopped_in k fs ≡ true
    pub sent : received_signals t.down ++ signals_for k more ≡ sent_signals o.up

  -- that of the first
  first : (at : ℕ) (fs : List (Event T)) (more : List (SubId × Signal T)) (o : ToTap T) (t : Tap T) → (x : TapLeft at fs more o t) → Aside at x.later x.others → TapFound at fs more o t
  first at fs more o t x n =
      let ts = told x.sub x.items x.stopped in
      let most : o.asked + x.items ≤ UNBOUNDED = subst (λ (y : ℕ). y ≤ UNBOUNDED) x.asked (total_bounded t.down) in
      let mine : asked_in at o.asked ts ≡ o.asked + x.items = subst (λ (y : ℕ). asked_in y o.asked ts ≡ o.asked + x.items) x.is (told_asked T x.sub x.items x.stopped o.asked most) in
      let flag : stopped_in at fs ≡ x.stopped = ap (stopped_in at) x.told ∙ (stopped_on at ts x.later ∙ (or_none (stopped_in at ts) (stopped_in at x.later) n.stopped ∙ told_is T x.sub x.items x.stopped at x.is)) in
      let rest : signals_for at more ≡ x.rest = ap (signals_for at) x.left ∙ (flat_map-append (signal_for at) (named x.sub x.rest) x.others ∙ (ap (λ l. signals_for at (named x.sub x.rest) ++ l) n.signals ∙ (append-nil (signals_for at (named x.sub x.rest)) ∙ named_here x.sub x.rest at x.is))) in
      record {
        asked = ap (asked_in at o.asked) x.told ∙ (fold-append (asked_by at) o.asked ts x.later ∙ (ap (λ y. asked_in at y x.later) mine ∙ (n.asked (o.asked + x.items) ∙ sym x.asked)));
        why = subst (λ (y : Bool). IsStoppedBy t y) (sym flag) x.why;
        seen = λ h. flag ∙ x.seen h;
        sent = ap (λ l. received_signals t.down ++ l) rest ∙ x.sent;
      }

  here : (at : ℕ) (fs : List (Event T)) (more : List (SubId × Signal T)) (a : ToTap T) (os : List (ToTap T)) (c : Tap T) (ts : List (Tap T)) → AllTapsLeft at fs more (a ∷ os) (c ∷ ts) → (n : ℕ) → n ≡ at → (o : ToTap T) (t : Tap T) → a ≡ o → c ≡ t → TapFound n fs more o t
  here at fs more a os c ts h n is o t same tap =
      let it : TapFound at fs more a c = first at fs more a c h.0 (aside (suc at) h.0.later h.0.others os ts h.1 at (omega arith)) in
      subst (λ (y : ℕ). TapFound y fs more o t) (sym is) (subst (λ (y : ToTap T). TapFound at fs more y t) same (subst (λ (y : Tap T). TapFound at fs more a y) tap it))

  behind : (at : ℕ) (fs : List (Event T)) (more : List (SubId × Signal T)) (a : ToTap T) (c : Tap T) → (x : TapLeft at fs more a c) → (n : ℕ) → (n ≡ at → ⊥) → (o : ToTap T) (t : Tap T) → TapFound n x.later x.others o t → TapFound n fs more o t
  behind at fs more a c x n apart o t it =
      let b = before at n fs more a c x apart in record {
        asked = b.0 o.asked ∙ it.asked;
        why = subst (λ (y : Bool). IsStoppedBy t y) (sym b.1) it.why;
        seen = λ y. b.1 ∙ it.seen y;
        sent = ap (λ l. received_signals t.down ++ l) b.2 ∙ it.sent;
      }

  -- that of the one at this place
  pub tap_found : (at : ℕ) (fs : List (Event T)) (more : List (SubId × Signal T)) (os : List (ToTap T)) (ts : List (Tap T)) → AllTapsLeft at fs more os ts → (k n : ℕ) → n ≡ at + k → (o : ToTap T) (t : Tap T) → slice_get os k ≡ Some o → slice_get ts k ≡ Some t → TapFound n fs more o t
  tap_found at fs more os [] h k n is o t e f = cc
  tap_found at fs more [] (c ∷ ts) h k n is o t e f = absurd h
  tap_found at fs more (a ∷ os) (c ∷ ts) h zero n is o t e f = here at fs more a os c ts h n (omega (arith, is)) o t (same_some a o e) (same_some c t f)
  tap_found at fs more (a ∷ os) (c ∷ ts) h (suc k) n is o t e f =
      behind at fs more a c h.0 n (λ y. omega (arith, is, y)) o t (tap_found (suc at) h.0.later h.0.others os ts h.1 k n (omega (arith, is)) o t e f)

  -- ---- emitters

  -- what is left of one emitter's link
  pub record EmitterFound (gs : List (Event T)) (more : List (HubId × Signal T)) (i : FromEmitter T) (e : Emitter T) : Type 0 where
    pub remaining : List (Signal T)
    pub sent : received_signals i.down ++ remaining ≡ sent_signals e.up
    pub parts : held i ++ remaining ≡ published_in i.hub.0 gs ++ signals_at i.hub.0 more
    pub state : GraphState T
    pub refused : IsFirstRefused state i.hub (signals_at i.hub.0 more)

  -- by it nothing is told of a subscriber
  pub record Untold (k : ℕ) (gs : List (Event T)) : Type 0 where
    pub given : given_in k gs ≡ []
    pub asked : (n : ℕ) → asked_in k n gs ≡ n
    pub stopped : stopped_in k gs ≡ false

  pub untold : (gs : List (Event T)) (more : List (HubId × Signal T)) (is : List (FromEmitter T)) (es : List (Emitter T)) → AllEmittersLeft gs more is es → (k : ℕ) → Untold k gs
  untold gs more [] es h k = record { given = ap (given_in k) h.0; asked = λ n. ap (asked_in k n) h.0; stopped = ap (stopped_in k) h.0 }
  untold gs more (i ∷ is) [] h k = absurd h
  untold gs more (i ∷ is) (e ∷ es) h k =
      let x = h.0 in
      let ps = publishes i.hub x.taken in
      let u = untold x.later x.others is es h.1 k in record {
        given = ap (given_in k) x.told ∙ (flat_map-append (given_by k) ps x.later ∙ (ap (λ l. l ++ given_in k x.later) (publishes_given i.hub x.taken k) ∙ u.given));
        asked = λ n. ap (asked_in k n) x.told ∙ (fold-append (asked_by k) n ps x.later ∙ (ap (λ y. asked_in k y x.later) (publishes_asked i.hub x.taken k n) ∙ u.asked n));
        stopped = ap (stopped_in k) x.told ∙ (stopped_on k ps x.later ∙ (or_only (stopped_in k ps) (stopped_in k x.later) (publishes_stopped i.hub x.taken k) ∙ u.stopped));
      }

  -- what one emitter left, for another hub
  passed : (gs : List (Event T)) (more : List (HubId × Signal T)) (a : FromEmitter T) (c : Emitter T) → (x : EmitterLeft gs more a c) → (n : ℕ) → (a.hub.0 ≡ n → ⊥) → (published_in n gs ≡ published_in n x.later) × (signals_at n more ≡ signals_at n x.others)
  passed gs more a c x n apart = (
    ap (published_in n) x.told ∙ (flat_map-append (published_by n) (publishes a.hub x.taken) x.later ∙ ap (λ l. l ++ published_in n x.later) (publishes_elsewhere a.hub x.taken n apart)),
    ap (signals_at n) x.left ∙ (flat_map-append (signal_at n) (named a.hub x.rest) x.others ∙ ap (λ l. l ++ signals_at n x.others) (hub_elsewhere a.hub x.rest n apart)),
  )

  elsewhere : (gs : List (Event T)) (more : List (HubId × Signal T)) (is : List (FromEmitter T)) (es : List (Emitter T)) → AllEmittersLeft gs more is es → (n : ℕ) → ((k : ℕ) (i : FromEmitter T) → slice_get is k ≡ Some i → i.hub.0 ≡ n → ⊥) → (published_in n gs ≡ []) × (signals_at n more ≡ [])
  elsewhere gs more [] es h n apart = (ap (published_in n) h.0, ap (signals_at n) h.1)
  elsewhere gs more (i ∷ is) [] h n apart = absurd h
  elsewhere gs more (i ∷ is) (e ∷ es) h n apart =
      let p = passed gs more i e h.0 n (apart 0 i refl) in
      let r = elsewhere h.0.later h.0.others is es h.1 n (λ k j y. apart (suc k) j y) in
      (p.0 ∙ r.0, p.1 ∙ r.1)

  -- that of the first
  emitter_first : (gs : List (Event T)) (more : List (HubId × Signal T)) (a : FromEmitter T) (c : Emitter T) → (x : EmitterLeft gs more a c) → published_in a.hub.0 x.later ≡ [] → signals_at a.hub.0 x.others ≡ [] → EmitterFound gs more a c
  emitter_first gs more a c x quiet none =
      let ps = publishes a.hub x.taken in
      let past : published_in a.hub.0 gs ≡ x.taken = ap (published_in a.hub.0) x.told ∙ (flat_map-append (published_by a.hub.0) ps x.later ∙ (ap (λ l. published_in a.hub.0 ps ++ l) quiet ∙ (append-nil (published_in a.hub.0 ps) ∙ publishes_here a.hub x.taken a.hub.0 refl))) in
      let rest : signals_at a.hub.0 more ≡ x.rest = ap (signals_at a.hub.0) x.left ∙ (flat_map-append (signal_at a.hub.0) (named a.hub x.rest) x.others ∙ (ap (λ l. signals_at a.hub.0 (named a.hub x.rest) ++ l) none ∙ (append-nil (signals_at a.hub.0 (named a.hub x.rest)) ∙ hub_here a.hub x.rest a.hub.0 refl))) in
      record {
        remaining = x.remaining;
        sent = x.sent;
        parts = x.parts ∙ (ap (λ l. l ++ x.rest) (sym past) ∙ ap (λ l. published_in a.hub.0 gs ++ l) (sym rest));
        state = x.state;
        refused = subst (λ l. IsFirstRefused x.state a.hub l) (sym rest) x.refused;
      }

  emitter_here : (gs : List (Event T)) (more : List (HubId × Signal T)) (a : FromEmitter T) (is : List (FromEmitter T)) (c : Emitter T) (es : List (Emitter T)) → AllEmittersLeft gs more (a ∷ is) (c ∷ es) → ((k : ℕ) (i : FromEmitter T) → slice_get is k ≡ Some i → i.hub.0 ≡ a.hub.0 → ⊥) → (i : FromEmitter T) (e : Emitter T) → a ≡ i → c ≡ e → EmitterFound gs more i e
  emitter_here gs more a is c es h apart i e same emitter =
      let r = elsewhere h.0.later h.0.others is es h.1 a.hub.0 apart in
      let it : EmitterFound gs more a c = emitter_first gs more a c h.0 r.0 r.1 in
      subst (λ (y : FromEmitter T). EmitterFound gs more y e) same (subst (λ (y : Emitter T). EmitterFound gs more a y) emitter it)

  -- that of another one
  emitter_behind : (gs : List (Event T)) (more : List (HubId × Signal T)) (a : FromEmitter T) (c : Emitter T) → (x : EmitterLeft gs more a c) → (i : FromEmitter T) (e : Emitter T) → (a.hub.0 ≡ i.hub.0 → ⊥) → EmitterFound x.later x.others i e → EmitterFound gs more i e
  emitter_behind gs more a c x i e other it =
      let p = passed gs more a c x i.hub.0 other in record {
        remaining = it.remaining;
        sent = it.sent;
        parts = it.parts ∙ (ap (λ l. l ++ signals_at i.hub.0 x.others) (sym p.0) ∙ ap (λ l. published_in i.hub.0 gs ++ l) (sym p.1));
        state = it.state;
        refused = subst (λ l. IsFirstRefused it.state i.hub l) (sym p.1) it.refused;
      }

  pub emitter_found : (gs : List (Event T)) (more : List (HubId × Signal T)) (is : List (FromEmitter T)) (es : List (Emitter T)) → ((j k : ℕ) (a b : FromEmitter T) → slice_get is j ≡ Some a → slice_get is k ≡ Some b → a.hub.0 ≡ b.hub.0 → j ≡ k) → AllEmittersLeft gs more is es →
      (k : ℕ) (i : FromEmitter T) (e : Emitter T) → slice_get is k ≡ Some i → slice_get es k ≡ Some e → EmitterFound gs more i e
  emitter_found gs more [] es apart h k i e f g = cc
  emitter_found gs more (a ∷ is) [] apart h k i e f g = absurd h
  emitter_found gs more (a ∷ is) (c ∷ es) apart h zero i e f g =
      emitter_here gs more a is c es h (λ k j y z. zero_not k (apart zero (suc k) a j refl y (sym z))) i e (same_some a i f) (same_some c e g)
  emitter_found gs more (a ∷ is) (c ∷ es) apart h (suc k) i e f g =
      emitter_behind gs more a c h.0 i e (λ y. zero_not k (apart zero (suc k) a i refl f y)) (emitter_found h.0.later h.0.others is es (λ j l p q y z w. same_before j l (apart (suc j) (suc l) p q y z w)) h.1 k i e f g)
