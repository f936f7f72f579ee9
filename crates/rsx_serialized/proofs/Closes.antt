-- A graph that came back from behind its gate gives its links up.
use Rattle.std.proofs.Common.{◌≡◌, ℕ, suc, ◌+◌, ◌-◌, ◌<◌, ◌≤◌, Bool, true, false, ◌||◌, nat_eq, List, [], ◌∷◌, ◌++◌, append_assoc, length, refl, ap, sym, ◌∙◌, subst, arith, eq-eqb, Option, Some, None, slice_get}
use Rattle.std.specs.Option.{option_to_list}
use Rattle.std.proofs.lemmas.Bool.{ne_eqb}
use Rattle.std.proofs.lemmas.List.{append-nil}
use Rattle.rsx_demand.specs.declared.TheConstants.{UNBOUNDED}
use Rattle.rsx_types.specs.Meaning.{Meaning}
use Rattle.rsx_types.specs.declared.names.HubId.{HubId}
use Rattle.rsx_types.specs.declared.names.SubId.{SubId}
use Rattle.rsx_types.specs.declared.signal.Signal.{Signal}
use Rattle.rsx_types.specs.declared.ops.Ops.{Ghosts as Ops}
use Rattle.rsx_graph.specs.InGraph.{StandsAfter, state_of}
use Rattle.rsx_graph.specs.Rows.{History, with_published}
use Rattle.rsx_graph.specs.Stands.{GraphStands, GraphState}
use Rattle.rsx_graph.specs.declared.graph.Graph.{Graph}
use Rattle.rsx_link.specs.Ends.{Closes, asked_total, cancel_parts, cancels_of, down_steps, received_signals, seen_total, sent_signals, up_steps}
use Rattle.rsx_link.specs.Link.{is_positive}
use Rattle.rsx_link.specs.Parts.{IsWhole}
use Rattle.rsx_link.specs.Steps.{flags_of, has_cancel, has_refusal, is_refused}
use Rattle.rsx_link.specs.declared.cancel.CancelSeat.{CancelSeat}
use Rattle.rsx_link.specs.declared.closed.Closed.{Closed as ClosedLink}
use Rattle.rsx_link.specs.declared.down.Down.{Down}
use Rattle.rsx_link.specs.declared.link.Link.{Link}
use Rattle.rsx_link.specs.declared.up.Up.{Up}
use Rattle.rsx_runtime.specs.declared.emitter.Emitter.{Emitter}
use Rattle.rsx_runtime.specs.declared.tap.Tap.{Tap}
use Rattle.rsx_serialized.specs.Closing.{AllEmittersLeft, AllTapsLeft, AreEmitterEnds, AreTapEnds, EmitterCloses, EmitterLeft, EmittersClose, IsEmitterEnd, IsStoppedBy, IsTapEnd, Publishes, TapCloses, TapLeft, TapsClose, named, signals_at}
use Rattle.rsx_serialized.specs.Ends.{IsPassedOn, held, is_flagged}
use Rattle.rsx_serialized.specs.Events.{signals_for}
use Rattle.rsx_serialized.specs.Regions.{StandsSince}
use Rattle.rsx_serialized.specs.Resting.{IsNotTaken}
use Rattle.rsx_serialized.specs.Told.{asks, publishes, stops}
use Rattle.rsx_serialized.specs.declared.ends.FromEmitter.{FromEmitter}
use Rattle.rsx_serialized.specs.declared.ends.ToTap.{ToTap}
use Rattle.rsx_serialized.proofs.Goes.{either_flag, stands_on}
use Rattle.rsx_serialized.proofs.Steps.{choose_false, choose_true}

-- ---- lists that are gone through

pub took_first : {X : Type 0} (old new : List X) (o : Option X) (x : X) → old ≡ option_to_list o ++ new → o ≡ Some x → old ≡ x ∷ new
took_first {X} old new o x all is = all ∙ ap (λ (z : Option X). option_to_list z ++ new) is

pub none_left : {X : Type 0} (xs : List X) (len : ℕ) → len ≡ length xs → len ≡ 0 → xs ≡ []
none_left [] len is none = refl
none_left (x ∷ xs) len is none = absurd (let l = is in omega (arith, l, none))

pub len_left : {X : Type 0} (all rest : List X) (x : X) (len len' : ℕ) → all ≡ x ∷ rest → len ≡ length all → len' + 1 ≡ len → len' ≡ length rest
len_left all rest x len len' e size one =
    let k : length all ≡ suc (length rest) = ap length e in
    omega (arith, k, size, one)

-- a list that begins so has a first element
pub some_first : {X : Type 0} (old new : List X) (o : Option X) (x : X) (xs : List X) → old ≡ option_to_list o ++ new → old ≡ x ∷ xs → (n : ℕ) → n ≡ length old → (o ≡ None → n ≡ 0) → o ≡ None → ⊥
some_first old new o x xs all is n long none e =
    let k : length old ≡ suc (length xs) = ap length is in
    let z = none e in
    omega (arith, k, long, z)

-- the first and the rest of a list are those
pub same_first : {X : Type 0} (x y : X) (xs ys : List X) → x ∷ xs ≡ y ∷ ys → x ≡ y
same_first x y xs ys e = cc

pub same_rest : {X : Type 0} (x y : X) (xs ys : List X) → x ∷ xs ≡ y ∷ ys → xs ≡ ys
same_rest x y xs ys e = cc

or_left : (x y : Bool) → x ≡ true → x || y ≡ true
or_left true y e = refl
or_left false y e = cc

or_right : (x y : Bool) → y ≡ true → x || y ≡ true
or_right true y e = refl
or_right false y e = e

-- a list of so many elements and one more has a first one
record Longer {X : Type 0} (xs : List X) : Type 0 where
  first : X
  rest : List X
  is : xs ≡ first ∷ rest

longer : {X : Type 0} (xs : List X) (n : ℕ) → length xs ≡ suc n → Longer xs
longer [] n e = cc
longer (x ∷ xs) n e = record { first = x; rest = xs; is = refl }

some_there : {X : Type 0} (xs : List X) → 0 < length xs → Longer xs
some_there [] lt = absurd (omega (arith, lt))
some_there (x ∷ xs) lt = record { first = x; rest = xs; is = refl }

-- how many the others are
fewer : {X : Type 0} (xs rest : List X) (x : X) (n : ℕ) → xs ≡ x ∷ rest → length xs ≡ suc n → n ≡ length rest
fewer xs rest x n e k = let l : length xs ≡ suc (length rest) = ap length e in omega (arith, k, l)

module _ {T : Type 0} where
  -- ---- signals with names

  pub named_here : (i : SubId) (ss : List (Signal T)) (k : ℕ) → i.0 ≡ k → signals_for k (named i ss) ≡ ss
  named_here i [] k e = refl
  named_here i (s ∷ ss) k e = ap (λ l. l ++ signals_for k (named i ss)) (choose_true (nat_eq i.0 k) (s ∷ []) [] (eq-eqb i.0 k e)) ∙ ap (λ l. s ∷ l) (named_here i ss k e)

  pub named_elsewhere : (i : SubId) (ss : List (Signal T)) (k : ℕ) → (i.0 ≡ k → ⊥) → signals_for k (named i ss) ≡ []
  named_elsewhere i [] k e = refl
  named_elsewhere i (s ∷ ss) k e = ap (λ l. l ++ signals_for k (named i ss)) (choose_false (nat_eq i.0 k) (s ∷ []) [] (ne_eqb i.0 k e)) ∙ named_elsewhere i ss k e

  pub hub_here : (i : HubId) (ss : List (Signal T)) (k : ℕ) → i.0 ≡ k → signals_at k (named i ss) ≡ ss
  hub_here i [] k e = refl
  hub_here i (s ∷ ss) k e = ap (λ l. l ++ signals_at k (named i ss)) (choose_true (nat_eq i.0 k) (s ∷ []) [] (eq-eqb i.0 k e)) ∙ ap (λ l. s ∷ l) (hub_here i ss k e)

  pub hub_elsewhere : (i : HubId) (ss : List (Signal T)) (k : ℕ) → (i.0 ≡ k → ⊥) → signals_at k (named i ss) ≡ []
  hub_elsewhere i [] k e = refl
  hub_elsewhere i (s ∷ ss) k e = ap (λ l. l ++ signals_at k (named i ss)) (choose_false (nat_eq i.0 k) (s ∷ []) [] (ne_eqb i.0 k e)) ∙ hub_elsewhere i ss k e

  -- ---- ends, one after the other

  pub emitter_ends : (ls : List (Link T)) (is : List (FromEmitter T)) (es : List (Emitter T)) → length is ≡ length ls → length es ≡ length ls →
      ((k : ℕ) (l : Link T) (i : FromEmitter T) (e : Emitter T) → slice_get ls k ≡ Some l → slice_get is k ≡ Some i → slice_get es k ≡ Some e → IsEmitterEnd i l e) → AreEmitterEnds is ls es
  emitter_ends ls [] es c d f = (none_left ls (length ls) refl (sym c), none_left es (length es) refl (d ∙ sym c))
  emitter_ends ls (i ∷ is) es c d f =
      let n = length is in
      let a = longer ls n (sym c) in
      let b = longer es n (d ∙ sym c) in
      let p = fewer ls a.rest a.first n a.is (sym c) in
      let q = fewer es b.rest b.first n b.is (d ∙ sym c) in (
        record { link = a.first; links = a.rest; other = b.first; others = b.rest; link_first = a.is; other_first = b.is },
        f 0 a.first i b.first (ap (λ l. slice_get l 0) a.is) refl (ap (λ l. slice_get l 0) b.is),
        emitter_ends a.rest is b.rest p (sym q ∙ p) (λ k x y z u v w. f (suc k) x y z (ap (λ l. slice_get l (suc k)) a.is ∙ u) v (ap (λ l. slice_get l (suc k)) b.is ∙ w)),
      )

  pub tap_ends : (ls : List (Link T)) (os : List (ToTap T)) (ts : List (Tap T)) → length os ≡ length ls → length ts ≤ length ls →
      ((k : ℕ) (l : Link T) (o : ToTap T) (t : Tap T) → slice_get ls k ≡ Some l → slice_get os k ≡ Some o → slice_get ts k ≡ Some t → IsTapEnd o l t) → AreTapEnds os ls ts
  tap_ends ls os [] c d f = tt
  tap_ends ls os (t ∷ ts) c d f =
      let a = some_there ls (omega (arith, d)) in
      let b = some_there os (omega (arith, c, d)) in
      let p : length ls ≡ suc (length a.rest) = ap length a.is in
      let q : length os ≡ suc (length b.rest) = ap length b.is in (
        record { link = a.first; links = a.rest; other = b.first; others = b.rest; link_first = a.is; other_first = b.is },
        f 0 a.first b.first t (ap (λ l. slice_get l 0) a.is) (ap (λ l. slice_get l 0) b.is) refl,
        tap_ends a.rest b.rest ts (omega (arith, c, p, q)) (omega (arith, d, p)) (λ k x y z u v w. f (suc k) x y z (ap (λ l. slice_get l (suc k)) a.is ∙ u) (ap (λ l. slice_get l (suc k)) b.is ∙ v) w),
      )

  -- the same lists
  pub same_emitter_ends : (is js : List (FromEmitter T)) (ls ms : List (Link T)) (es fs : List (Emitter T)) → is ≡ js → ls ≡ ms → es ≡ fs → AreEmitterEnds js ms fs → AreEmitterEnds is ls es
  same_emitter_ends is js ls ms es fs a b c h =
      subst (λ (x : List (FromEmitter T)). AreEmitterEnds x ls es) (sym a) (subst (λ (x : List (Link T)). AreEmitterEnds js x es) (sym b) (subst (λ (x : List (Emitter T)). AreEmitterEnds js ms x) (sym c) h))

  pub same_tap_ends : (os ps : List (ToTap T)) (ls ms : List (Link T)) (ts us : List (Tap T)) → os ≡ ps → ls ≡ ms → ts ≡ us → AreTapEnds ps ms us → AreTapEnds os ls ts
  same_tap_ends os ps ls ms ts us a b c h =
      subst (λ (x : List (ToTap T)). AreTapEnds x ls ts) (sym a) (subst (λ (x : List (Link T)). AreTapEnds ps x ts) (sym b) (subst (λ (x : List (Tap T)). AreTapEnds ps ms x) (sym c) h))

  -- ---- one link of an emitter

  -- nothing is left to publish
  pub publishes_none : (m : Meaning T) (hub : HubId) (all : List (Signal T)) (g : GraphState T) (before : List (HubId × Signal T)) → all ≡ [] → Publishes m hub all g g before before
  publishes_none m hub all g before none = record {
    taken = [];
    rest = [];
    parts = none;
    stands = λ h k. k;
    put = sym (append-nil before);
    refused = tt;
  }

  -- the first was published
  pub publishes_one : (m : Meaning T) (hub : HubId) (all left : List (Signal T)) (s : Signal T) (a b c : GraphState T) (before after : List (HubId × Signal T)) → all ≡ s ∷ left → ((h : History T) → GraphStands m a h → GraphStands m b (with_published s hub h)) →
      Publishes m hub left b c before after → Publishes m hub all a c before after
  publishes_one m hub all left s a b c before after is one p = record {
    taken = s ∷ p.taken;
    rest = p.rest;
    parts = is ∙ ap (λ l. s ∷ l) p.parts;
    stands = λ h k. p.stands (with_published s hub h) (one h k);
    put = p.put;
    refused = p.refused;
  }

  -- the hub did not take the first
  pub publishes_back : (m : Meaning T) (hub : HubId) (all left : List (Signal T)) (s back : Signal T) (a b : GraphState T) (before mid after : List (HubId × Signal T)) → all ≡ s ∷ left → back ≡ s → b ≡ a → IsNotTaken a hub back → mid ≡ before ++ (hub, back) ∷ [] → after ≡ mid ++ named hub left →
      Publishes m hub all a b before after
  publishes_back m hub all left s back a b before mid after is same still refused put rest =
      let whole : all ≡ back ∷ left = is ∙ ap (λ (x : Signal T). x ∷ left) (sym same) in
      record {
        taken = [];
        rest = back ∷ left;
        parts = whole;
        stands = λ h k. subst (λ (x : GraphState T). GraphStands m x h) (sym still) k;
        put = rest ∙ (ap (λ l. l ++ named hub left) put ∙ append_assoc before ((hub, back) ∷ []) (named hub left));
        refused = subst (λ (x : GraphState T). IsNotTaken x hub back) (sym still) refused;
      }

  pub emitter_closes : (m : Meaning T) (i : FromEmitter T) (e : Emitter T) (u : Up T) (r : ClosedLink T) (a b : GraphState T) (before after : List (HubId × Signal T)) → u ≡ e.up → Closes u i.down i.seat r → Publishes m i.hub (held i ++ r.remaining) a b before after → EmitterCloses m i e a b before after
  emitter_closes m i e u r a b before after up closes ends = record {
    remaining = r.remaining;
    sent = closes.signals ∙ ap sent_signals up;
    ends = ends;
  }

  -- ---- one link of a tap

  pub passed_on : (o : ToTap T) (n : ℕ) → IsPassedOn o → seen_total o.up ≤ n → o.asked ≤ n
  passed_on o n passed le = let p = passed.most in omega (arith, p, le)

  pub total_bounded : (d : Down T) → asked_total d ≤ UNBOUNDED
  total_bounded d = subst (λ (n : ℕ). n ≤ UNBOUNDED) d.asks d.demand.bounded

  pub tap_stopped : (t : Tap T) (u : Up T) (d : Down T) (c : CancelSeat) (r : ClosedLink T) (stopped : Bool) → d ≡ t.down → c ≡ t.seat → Closes u d c r → stopped ≡ r.cancelled || r.refused → IsStoppedBy t stopped
  tap_stopped t u d c r stopped down seat closes is =
      let D : Down T → Type 0 = λ x. is_refused (down_steps x) ≡ true → stopped ≡ true in
      let C : CancelSeat → Type 0 = λ x. 0 < cancels_of x → stopped ≡ true in
      record {
        cancelled = subst C seat (λ h. is ∙ or_left r.cancelled r.refused (closes.cancelled h));
        refused = subst D down (λ h. is ∙ or_right r.cancelled r.refused (closes.refused ∙ h));
        whole = λ h.
            let w : r.cancelled ≡ is_positive (cancels_of c) = closes.whole (subst (λ (x : CancelSeat). IsWhole (cancel_parts x)) (sym seat) h) in
            is ∙ (ap (λ x. x || r.refused) (w ∙ ap (λ x. is_positive (cancels_of x)) seat) ∙ ap (λ x. is_positive (cancels_of t.seat) || x) (closes.refused ∙ ap (λ x. is_refused (down_steps x)) down));
      }

  pub tap_seen : (u : Up T) (d : Down T) (c : CancelSeat) (r : ClosedLink T) (stopped : Bool) → Closes u d c r → stopped ≡ r.cancelled || r.refused → is_flagged u ≡ true → stopped ≡ true
  tap_seen u d c r stopped closes is h =
      is ∙ either_flag (has_cancel (flags_of (up_steps u))) (has_refusal (flags_of (up_steps u))) (r.cancelled || r.refused) (λ x. or_left r.cancelled r.refused (closes.cancel_seen x)) (λ x. or_right r.cancelled r.refused (closes.refusal_seen x)) h

  pub tap_closes : (m : Meaning T) (sub : SubId) (o : ToTap T) (t : Tap T) (d : Down T) (c : CancelSeat) (r : ClosedLink T) (stopped : Bool) (n : ℕ) (g h : GraphState T) (before after : List (SubId × Signal T)) → d ≡ t.down → c ≡ t.seat → Closes o.up d c r → IsPassedOn o →
      stopped ≡ r.cancelled || r.refused → n ≡ r.asked - o.asked → StandsSince m (asks sub n ++ stops sub stopped) g h → after ≡ before ++ named sub r.remaining → TapCloses m sub o t g h before after
  tap_closes m sub o t d c r stopped n g h before after down seat closes passed is items stands put =
      let le = passed_on o r.asked passed closes.seen in
      let all : r.asked ≡ asked_total d = closes.asked in
      let total : asked_total d ≡ o.asked + n = omega (arith, le, all, items) in
      record {
        rest = r.remaining;
        sent = ap (λ (x : Down T). received_signals x ++ r.remaining) (sym down) ∙ closes.signals;
        items = n;
        asked = ap (λ (x : Down T). asked_total x) (sym down) ∙ total;
        stopped = stopped;
        why = tap_stopped t o.up d c r stopped down seat closes is;
        seen = tap_seen o.up d c r stopped closes is;
        stands = stands;
        put = put;
      }

  -- ---- all links of taps

  pub taps_none : (m : Meaning T) (at : ℕ) (os : List (ToTap T)) (ts : List (Tap T)) (g : GraphState T) (before : List (SubId × Signal T)) → ts ≡ [] → TapsClose m at os ts g g before before
  taps_none m at os [] g before none = record {
    events = [];
    stands = λ h k. k;
    more = [];
    put = sym (append-nil before);
    left = (refl, refl);
  }
  taps_none m at os (t ∷ ts) g before none = cc

  pub taps_more : (m : Meaning T) (at next : ℕ) (sub : SubId) (all os : List (ToTap T)) (every ts : List (Tap T)) (o : ToTap T) (t : Tap T) (a b c : GraphState T) (x y z : List (SubId × Signal T)) → all ≡ o ∷ os → every ≡ t ∷ ts → sub.0 ≡ at → next ≡ suc at →
      TapCloses m sub o t a b x y → TapsClose m next os ts b c y z → TapsClose m at all every a c x z
  taps_more m at next sub all os every ts o t a b c x y z first tap is one f g =
      let told = asks sub f.items ++ stops sub f.stopped in
      let later : AllTapsLeft (suc at) g.events g.more os ts = subst (λ (n : ℕ). AllTapsLeft n g.events g.more os ts) one g.left in
      let here : TapLeft at (told ++ g.events) (named sub f.rest ++ g.more) o t = record {
        sub = sub;
        is = is;
        rest = f.rest;
        sent = f.sent;
        items = f.items;
        asked = f.asked;
        stopped = f.stopped;
        why = f.why;
        seen = f.seen;
        others = g.more;
        left = refl;
        later = g.events;
        told = refl;
      } in
      let both : AllTapsLeft at (told ++ g.events) (named sub f.rest ++ g.more) (o ∷ os) (t ∷ ts) = (here, later) in
      record {
        events = told ++ g.events;
        stands = stands_on m told g.events a b c f.stands g.stands;
        more = named sub f.rest ++ g.more;
        put = g.put ∙ (ap (λ l. l ++ g.more) f.put ∙ append_assoc x (named sub f.rest) g.more);
        left = subst (λ (l : List (ToTap T)). AllTapsLeft at (told ++ g.events) (named sub f.rest ++ g.more) l every) (sym first) (subst (λ (l : List (Tap T)). AllTapsLeft at (told ++ g.events) (named sub f.rest ++ g.more) (o ∷ os) l) (sym tap) both);
      }

  -- ---- all links of emitters

  pub emitters_none : (m : Meaning T) (is : List (FromEmitter T)) (ls : List (Link T)) (es : List (Emitter T)) (g : GraphState T) (before : List (HubId × Signal T)) → is ≡ [] → AreEmitterEnds is ls es → EmittersClose m is es g g before before
  emitters_none m [] ls es g before none ends = record {
    events = [];
    stands = λ h k. k;
    more = [];
    put = sym (append-nil before);
    left = (refl, refl, ends.1);
  }
  emitters_none m (i ∷ is) ls es g before none ends = cc

  pub emitters_more : (m : Meaning T) (all is : List (FromEmitter T)) (every es : List (Emitter T)) (i : FromEmitter T) (e : Emitter T) (a b c : GraphState T) (x y z : List (HubId × Signal T)) → all ≡ i ∷ is → every ≡ e ∷ es → EmitterCloses m i e a b x y → EmittersClose m is es b c y z → EmittersClose m all every a c x z
  emitters_more m all is every es i e a b c x y z first emitter f g =
      let told = publishes i.hub f.ends.taken in
      let gs = told ++ g.events in
      let more = named i.hub f.ends.rest ++ g.more in
      let here : EmitterLeft gs more i e = record {
        remaining = f.remaining;
        sent = f.sent;
        taken = f.ends.taken;
        rest = f.ends.rest;
        parts = f.ends.parts;
        state = b;
        refused = f.ends.refused;
        others = g.more;
        left = refl;
        later = g.events;
        told = refl;
      } in
      let both : AllEmittersLeft gs more (i ∷ is) (e ∷ es) = (here, g.left) in record {
        events = gs;
        stands = stands_on m told g.events a b c f.ends.stands g.stands;
        more = more;
        put = g.put ∙ (ap (λ l. l ++ g.more) f.ends.put ∙ append_assoc x (named i.hub f.ends.rest) g.more);
        left = subst (λ (l : List (FromEmitter T)). AllEmittersLeft gs more l every) (sym first) (subst (λ (l : List (Emitter T)). AllEmittersLeft gs more (i ∷ is) l) (sym emitter) both);
      }

module _ {O T : Type 0} {b : Ops O T} where
  pub taps_step : (f g h : Graph O T b) (at next : ℕ) (sub : SubId) (all os : List (ToTap T)) (every ts : List (Tap T)) (o : ToTap T) (t : Tap T) (x y z : List (SubId × Signal T)) → all ≡ o ∷ os → every ≡ t ∷ ts → sub.0 ≡ at → next ≡ suc at → g.ops ≡ f.ops →
      TapCloses (b.meaning f.ops) sub o t (state_of f) (state_of g) x y → TapsClose (b.meaning g.ops) next os ts (state_of g) (state_of h) y z → TapsClose (b.meaning f.ops) at all every (state_of f) (state_of h) x z
  taps_step f g h at next sub all os every ts o t x y z first tap is one ops here later =
      taps_more (b.meaning f.ops) at next sub all os every ts o t (state_of f) (state_of g) (state_of h) x y z first tap is one here (subst (λ (p : O). TapsClose (b.meaning p) next os ts (state_of g) (state_of h) y z) ops later)

  pub emitters_step : (f g h : Graph O T b) (all is : List (FromEmitter T)) (every es : List (Emitter T)) (i : FromEmitter T) (e : Emitter T) (x y z : List (HubId × Signal T)) → all ≡ i ∷ is → every ≡ e ∷ es → g.ops ≡ f.ops →
      EmitterCloses (b.meaning f.ops) i e (state_of f) (state_of g) x y → EmittersClose (b.meaning g.ops) is es (state_of g) (state_of h) y z → EmittersClose (b.meaning f.ops) all every (state_of f) (state_of h) x z
  emitters_step f g h all is every es i e x y z first emitter ops here later =
      emitters_more (b.meaning f.ops) all is every es i e (state_of f) (state_of g) (state_of h) x y z first emitter here (subst (λ (p : O). EmittersClose (b.meaning p) is es (state_of g) (state_of h) y z) ops later)

  pub publishes_step : (f g h : Graph O T b) (hub : HubId) (all left : List (Signal T)) (s : Signal T) (before after : List (HubId × Signal T)) → all ≡ s ∷ left → g.ops ≡ f.ops → StandsAfter (with_published s hub) f g →
      Publishes (b.meaning g.ops) hub left (state_of g) (state_of h) before after → Publishes (b.meaning f.ops) hub all (state_of f) (state_of h) before after
  publishes_step f g h hub all left s before after is ops one later =
      publishes_one (b.meaning f.ops) hub all left s (state_of f) (state_of g) (state_of h) before after is (λ x k. one x k) (subst (λ (p : O). Publishes (b.meaning p) hub left (state_of g) (state_of h) before after) ops later)
