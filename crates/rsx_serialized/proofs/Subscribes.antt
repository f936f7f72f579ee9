-- A subscription more in a region, and behind a gate.
use Rattle.std.proofs.Common.{Vec, Global, ◌≡◌, ℕ, suc, ◌+◌, ◌<◌, ◌≤◌, List, [], ◌∷◌, ◌++◌, length, length-append, refl, ap, sym, ◌∙◌, subst, arith, Result, Ok, Err, IfErr, Some, slice_get, slice_index_or}
use Rattle.std.specs.List.{remove}
use Rattle.std.proofs.lemmas.List.{append-nil}
use Rattle.atomic_table.specs.declared.shared.Seat.{Seat}
use Rattle.rsx_types.specs.declared.names.SubId.{SubId}
use Rattle.rsx_types.specs.declared.ops.Ops.{Ghosts as Ops}
use Rattle.rsx_types.specs.declared.signal.Signal.{Signal}
use Rattle.rsx_gate.specs.Plays.{IsHeld}
use Rattle.rsx_gate.specs.Seats.{Holds, IsSeatOf, key_of, seat_with_value}
use Rattle.rsx_gate.specs.declared.gate.Gate.{Gate}
use Rattle.rsx_gate.specs.declared.view.Step.{Step}
use Rattle.rsx_gate.specs.declared.view.Step.TheVariants.{Enter, GiveUp}
use Rattle.rsx_gate.specs.declared.view.View.{View}
use Rattle.rsx_graph_calls.specs.Subscribing.{with_subscriber}
use Rattle.rsx_graph.specs.InGraph.{StandsAfter, state_of}
use Rattle.rsx_graph.specs.Stands.{GraphStands, GraphState}
use Rattle.rsx_link.specs.declared.link.Link.{Link}
use Rattle.rsx_runtime.specs.Tapping.{IsTapOf}
use Rattle.rsx_runtime.specs.declared.tap.Tap.{Tap}
use Rattle.rsx_subscriber.specs.Prelude.{Expr}
use Rattle.rsx_serialized.specs.Calls.{IsAt}
use Rattle.rsx_serialized.specs.Ends.{Beside, InletGoes, OutletGoes}
use Rattle.rsx_serialized.specs.Events.{AreFor, Event, signals_for, subscribed}
use Rattle.rsx_serialized.specs.Gates.{Fits, HasFitting}
use Rattle.rsx_serialized.specs.Regions.{AreEndsOf, AreInletsOf, AreOutletsOf, AreSpare, GoesBy, GoesOn, IsSpare, OutletsGo}
use Rattle.rsx_serialized.specs.Started.{AreTapsOf, IsStarted, IsTapAt}
use Rattle.rsx_serialized.specs.Subscribing.{HasSubscribed, HasSubscribedBehind, HasTried, IsNotAdded, IsNotSubscribed, IsNotSubscribedBehind, IsSameRegion, KeepsOn}
use Rattle.rsx_serialized.specs.declared.ends.FromEmitter.{FromEmitter}
use Rattle.rsx_serialized.specs.declared.ends.ToTap.{ToTap}
use Rattle.rsx_serialized.specs.declared.opening.Opening.{Opening}
use Rattle.rsx_serialized.specs.declared.region.GraphRegion.{GraphRegion}
use Rattle.rsx_serialized.specs.declared.region.Links.{Links}
use Rattle.rsx_serialized.specs.declared.starting.StartedGraph.{StartedGraph}
use Rattle.rsx_serialized.specs.declared.subscribing.NotAdded.TheVariants.{NoMemory}
use Rattle.rsx_serialized.specs.declared.subscribing.NotSubscribed.{NotSubscribed}
use Rattle.rsx_serialized.specs.declared.subscribing.NotSubscribed.TheVariants.{Busy, NoPlace, Refused}
use Rattle.rsx_serialized.proofs.Gates.{held_now, held_served}
use Rattle.rsx_serialized.proofs.Goes.{goes_by_same, no_more}
use Rattle.rsx_serialized.proofs.Lists.{beside_same, few_push, there}
use Rattle.rsx_serialized.proofs.Regions.{inlet_still, outlet_still, spare_as}

one_more : (n m l : ℕ) → l ≡ m → m ≡ n + 1 → l ≡ n + 1
one_more n m l e f = omega arith

up_to : (n m : ℕ) → m ≡ n + 1 → n ≤ m
up_to n m e = omega arith

lower : (a n m : ℕ) → a < n → n ≤ m → a < m
lower a n m lt le = omega arith

-- the first was taken out of a list
pub removed_first : {X : Type 0} (all rest : List X) (x : X) → 0 < length all → x ≡ slice_index_or all 0 x → rest ≡ remove all 0 → all ≡ x ∷ rest
removed_first [] rest x some e f = absurd (omega (arith, some))
removed_first (y ∷ ys) rest x some e f =
    let one : x ≡ y = e in
    let others : rest ≡ ys = f in
    cc

module _ {T : Type 0} where
  -- one that is there is there among more
  for_more : (n m : ℕ) (ds : List (SubId × Signal T)) → n ≤ m → AreFor n ds → AreFor m ds
  for_more n m [] le h = tt
  for_more n m (d ∷ ds) le h = (lower d.0.0 n m h.0 le, for_more n m ds le h.1)

  -- the taps but for the first, where one subscription more is there
  spare_rest : (links : List (Link T)) (n m : ℕ) (t : Tap T) (all rest : List (Tap T)) → m ≡ n + 1 → all ≡ t ∷ rest → AreSpare links n all → AreSpare links m rest
  spare_rest links n m t all rest one first h =
      let total = h.count in
      let long : length all ≡ suc (length rest) = ap length first in record {
        count = omega (arith, total, long, one);
        each = λ k l u at here.
            let e : n + suc k ≡ m + k = omega (arith, one) in
            subst (λ (j : ℕ). IsSpare j l u) e (h.each (suc k) l u (ap (slice_get links) e ∙ at) (ap (λ (x : List (Tap T)). slice_get x (suc k)) first ∙ here));
      }

  -- the first of them
  spare_first : (links : List (Link T)) (n : ℕ) (t : Tap T) (all rest : List (Tap T)) → all ≡ t ∷ rest → AreSpare links n all → (t.link ≡ n) × IsAt links t.link (λ l. IsSpare t.link l t)
  spare_first links n t all rest first h =
      let total = h.count in
      let long : length all ≡ suc (length rest) = ap length first in
      let l = there links n (omega (arith, total, long)) in
      let e : n + 0 ≡ n = omega arith in
      let at : slice_get links (n + 0) ≡ Some l.0 = ap (slice_get links) e ∙ l.1 in
      let it = h.each 0 l.0 t at (ap (λ (x : List (Tap T)). slice_get x 0) first) in
      (it.names.1 ∙ e, (l.0, ap (slice_get links) it.names.1 ∙ at, subst (λ (j : ℕ). IsSpare j l.0 t) (sym it.names.1) it))

  -- a tap of the next number stands behind the others
  pub tap_added : (links : List (Link T)) (ts us : List (Tap T)) (t : Tap T) → us ≡ ts ++ t ∷ [] → t.link ≡ length ts → t.sub.0 ≡ t.link → IsAt links t.link (λ l. IsTapOf l t) → AreTapsOf links ts → AreTapsOf links us
  tap_added links ts us t put place number at h =
      let A : List (Tap T) → Type 0 = λ l. AreTapsOf links l in
      subst A (sym put) (few_push IsTapAt links ts at.0 t (ap (slice_get links) (sym place) ∙ at.1) (place, number ∙ place, at.2) h)

  -- a fresh tap is over its link
  pub fresh_over : (links : List (Link T)) (t : Tap T) → IsAt links t.link (λ l. IsSpare t.link l t) → IsAt links t.link (λ l. IsTapOf l t)
  fresh_over links t h = (h.0, h.1, h.2.takes.0)

module _ {O T : Type 0} {b : Ops O T} where
  -- what has happened
  subscribe_goes : (e : Expr T) (r s : GraphRegion O T b) (x : List ℕ) → s.graph.ops ≡ r.graph.ops → StandsAfter (with_subscriber e) r.graph s.graph → (state_of s.graph).joins ≡ (state_of r.graph).joins ++ x ∷ [] → s.inlets ≡ r.inlets → s.outlets ≡ r.outlets → s.pending ≡ r.pending →
      GoesBy (b.meaning r.graph.ops) (subscribed e ∷ []) r s
  subscribe_goes e r s x ops stands joins ins outs waits =
      let es : List (Event T) = subscribed e ∷ [] in
      let old = r.pending.items in
      let new = s.pending.items in
      let one : length (state_of s.graph).joins ≡ length (state_of r.graph).joins + 1 = one_more _ _ _ (ap length joins) (length-append (state_of r.graph).joins (x ∷ [])) in
      let same : new ≡ old = ap (λ v. v.items) waits in
      let got : (k : ℕ) → signals_for k old ++ [] ≡ signals_for k new = λ k. append-nil (signals_for k old) ∙ ap (signals_for k) (sym same) in record {
        ops = ops;
        stands = λ h k. stands h k;
        inlets = subst (λ (l : List (FromEmitter T)). Beside (λ k. InletGoes es) r.inlets.items l) (ap (λ v. v.items) (sym ins)) (beside_same (λ k. InletGoes es) r.inlets.items (λ k a at. inlet_still es a refl));
        outlets = subst (λ (l : List (ToTap T)). OutletsGo es old new r.outlets.items l) (ap (λ v. v.items) (sym outs)) (beside_same (λ k. OutletGoes k es old new) r.outlets.items (λ k a at. outlet_still k es old new a (got k) refl (λ h. cc)));
        subs = one;
        events = tt;
        known = λ h. for_more (length (state_of r.graph).joins) (length (state_of s.graph).joins) new (up_to _ _ one) (subst (λ (l : List (SubId × Signal T)). AreFor (length (state_of r.graph).joins) l) (sym same) h);
      }

  -- the ends are those of the links still
  subscribe_ends : (links : Links T) (r s : GraphRegion O T b) (t : Tap T) (x : List ℕ) → (state_of s.graph).joins ≡ (state_of r.graph).joins ++ x ∷ [] → s.inlets ≡ r.inlets → s.outlets ≡ r.outlets → r.spare.items ≡ t ∷ s.spare.items → AreEndsOf links r → AreEndsOf links s
  subscribe_ends links r s t x joins ins outs first ends = record {
    inlets = subst (λ (l : List (FromEmitter T)). AreInletsOf links.emitters.items l) (ap (λ v. v.items) (sym ins)) ends.inlets;
    outlets = subst (λ (l : List (ToTap T)). AreOutletsOf links.taps.items l) (ap (λ v. v.items) (sym outs)) ends.outlets;
    spare = spare_rest links.taps.items (length (state_of r.graph).joins) (length (state_of s.graph).joins) t r.spare.items s.spare.items (one_more _ _ _ (ap length joins) (length-append (state_of r.graph).joins (x ∷ []))) first ends.spare;
  }

  module _ (e : Expr T) (r s : GraphRegion O T b) (t : Tap T) (x : List ℕ) (ops : s.graph.ops ≡ r.graph.ops) (stands : StandsAfter (with_subscriber e) r.graph s.graph) (joins : (state_of s.graph).joins ≡ (state_of r.graph).joins ++ x ∷ []) (ins : s.inlets ≡ r.inlets) (outs : s.outlets ≡ r.outlets) (waits : s.pending ≡ r.pending) (first : r.spare.items ≡ t ∷ s.spare.items) where
    pub subscribed_on : KeepsOn r s
    subscribed_on links ends = (subscribe_ends links r s t x joins ins outs first ends, (subscribed e ∷ [], subscribe_goes e r s x ops stands joins ins outs waits))

    pub has_subscribed : HasSubscribed e t r s
    has_subscribed = record {
      goes = subscribe_goes e r s x ops stands joins ins outs waits;
      tap = first;
      ends = (ins, outs, waits);
      place = λ links ends. (spare_first links.taps.items (length (state_of r.graph).joins) t r.spare.items s.spare.items first ends.spare).0;
      fresh = λ links ends. (spare_first links.taps.items (length (state_of r.graph).joins) t r.spare.items s.spare.items first ends.spare).1;
    }

  -- nothing changed
  pub same_on : (r s : GraphRegion O T b) → IsSameRegion r s → KeepsOn r s
  same_on r s h links ends =
      let m = b.meaning r.graph.ops in
      let joins : (state_of s.graph).joins ≡ (state_of r.graph).joins = ap (λ g. g.joins) h.state in
      let first : GoesBy m [] r r = goes_by_same m r in (
        record {
          inlets = subst (λ (l : List (FromEmitter T)). AreInletsOf links.emitters.items l) (ap (λ v. v.items) (sym h.ends.0)) ends.inlets;
          outlets = subst (λ (l : List (ToTap T)). AreOutletsOf links.taps.items l) (ap (λ v. v.items) (sym h.ends.1)) ends.outlets;
          spare = spare_as links.taps.items (length (state_of r.graph).joins) (length (state_of s.graph).joins) r.spare.items s.spare.items (ap length joins) (ap (λ v. v.items) h.ends.3) ends.spare;
        },
        (
          [],
          record {
            ops = h.ops;
            stands = λ x k. subst (λ (g : GraphState T). GraphStands m g x) (sym h.state) k;
            inlets = subst (λ (l : List (FromEmitter T)). Beside (λ k. InletGoes []) r.inlets.items l) (ap (λ v. v.items) (sym h.ends.0)) first.inlets;
            outlets = subst (λ (l : List (ToTap T)). OutletsGo [] r.pending.items s.pending.items r.outlets.items l) (ap (λ v. v.items) (sym h.ends.1)) (subst (λ (l : List (SubId × Signal T)). OutletsGo [] r.pending.items l r.outlets.items r.outlets.items) (ap (λ v. v.items) (sym h.ends.2)) first.outlets);
            subs = no_more (length (state_of r.graph).joins) (length (state_of s.graph).joins) (ap length joins);
            events = tt;
            known = λ k. subst (λ (l : List (SubId × Signal T)). AreFor (length (state_of s.graph).joins) l) (ap (λ v. v.items) (sym h.ends.2)) (subst (λ (n : ℕ). AreFor n r.pending.items) (ap length (sym joins)) k);
          },
        ),
      )

  -- ---- behind a gate

  module _ (g : Gate (GraphRegion O T b) (Opening O T b)) (old : Seat (GraphRegion O T b) (View (Opening O T b))) (r : GraphRegion O T b) (h : HasFitting g (Holds g old)) (value : (x : GraphRegion O T b) → Holds g old x → x ≡ r) where
    fits_before : Fits (key_of g) r
    fits_before = let F : GraphRegion O T b → Type 0 = λ x. Fits (key_of g) x in subst F (value h.0 h.1) h.2

    goes_on_behind : (s : GraphRegion O T b) → KeepsOn r s → GoesOn (key_of g).links.value r s
    goes_on_behind s keeps = keeps (key_of g).links.value fits_before.0

    pub held_kept : (s : GraphRegion O T b) → KeepsOn r s → HasFitting g (Holds g (seat_with_value old s))
    held_kept s keeps = held_served g (key_of g).links.value old (seat_with_value old s) r s refl h value refl (goes_on_behind s keeps)

    pub held_subscribed : (e : Expr T) (t : Tap T) (s : GraphRegion O T b) → KeepsOn r s → HasSubscribed e t r s → HasSubscribedBehind g e t
    held_subscribed e t s keeps x = (r, (s, x, (held_now g (key_of g).links.value old (seat_with_value old s) r s refl h value refl (goes_on_behind s keeps)).1), fits_before)

    pub held_refused : (e : Expr T) (why : NotSubscribed) → IsNotSubscribed e r why → HasFitting g (λ x. IsNotSubscribed e x why)
    held_refused e why x = (r, x, fits_before)

  -- the tap is one of the links that are known
  pub behind_fresh : (g : Gate (GraphRegion O T b) (Opening O T b)) (links : Links T) (e : Expr T) (t : Tap T) → (key_of g).links.value ≡ links → HasSubscribedBehind g e t → IsAt links.taps.items t.link (λ l. IsSpare t.link l t)
  behind_fresh g links e t over h =
      let L : Links T → Type 0 = λ x. IsAt x.taps.items t.link (λ l. IsSpare t.link l t) in
      subst L over (h.1.1.fresh (key_of g).links.value h.2.0)

  pub behind_refused : (g : Gate (GraphRegion O T b) (Opening O T b)) (e : Expr T) (why : NotSubscribed) → HasFitting g (λ x. IsNotSubscribed e x why) → IsNotSubscribedBehind g e why
  behind_refused g e Busy h = tt
  behind_refused g e NoPlace h = h
  behind_refused g e (Refused why) h = h

  -- an entered gate was given up
  pub tried : {A : Type 0} (g : Gate (GraphRegion O T b) (Opening O T b)) (e : Expr T) (result : Result A NotSubscribed) (n : ℕ) (old new : List Step) → IsHeld n → new ≡ GiveUp n ∷ Enter 0 ∷ old → IfErr result (λ why. HasFitting g (λ x. IsNotSubscribed e x why)) → HasTried result old new
  tried g e (Ok tap) n old new held steps err = (n, held, steps)
  tried g e (Err Busy) n old new held steps err = absurd err.1
  tried g e (Err NoPlace) n old new held steps err = (n, held, steps)
  tried g e (Err (Refused why)) n old new held steps err = (n, held, steps)

  -- ---- a graph that was started

  pub taps_grown : (s : StartedGraph O T b) (is : IsStarted s) (seat : Seat (GraphRegion O T b) (View (Opening O T b))) (taps : Vec (Tap T) Global) → IsSeatOf s.graph.gate seat → seat.me.0.parts ≡ s.seat.me.0.parts → AreTapsOf s.graph.links.taps.items taps.items → IsStarted (record s { seat = seat; taps = taps })
  taps_grown s is seat taps own parts over =
      let all = is.parts in
      record { fresh = is.fresh; seat = own; parts = omega (arith, all, parts); emitters = is.emitters; taps = over }

  -- the tap comes back
  pub not_added : (s : StartedGraph O T b) (e : Expr T) (t u : Tap T) → u ≡ t → IsAt s.graph.links.taps.items t.link (λ l. IsSpare t.link l t) → HasSubscribedBehind s.graph.gate e t → IsNotAdded s e (NoMemory u)
  not_added s e t u same fresh behind =
      let A : Tap T → Type 0 = λ x. IsAt s.graph.links.taps.items x.link (λ l. IsSpare x.link l x) in
      let B : Tap T → Type 0 = λ x. HasSubscribedBehind s.graph.gate e x in
      (subst A (sym same) fresh, subst B (sym same) behind)
