-- When nothing is left to do, carried over single steps.
use Rattle.std.proofs.Common.{◌≡◌, ◌⊎◌, inl, inr, ℕ, zero, suc, ◌+◌, ◌<◌, ◌≤◌, Bool, true, false, ◌&&◌, ◌||◌, List, [], ◌∷◌, ◌++◌, append_assoc, length, get_or, refl, ap, sym, ◌∙◌, subst, arith, Option, Some, None, Ok, slice_get, slice_set}
use Rattle.std.proofs.lemmas.Option.{slice_get_within}
use Rattle.rsx_types.specs.Meaning.{Meaning}
use Rattle.rsx_types.specs.declared.names.SubId.{SubId}
use Rattle.rsx_types.specs.declared.ops.Ops.{Ghosts as Ops}
use Rattle.rsx_types.specs.declared.signal.Signal.{Signal}
use Rattle.rsx_link.specs.Ends.{Waits, queued, up_steps}
use Rattle.rsx_link.specs.Signals.{is_item}
use Rattle.rsx_link.specs.Steps.{flags_of, has_cancel, has_refusal}
use Rattle.rsx_link.specs.declared.view.Step.{Step}
use Rattle.rsx_link.specs.declared.view.Step.TheVariants.{SeeAsked, SeeFlags}
use Rattle.rsx_graph.specs.InGraph.{HasPumpedIn, state_of}
use Rattle.rsx_graph.specs.Kinds.{IsAllQuiet}
use Rattle.rsx_graph.specs.Stands.{GraphState}
use Rattle.rsx_graph.specs.declared.graph.Graph.{Graph}
use Rattle.rsx_graph_state.specs.declared.step.Pumped.TheVariants.{Idle}
use Rattle.rsx_subscriber.specs.Delivered.{Delivered}
use Rattle.rsx_serialized.specs.Ends.{is_flagged}
use Rattle.rsx_serialized.specs.Events.{Event, stopped_in}
use Rattle.rsx_serialized.specs.Regions.{AreEndsOf, Goes, GoesBy}
use Rattle.rsx_serialized.specs.Resting.{AreHeldUp, AreSeen, AreSeenBefore, AreStill, FindsNoRoom, HasDelivered, HasLeftAll, HasLeftBefore, HasLeftOne, HasNoRoom, HasSeenAll, HasSeenBefore, HasSeenOne, HasSentNone, IsAtRest, IsLeft, IsLook, IsOneSeen, IsQuiet, IsSeen, IsTakenIn}
use Rattle.rsx_serialized.specs.Sending.{IsFirstFor, SendsFirst}
use Rattle.rsx_serialized.specs.declared.ends.FromEmitter.{FromEmitter}
use Rattle.rsx_serialized.specs.declared.ends.ToTap.{ToTap}
use Rattle.rsx_serialized.specs.declared.region.GraphRegion.{GraphRegion}
use Rattle.rsx_serialized.specs.declared.region.Links.{Links}
use Rattle.rsx_serialized.proofs.Goes.{goes_by_on, goes_by_same, stopped_on}
use Rattle.rsx_serialized.proofs.Lists.{beside_on, beside_same, beside_set, set_cases}
use Rattle.rsx_serialized.proofs.Steps.{told, told_stops}

-- ---- numbers and truth values

split : (k at : ℕ) → k < at + 1 → (k < at) ⊎ (k ≡ at)
split zero zero lt = inr refl
split zero (suc at) lt = inl (omega arith)
split (suc k) zero lt = absurd (omega (arith, lt))
split (suc k) (suc at) lt = elim (split k at (omega (arith, lt))) [ inl h ↦ inl (omega (arith, h)) | inr h ↦ inr (ap suc h) ]

pub or_left : (a b : Bool) → a ≡ true → (a || b) ≡ true
or_left true b e = refl
or_left false b e = cc

pub or_right : (a b : Bool) → b ≡ true → (a || b) ≡ true
or_right true b e = refl
or_right false b e = e

pub and_right : (a b : Bool) → (a && b) ≡ true → b ≡ true
and_right true b e = e
and_right false b e = cc

pub neither : (a b : Bool) → (a || b) ≡ false → (a ≡ false) × (b ≡ false)
neither true b e = cc
neither false b e = (refl, e)

module _ {T : Type 0} where
  -- ---- what goes to a tap

  -- nothing waits
  pub none_held : (ds : List (SubId × Signal T)) (os : List (ToTap T)) → length ds ≡ 0 → AreHeldUp ds os
  none_held [] os e = tt
  none_held (d ∷ ds) os e = absurd (omega (arith, e))

  -- the tap isn't there
  pub far_held : (n : ℕ) (ds : List (SubId × Signal T)) (os : List (ToTap T)) → IsFirstFor n ds → length os ≤ n → AreHeldUp ds os
  far_held n [] os first far = tt
  far_held n (d ∷ ds) os first far = λ o e. let within = slice_get_within os d.0.0 o e in absurd (omega (arith, within, far, first))

  -- it was tried
  pub full_held : (n : ℕ) (ds : List (SubId × Signal T)) (os : List (ToTap T)) (p : ToTap T) → IsFirstFor n ds → FindsNoRoom ds p → AreHeldUp ds (slice_set os n p)
  full_held n [] os p first full = tt
  full_held n (d ∷ ds) os p first full = λ o e. elim (set_cases os n d.0.0 p o e) [
    | inl h ↦ subst (λ (x : ToTap T). HasNoRoom (is_item d.1) x) (sym h.1) full
    | inr h ↦ absurd (h.0 (sym first))
  ]

  pub sent_none : (sent : Bool) (before after : List (SubId × Signal T)) (old new : ToTap T) → SendsFirst sent before after old new → sent ≡ false → after ≡ before
  sent_none true before after old new h e = cc
  sent_none false before after old new h e = h.0

  -- one less waits where it was sent
  pub sent_fewer : (sent : Bool) (before after : List (SubId × Signal T)) (old new : ToTap T) → SendsFirst sent before after old new → sent ≡ true → length before ≡ length after + 1
  sent_fewer true before after old new (d, front, sent) e = let n = ap length front in omega (arith, n)
  sent_fewer false before after old new h e = cc

  -- of the first of these it was said whether it is an item
  pub finds_none : (ds : List (SubId × Signal T)) (d : SubId × Signal T) (item : Bool) (o : ToTap T) → d ≡ get_or ds 0 d → item ≡ is_item d.1 → HasNoRoom item o → FindsNoRoom ds o
  finds_none [] d item o e is full = tt
  finds_none (x ∷ ds) d item o e is full = subst (λ (y : Bool). HasNoRoom y o) (is ∙ ap (λ (y : SubId × Signal T). is_item y.1) e) full

  -- ---- the ends made no step

  pub still_set : (os : List (ToTap T)) (at : ℕ) (o p : ToTap T) → slice_get os at ≡ Some o → up_steps p.up ≡ up_steps o.up → AreStill os (slice_set os at p)
  still_set os at o p there steps =
      let P : ℕ → ToTap T → ToTap T → Type 0 = λ k x y. x ≡ y in
      let Q : ℕ → ToTap T → ToTap T → Type 0 = λ k x y. up_steps y.up ≡ up_steps x.up in
      beside_set P Q os os at p
      (λ x e. let same : o ≡ x = cc in steps ∙ ap (λ (y : ToTap T). up_steps y.up) same)
      (λ k x y apart e f same. ap (λ (z : ToTap T). up_steps z.up) (sym same))
      (beside_same P os (λ k x e. refl))

  pub still_same : (os : List (ToTap T)) → AreStill os os
  still_same os = let Q : ℕ → ToTap T → ToTap T → Type 0 = λ k x y. up_steps y.up ≡ up_steps x.up in beside_same Q os (λ k x e. refl)

  pub still_as : (xs ys : List (ToTap T)) → ys ≡ xs → AreStill xs ys
  still_as xs ys same = subst (λ (l : List (ToTap T)). AreStill xs l) (sym same) (still_same xs)

  pub still_on : (xs ys zs : List (ToTap T)) → AreStill xs ys → AreStill ys zs → AreStill xs zs
  still_on xs ys zs f g = let Q : ℕ → ToTap T → ToTap T → Type 0 = λ k x y. up_steps y.up ≡ up_steps x.up in beside_on Q Q Q xs ys zs (λ k x y z p q. q ∙ p) f g

  -- ---- an end that was looked at

  stopped_first : (k : ℕ) (es fs : List (Event T)) → stopped_in k es ≡ true → stopped_in k (es ++ fs) ≡ true
  stopped_first k es fs h = stopped_on k es fs ∙ or_left (stopped_in k es) (stopped_in k fs) h

  stopped_second : (k : ℕ) (es fs : List (Event T)) → stopped_in k fs ≡ true → stopped_in k (es ++ fs) ≡ true
  stopped_second k es fs h = stopped_on k es fs ∙ or_right (stopped_in k es) (stopped_in k fs) h

  -- and then made no step
  seen_still : (k : ℕ) (es fs : List (Event T)) (o p q : ToTap T) → up_steps q.up ≡ up_steps p.up → IsSeen k es o p → IsSeen k (es ++ fs) o q
  seen_still k es fs o p q still h =
      let flag : is_flagged q.up ≡ is_flagged p.up = ap (λ (ss : List Step). has_cancel (flags_of ss) || has_refusal (flags_of ss)) still in record {
        total = h.total;
        flags = h.flags;
        since = h.since;
        steps = still ∙ h.steps;
        stopped = λ f. stopped_first k es fs (h.stopped (sym flag ∙ f));
      }

  -- and was looked at again
  seen_twice : (k : ℕ) (es fs : List (Event T)) (o p q : ToTap T) → IsSeen k es o p → IsSeen k fs p q → IsSeen k (es ++ fs) o q
  seen_twice k es fs o p q h g = record {
    total = g.total;
    flags = g.flags;
    since = g.since ++ (SeeFlags h.flags ∷ SeeAsked h.total ∷ h.since);
    steps = g.steps ∙ ap (λ (ss : List Step). SeeFlags g.flags ∷ SeeAsked g.total ∷ ss) (ap (λ (ss : List Step). g.since ++ ss) h.steps ∙ sym (append_assoc g.since (SeeFlags h.flags ∷ SeeAsked h.total ∷ h.since) (up_steps o.up)));
    stopped = λ f. stopped_second k es fs (g.stopped f);
  }

  -- and wasn't before
  seen_first : (k : ℕ) (es fs : List (Event T)) (o p q : ToTap T) → p ≡ o → IsSeen k fs p q → IsSeen k (es ++ fs) o q
  seen_first k es fs o p q same h = record {
    total = h.total;
    flags = h.flags;
    since = h.since;
    steps = h.steps ∙ ap (λ (x : ToTap T). SeeFlags h.flags ∷ SeeAsked h.total ∷ (h.since ++ up_steps x.up)) same;
    stopped = λ f. stopped_second k es fs (h.stopped f);
  }

  -- by a look, of which the graph was told
  pub seen_now : (k n : ℕ) (flag : Bool) (i : SubId) (o p : ToTap T) → i.0 ≡ k → IsLook (up_steps o.up) (up_steps p.up) → flag ≡ is_flagged p.up → IsSeen k (told i n flag) o p
  seen_now k n flag i o p is look found = record {
    total = look.0;
    flags = look.1;
    since = [];
    steps = look.2;
    stopped = λ f. told_stops T i n flag k is (found ∙ f);
  }

  pub one_seen : (at : ℕ) (es : List (Event T)) (os : List (ToTap T)) (o p : ToTap T) → slice_get os at ≡ Some o → IsSeen at es o p → IsOneSeen at es os (slice_set os at p)
  one_seen at es os o p there seen =
      let P : ℕ → ToTap T → ToTap T → Type 0 = λ k x y. x ≡ y in
      let Q : ℕ → ToTap T → ToTap T → Type 0 = λ k x y. (k ≡ at → IsSeen k es x y) × ((k ≡ at → ⊥) → y ≡ x) in
      beside_set P Q os os at p
      (λ x e. let same : o ≡ x = cc in (λ h. subst (λ (a : ToTap T). IsSeen at es a p) same seen, λ h. absurd (h refl)))
      (λ k x y apart e f same. (λ h. absurd (apart h), λ h. sym same))
      (beside_same P os (λ k x e. refl))

  seen_more : (at : ℕ) (es fs : List (Event T)) (k : ℕ) (o p q : ToTap T) → (k < at → IsSeen k es o p) × (at ≤ k → p ≡ o) → (k ≡ at → IsSeen k fs p q) × ((k ≡ at → ⊥) → q ≡ p) →
      (k < at + 1 → IsSeen k (es ++ fs) o q) × (at + 1 ≤ k → q ≡ o)
  seen_more at es fs k o p q f g = (
    λ lt. elim (split k at lt) [
      | inl h ↦ seen_still k es fs o p q (ap (λ (x : ToTap T). up_steps x.up) (g.1 (below k at h))) (f.0 h)
      | inr h ↦ seen_first k es fs o p q (f.1 (same k at h)) (g.0 h)
    ],
    λ le. g.1 (above k at le) ∙ f.1 (omega (arith, le)),
  )
    where
      below : (k at : ℕ) → k < at → k ≡ at → ⊥
      below k at lt e = omega (arith, lt, e)

      above : (k at : ℕ) → at + 1 ≤ k → k ≡ at → ⊥
      above k at le e = omega (arith, le, e)

      same : (k at : ℕ) → k ≡ at → at ≤ k
      same k at e = omega (arith, e)

  -- ---- what comes of an emitter

  -- nothing waits, and none came
  pub left_empty : (g : GraphState T) (i : FromEmitter T) → i.waiting ≡ None → Waits i.down (queued i.down) → IsTakenIn g i
  left_empty g i none waits = subst (λ (o : Option (Signal T)). IsLeft g i o) (sym none) waits

  left_at : (g h : GraphState T) (i : FromEmitter T) → h ≡ g → IsTakenIn g i → IsTakenIn h i
  left_at g h i same k = subst (λ (s : GraphState T). IsTakenIn s i) (sym same) k

module _ {O T : Type 0} {b : Ops O T} where
  pub left_start : (x : GraphRegion O T b) → HasLeftBefore 0 x x
  left_start x = record { same = refl; left = λ k i lt e. absurd (omega (arith, lt)) }

  pub left_next : (at : ℕ) (x y z : GraphRegion O T b) → HasLeftBefore at x y → HasLeftOne at y z → HasLeftBefore (at + 1) x z
  left_next at x y z f g = record {
    same = g.same ∙ f.same;
    left = λ k i lt e. elim (set_cases y.inlets.items at k g.inlet i (ap (λ (l : List (FromEmitter T)). slice_get l k) (sym g.put) ∙ e)) [
      | inl h ↦ subst (λ (a : FromEmitter T). IsTakenIn (state_of z.graph) a) (sym h.1) g.left
      | inr h ↦ left_at (state_of y.graph) (state_of z.graph) i g.same (f.left k i (less k at lt h.0) h.1)
    ];
  }
    where
      less : (k at : ℕ) → k < at + 1 → (k ≡ at → ⊥) → k < at
      less k at lt n = omega (arith, lt, n)

  pub left_end : (at : ℕ) (x y : GraphRegion O T b) → length y.inlets.items ≤ at → HasLeftBefore at x y → HasLeftAll x y
  left_end at x y all f = record { same = f.same; left = λ k i e. let within = slice_get_within y.inlets.items k i e in f.left k i (omega (arith, within, all)) e }

  -- ---- the taps

  pub under : (x y z : GraphRegion O T b) (es : List (Event T)) → y.graph.ops ≡ x.graph.ops → GoesBy (b.meaning y.graph.ops) es y z → GoesBy (b.meaning x.graph.ops) es y z
  under x y z es ops h = subst (λ (o : O). GoesBy (b.meaning o) es y z) ops h

  pub see_one : (links : Links T) (at : ℕ) (es : List (Event T)) (x y : GraphRegion O T b) → AreEndsOf links y × GoesBy (b.meaning x.graph.ops) es x y → IsOneSeen at es x.outlets.items y.outlets.items → HasSeenOne (b.meaning x.graph.ops) at x y
  see_one links at es x y (e, f) seen = record { events = es; goes = f; seen = seen }

  pub seen_start : (x : GraphRegion O T b) → HasSeenBefore (b.meaning x.graph.ops) 0 x x
  seen_start x =
      let P : ℕ → ToTap T → ToTap T → Type 0 = λ k o p. (k < 0 → IsSeen k [] o p) × (0 ≤ k → p ≡ o) in
      record { events = []; goes = goes_by_same (b.meaning x.graph.ops) x; seen = beside_same P x.outlets.items (λ k o e. (λ lt. absurd (omega (arith, lt)), λ le. refl)) }

  pub seen_next : (at : ℕ) (x y z : GraphRegion O T b) → HasSeenBefore (b.meaning x.graph.ops) at x y → HasSeenOne (b.meaning y.graph.ops) at y z → HasSeenBefore (b.meaning x.graph.ops) (at + 1) x z
  seen_next at x y z f g =
      let es = f.events in
      let fs = g.events in
      let P : ℕ → ToTap T → ToTap T → Type 0 = λ k o p. (k < at → IsSeen k es o p) × (at ≤ k → p ≡ o) in
      let Q : ℕ → ToTap T → ToTap T → Type 0 = λ k o p. (k ≡ at → IsSeen k fs o p) × ((k ≡ at → ⊥) → p ≡ o) in
      let R : ℕ → ToTap T → ToTap T → Type 0 = λ k o p. (k < at + 1 → IsSeen k (es ++ fs) o p) × (at + 1 ≤ k → p ≡ o) in record {
        events = es ++ fs;
        goes = goes_by_on (b.meaning x.graph.ops) es fs x y z f.goes (under x y z fs f.goes.ops g.goes);
        seen = beside_on P Q R x.outlets.items y.outlets.items z.outlets.items (λ k o p q. seen_more at es fs k o p q) f.seen g.seen;
      }

  pub seen_end : (m : Meaning T) (at : ℕ) (x y : GraphRegion O T b) → at ≡ length (state_of x.graph).joins → (state_of y.graph).joins ≡ (state_of x.graph).joins → HasSeenBefore m at x y → HasSeenAll m x y
  seen_end m at x y all joins h =
      let n = length (state_of x.graph).joins in
      let before : AreSeenBefore n h.events x.outlets.items y.outlets.items = subst (λ (k : ℕ). AreSeenBefore k h.events x.outlets.items y.outlets.items) all h.seen in record {
        events = h.events;
        goes = h.goes;
        subs = ap length joins;
        seen = record {
          count = before.count;
          each = λ k o p e f. let it = before.each k o p e f in (it.0, λ le. ap (λ (q : ToTap T). up_steps q.up) (it.1 le));
        };
      }

  -- all were looked at, and then their ends made no step
  pub seen_then : (x y z : GraphRegion O T b) → HasSeenAll (b.meaning x.graph.ops) x y → Goes (b.meaning y.graph.ops) y z → (state_of z.graph).joins ≡ (state_of y.graph).joins → AreStill y.outlets.items z.outlets.items → HasSeenAll (b.meaning x.graph.ops) x z
  seen_then x y z f (fs, g) joins still =
      let es = f.events in
      let n = length (state_of x.graph).joins in
      let P : ℕ → ToTap T → ToTap T → Type 0 = λ k o p. (k < n → IsSeen k es o p) × (n ≤ k → up_steps p.up ≡ up_steps o.up) in
      let Q : ℕ → ToTap T → ToTap T → Type 0 = λ k o p. up_steps p.up ≡ up_steps o.up in
      let R : ℕ → ToTap T → ToTap T → Type 0 = λ k o p. (k < n → IsSeen k (es ++ fs) o p) × (n ≤ k → up_steps p.up ≡ up_steps o.up) in record {
        events = es ++ fs;
        goes = goes_by_on (b.meaning x.graph.ops) es fs x y z f.goes (under x y z fs f.goes.ops g);
        subs = ap length joins ∙ f.subs;
        seen = beside_on P Q R x.outlets.items y.outlets.items z.outlets.items (λ k o p q h e. (λ lt. seen_still k es fs o p q e (h.0 lt), λ le. e ∙ h.1 le)) f.seen still;
      }

  -- all were looked at again
  pub seen_again : (x y z : GraphRegion O T b) → HasSeenAll (b.meaning x.graph.ops) x y → HasSeenAll (b.meaning y.graph.ops) y z → HasSeenAll (b.meaning x.graph.ops) x z
  seen_again x y z f g =
      let es = f.events in
      let fs = g.events in
      let n = length (state_of x.graph).joins in
      let again : AreSeen n fs y.outlets.items z.outlets.items = subst (λ (k : ℕ). AreSeen k fs y.outlets.items z.outlets.items) f.subs g.seen in
      let P : ℕ → ToTap T → ToTap T → Type 0 = λ k o p. (k < n → IsSeen k es o p) × (n ≤ k → up_steps p.up ≡ up_steps o.up) in
      let Q : ℕ → ToTap T → ToTap T → Type 0 = λ k o p. (k < n → IsSeen k fs o p) × (n ≤ k → up_steps p.up ≡ up_steps o.up) in
      let R : ℕ → ToTap T → ToTap T → Type 0 = λ k o p. (k < n → IsSeen k (es ++ fs) o p) × (n ≤ k → up_steps p.up ≡ up_steps o.up) in record {
        events = es ++ fs;
        goes = goes_by_on (b.meaning x.graph.ops) es fs x y z f.goes (under x y z fs f.goes.ops g.goes);
        subs = g.subs ∙ f.subs;
        seen = beside_on P Q R x.outlets.items y.outlets.items z.outlets.items (λ k o p q h i. (λ lt. seen_twice k es fs o p q (h.0 lt) (i.0 lt), λ le. i.1 le ∙ h.1 le)) f.seen again;
      }

  -- after so many rounds
  pub seen_rounds : (n : ℕ) (x y z : GraphRegion O T b) → (n ≡ 0 → y ≡ x) → (0 < n → HasSeenAll (b.meaning x.graph.ops) x y) → HasSeenAll (b.meaning y.graph.ops) y z → HasSeenAll (b.meaning x.graph.ops) x z
  seen_rounds zero x y z none some g = subst (λ (w : GraphRegion O T b). HasSeenAll (b.meaning w.graph.ops) w z) (none refl) g
  seen_rounds (suc n) x y z none some g = seen_again x y z (some (omega arith)) g

  -- ---- moves, and rest

  quiet_at : (x y : Graph O T b) → y ≡ x → IsAllQuiet (b.meaning x.ops) (state_of x).rows → IsAllQuiet (b.meaning y.ops) (state_of y).rows
  quiet_at x y same h = subst (λ (g : Graph O T b). IsAllQuiet (b.meaning g.ops) (state_of g).rows) (sym same) h

  pub quiet_under : (o : O) (g : Graph O T b) → g.ops ≡ o → IsAllQuiet (b.meaning o) (state_of g).rows → IsAllQuiet (b.meaning g.ops) (state_of g).rows
  quiet_under o g ops h = subst (λ (p : O). IsAllQuiet (b.meaning p) (state_of g).rows) (sym ops) h

  quiet_in : (x y : Graph O T b) → y.ops ≡ x.ops → state_of y ≡ state_of x → IsAllQuiet (b.meaning x.ops) (state_of x).rows → IsAllQuiet (b.meaning y.ops) (state_of y).rows
  quiet_in x y ops same h = quiet_under x.ops y ops (subst (λ (s : GraphState T). IsAllQuiet (b.meaning x.ops) s.rows) (sym same) h)

  -- where driving the graph ended so, no move is enabled
  pub idle_quiet : (budget : ℕ) (x y : Graph O T b) (before after : Delivered T) → HasPumpedIn budget x before (Ok Idle) y after → IsAllQuiet (b.meaning x.ops) (state_of y).rows
  idle_quiet budget x y before after h = h.ends.1

  -- moves were made where nothing waited before, and then all was sent that finds room
  pub delivers_all : (waited sent : Bool) (x y z : GraphRegion O T b) → (waited ≡ false → x.pending.items ≡ []) → (x.pending.items ≡ [] → IsQuiet y) → (y.pending.items ≡ [] → IsQuiet y) → (sent ≡ false → HasSentNone y z) → AreHeldUp z.pending.items z.outlets.items → z.graph ≡ y.graph → waited && sent ≡ false → HasDelivered z
  delivers_all false sent x y z empty p q none held graph e = record { sent = held; moved = λ f. quiet_at y.graph z.graph graph (p (empty refl)) }
  delivers_all true false x y z empty p q none held graph e = record { sent = held; moved = λ f. quiet_at y.graph z.graph graph (q (sym (none refl).pending ∙ f)) }
  delivers_all true true x y z empty p q none held graph e = cc

  -- and then nothing was published
  pub at_rest : (z w : GraphRegion O T b) → HasDelivered z → HasLeftAll z w → w.graph.ops ≡ z.graph.ops → w.pending ≡ z.pending → w.outlets ≡ z.outlets → IsAtRest w
  at_rest z w delivered taken ops waits outs =
      let waits' : w.pending.items ≡ z.pending.items = ap (λ v. v.items) waits in
      let outs' : w.outlets.items ≡ z.outlets.items = ap (λ v. v.items) outs in
      let held : AreHeldUp w.pending.items z.outlets.items = subst (λ (l : List (SubId × Signal T)). AreHeldUp l z.outlets.items) (sym waits') delivered.sent in record {
        sent = subst (λ (l : List (ToTap T)). AreHeldUp w.pending.items l) (sym outs') held;
        moved = λ none. quiet_in z.graph w.graph ops taken.same (delivered.moved (sym waits' ∙ none));
        taken = taken.left;
      }
