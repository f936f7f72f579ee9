-- Something was done, carried over single steps.
use Rattle.std.proofs.Common.{◌≡◌, inl, inr, ℕ, zero, suc, ◌+◌, ◌<◌, ◌≤◌, Bool, true, false, ◌||◌, List, [], ◌∷◌, ◌++◌, map, length, length-append, add-one, refl, ap, sym, ◌∙◌, subst, arith, Some, Ok, slice_get, slice_set}
use Rattle.std.proofs.lemmas.Option.{slice_get_within}
use Rattle.rsx_types.specs.Meaning.{Meaning}
use Rattle.rsx_types.specs.declared.names.HubId.{HubId}
use Rattle.rsx_types.specs.declared.names.SubId.{SubId}
use Rattle.rsx_types.specs.declared.ops.Ops.{Ghosts as Ops}
use Rattle.rsx_types.specs.declared.signal.Signal.{Signal}
use Rattle.rsx_graph.specs.InGraph.{HasPumpedIn}
use Rattle.rsx_graph.specs.Rows.{Made}
use Rattle.rsx_graph.specs.declared.graph.Graph.{Graph}
use Rattle.rsx_graph_state.specs.declared.step.Pumped.TheVariants.{Budget}
use Rattle.rsx_subscriber.specs.Delivered.{Delivered}
use Rattle.rsx_link.specs.Ends.{sent_signals}
use Rattle.rsx_serialized.specs.Ends.{Beside, OutletGoes}
use Rattle.rsx_serialized.specs.Events.{Event, moved}
use Rattle.rsx_serialized.specs.Regions.{AreEndsOf, Goes, GoesBy, GoesOn}
use Rattle.rsx_serialized.specs.Rounds.{AreRounds, HasSentSome, IsBusy, has_worked, is_work}
use Rattle.rsx_serialized.specs.Sending.{SendsFirst}
use Rattle.rsx_serialized.specs.Told.{publishes}
use Rattle.rsx_serialized.specs.declared.ends.ToTap.{ToTap}
use Rattle.rsx_serialized.specs.declared.region.GraphRegion.{GraphRegion}
use Rattle.rsx_serialized.specs.declared.region.Links.{Links}
use Rattle.rsx_serialized.proofs.Goes.{goes_by_on, or_on}
use Rattle.rsx_serialized.proofs.Lists.{there}
use Rattle.rsx_serialized.proofs.Resting.{or_left, or_right, under}

-- the element that was set
pub set_there : {X : Type 0} (xs : List X) (at : ℕ) (x y : X) → slice_get xs at ≡ Some x → slice_get (slice_set xs at y) at ≡ Some y
set_there [] at x y e = cc
set_there (z ∷ zs) zero x y e = refl
set_there (z ∷ zs) (suc at) x y e = set_there zs at x y e

module _ {T : Type 0} where
  -- ---- moves and publishing

  worked_on : (es fs : List (Event T)) → has_worked (es ++ fs) ≡ has_worked es || has_worked fs
  worked_on [] fs = refl
  worked_on (e ∷ es) fs = ap (λ b. is_work e || b) (worked_on es fs) ∙ or_on (is_work e) (has_worked es) (has_worked fs)

  worked_first : (es fs : List (Event T)) → has_worked es ≡ true → has_worked (es ++ fs) ≡ true
  worked_first es fs h = worked_on es fs ∙ or_left (has_worked es) (has_worked fs) h

  worked_second : (es fs : List (Event T)) → has_worked fs ≡ true → has_worked (es ++ fs) ≡ true
  worked_second es fs h = worked_on es fs ∙ or_right (has_worked es) (has_worked fs) h

  pub moves_work : (ds : List (Made T)) → 0 < length ds → has_worked (map moved ds) ≡ true
  moves_work [] some = absurd (omega (arith, some))
  moves_work (d ∷ ds) some = refl

  pub publishes_work : (h : HubId) (ss : List (Signal T)) → 0 < length ss → has_worked (publishes h ss) ≡ true
  publishes_work h [] some = absurd (omega (arith, some))
  publishes_work h (s ∷ ss) some = refl

  -- ---- sending

  one_more : (xs : List (Signal T)) (x : Signal T) → length xs < length (xs ++ x ∷ [])
  one_more xs x = let n = length-append xs (x ∷ []) in omega (arith, n)

  pub sent_one : (sent : Bool) (waited waits : List (SubId × Signal T)) (os : List (ToTap T)) (at : ℕ) (o p : ToTap T) → slice_get os at ≡ Some o → slice_get (slice_set os at p) at ≡ Some p → SendsFirst sent waited waits o p → sent ≡ true → HasSentSome os (slice_set os at p)
  sent_one false waited waits os at o p was is h e = cc
  sent_one true waited waits os at o p was is (d, front, sent) e = record {
    tap = at;
    before = o;
    after = p;
    was = was;
    is = is;
    more = subst (λ (l : List (Signal T)). length (sent_signals o.up) < length l) (sym sent) (one_more (sent_signals o.up) d.1);
  }

  no_fewer : (k : ℕ) (es : List (Event T)) (waited waits : List (SubId × Signal T)) (o p : ToTap T) → OutletGoes k es waited waits o p → length (sent_signals o.up) ≤ length (sent_signals p.up)
  no_fewer k es waited waits o p h =
      let n = length-append (sent_signals o.up) h.sent in
      let m = ap length h.signals in
      omega (arith, n, m)

  sent_then : (es : List (Event T)) (waited waits : List (SubId × Signal T)) (xs ys zs : List (ToTap T)) → HasSentSome xs ys → Beside (λ k. OutletGoes k es waited waits) ys zs → HasSentSome xs zs
  sent_then es waited waits xs ys zs h g =
      let within = slice_get_within ys h.tap h.after h.is in
      let long = g.count in
      let z = there zs h.tap (omega (arith, within, long)) in
      let more = h.more in
      let kept = no_fewer h.tap es waited waits h.after z.0 (g.each h.tap h.after z.0 h.is z.1) in
      record { tap = h.tap; before = h.before; after = z.0; was = h.was; is = z.1; more = omega (arith, more, kept) }

  then_sent : (es : List (Event T)) (waited waits : List (SubId × Signal T)) (xs ys zs : List (ToTap T)) → Beside (λ k. OutletGoes k es waited waits) xs ys → HasSentSome ys zs → HasSentSome xs zs
  then_sent es waited waits xs ys zs g h =
      let within = slice_get_within ys h.tap h.before h.was in
      let long = g.count in
      let x = there xs h.tap (omega (arith, within, long)) in
      let more = h.more in
      let kept = no_fewer h.tap es waited waits x.0 h.before (g.each h.tap x.0 h.before x.1 h.was) in
      record { tap = h.tap; before = x.0; after = h.after; was = x.1; is = h.is; more = omega (arith, more, kept) }

module _ {O T : Type 0} {b : Ops O T} where
  -- moves were made, as many as the budget
  pub budget_works : (budget : ℕ) (x y : Graph O T b) (before after : Delivered T) → 0 < budget → (h : HasPumpedIn budget x before (Ok Budget) y after) → has_worked (map moved h.moves) ≡ true
  budget_works budget x y before after some h = let count = h.ends.0 in moves_work h.moves (omega (arith, some, count))

  -- something was done, and then these things happened
  pub busy_then : (x y z : GraphRegion O T b) → IsBusy (b.meaning x.graph.ops) x y → Goes (b.meaning y.graph.ops) y z → IsBusy (b.meaning x.graph.ops) x z
  busy_then x y z f (fs, g) = record {
    events = f.events ++ fs;
    goes = goes_by_on (b.meaning x.graph.ops) f.events fs x y z f.goes (under x y z fs f.goes.ops g);
    did = elim f.did [ inl h ↦ inl (worked_first f.events fs h) | inr h ↦ inr (sent_then fs y.pending.items z.pending.items x.outlets.items y.outlets.items z.outlets.items h g.outlets) ];
  }

  -- and the other way round
  pub then_busy : (x y z : GraphRegion O T b) → Goes (b.meaning x.graph.ops) x y → IsBusy (b.meaning y.graph.ops) y z → IsBusy (b.meaning x.graph.ops) x z
  then_busy x y z (es, f) g = record {
    events = es ++ g.events;
    goes = goes_by_on (b.meaning x.graph.ops) es g.events x y z f (under x y z g.events f.ops g.goes);
    did = elim g.did [ inl h ↦ inl (worked_second es g.events h) | inr h ↦ inr (then_sent es x.pending.items y.pending.items x.outlets.items y.outlets.items z.outlets.items f.outlets h) ];
  }

  -- by a signal that was sent
  pub busy_sent : (links : Links T) (x y : GraphRegion O T b) → GoesOn links x y → HasSentSome x.outlets.items y.outlets.items → IsBusy (b.meaning x.graph.ops) x y
  busy_sent links x y (e, f) h = record { events = f.0; goes = f.1; did = inr h }

  -- by these things
  pub busy_by : (links : Links T) (es : List (Event T)) (x y : GraphRegion O T b) → AreEndsOf links y × GoesBy (b.meaning x.graph.ops) es x y → has_worked es ≡ true → IsBusy (b.meaning x.graph.ops) x y
  busy_by links es x y (e, f) h = record { events = es; goes = f; did = inl h }

  pub busy_moved : {es : List (Event T)} (x y : GraphRegion O T b) → GoesBy (b.meaning x.graph.ops) es x y → has_worked es ≡ true → IsBusy (b.meaning x.graph.ops) x y
  busy_moved {es} x y f h = record { events = es; goes = f; did = inl h }

  pub by_events : (m : Meaning T) (es : List (Event T)) (x y : GraphRegion O T b) → GoesBy m es x y → Goes m x y
  by_events m es x y f = (es, f)

  -- at one of two steps
  pub either_busy : (u v : Bool) (x y z : GraphRegion O T b) → (u ≡ true → IsBusy (b.meaning x.graph.ops) x y) → (v ≡ true → IsBusy (b.meaning y.graph.ops) y z) → Goes (b.meaning x.graph.ops) x y → Goes (b.meaning y.graph.ops) y z → u || v ≡ true → IsBusy (b.meaning x.graph.ops) x z
  either_busy true v x y z f g p q e = busy_then x y z (f refl) q
  either_busy false v x y z f g p q e = then_busy x y z p (g e)

  -- one round more
  pub rounds_more : (n : ℕ) (x y z : GraphRegion O T b) → y.graph.ops ≡ x.graph.ops → AreRounds (b.meaning x.graph.ops) n x y → IsBusy (b.meaning y.graph.ops) y z → AreRounds (b.meaning x.graph.ops) (n + 1) x z
  rounds_more n x y z ops f g =
      let h : AreRounds (b.meaning x.graph.ops) (suc n) x z = (y, f, subst (λ (o : O). IsBusy (b.meaning o) y z) ops g) in
      subst (λ (k : ℕ). AreRounds (b.meaning x.graph.ops) k x z) (sym (add-one n)) h
