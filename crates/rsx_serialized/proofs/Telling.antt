-- What is told of a subscriber, and what is taken of an emitter.
use Rattle.std.proofs.Common.{◌≡◌, ℕ, zero, suc, pos, ◌<◌, ◌≤◌, min, Bool, true, false, [], ◌∷◌, ◌++◌, length, ap, sym, ◌∙◌, subst, arith, Some, Result, Ok, Err, OnOk, IfErr}
use Rattle.std.specs.Option.{option_to_list}
use Rattle.std.proofs.lemmas.List.{append-nil, length-map}
use Rattle.rsx_demand.specs.declared.TheConstants.{UNBOUNDED}
use Rattle.rsx_types.specs.Meaning.{Meaning}
use Rattle.rsx_types.specs.declared.names.SubId.{SubId}
use Rattle.rsx_types.specs.declared.ops.Ops.{Ghosts as Ops}
use Rattle.rsx_types.specs.declared.signal.Signal.{Signal}
use Rattle.rsx_graph.specs.InGraph.{StandsAfter, state_of}
use Rattle.rsx_graph.specs.Rows.{History, with_past, with_published}
use Rattle.rsx_graph.specs.Stands.{GraphStands, GraphState}
use Rattle.rsx_graph.specs.declared.graph.Graph.{Graph}
use Rattle.rsx_graph_state.specs.declared.refusal.Refusal.{Refusal}
use Rattle.rsx_graph_state.specs.declared.refusal.Refusal.TheVariants.{UnknownSub}
use Rattle.rsx_link.specs.Ends.{received_signals}
use Rattle.rsx_subscriber.specs.Past.{cancelled, requested}
use Rattle.rsx_serialized.specs.Ends.{Gives, held}
use Rattle.rsx_serialized.specs.Regions.{StandsSince, TakesIn}
use Rattle.rsx_serialized.specs.Told.{asks, stops}
use Rattle.rsx_serialized.specs.declared.ends.FromEmitter.{FromEmitter}
use Rattle.rsx_serialized.proofs.Goes.{stands_on}
use Rattle.rsx_serialized.proofs.Steps.{told}

past_end : (a b c d : ℕ) → a ≤ b → b < c → c ≡ d → d ≡ a → ⊥
past_end a b c d le lt e f = omega arith

least : (n : ℕ) → n ≤ UNBOUNDED → min n UNBOUNDED ≡ n
least n le = omega arith

module _ {O T : Type 0} {b : Ops O T} where
  -- a subscription with this number is there
  there_not : (g : Graph O T b) (i : SubId) → i.0 < length (state_of g).joins → length g.subscriptions.items ≤ i.0 → ⊥
  there_not g i lt le = past_end (length g.subscriptions.items) i.0 (length (state_of g).joins) (length g.joins.items) le lt (length-map g.joins.items (λ v. v.items)) g.joined

  pub asked_stands : {A : Type 0} (g h : Graph O T b) (i : SubId) (n : ℕ) (r : Result A Refusal) → 0 < n → n ≤ UNBOUNDED → i.0 < length (state_of g).joins →
      OnOk r (StandsAfter (with_past (requested (pos (min n UNBOUNDED))) i) g h) → IfErr r (λ e. (e ≡ UnknownSub) × (length g.subscriptions.items ≤ i.0)) → StandsSince (b.meaning g.ops) (asks i n) (state_of g) (state_of h)
  asked_stands g h i zero r lt most there ok err = absurd (omega (arith, lt))
  asked_stands g h i (suc n) (Ok a) lt most there ok err = λ x k. subst (λ (z : ℕ). GraphStands (b.meaning g.ops) (state_of h) (with_past (requested (pos z)) i x)) (least (suc n) most) (ok x k)
  asked_stands g h i (suc n) (Err e) lt most there ok err = absurd (there_not g i there err.1)

  pub stopped_stands : {A : Type 0} (g h : Graph O T b) (i : SubId) (s : Bool) (r : Result A Refusal) → s ≡ true → i.0 < length (state_of g).joins →
      OnOk r (StandsAfter (with_past cancelled i) g h) → IfErr r (λ e. (e ≡ UnknownSub) × (length g.subscriptions.items ≤ i.0)) → StandsSince (b.meaning g.ops) (stops i s) (state_of g) (state_of h)
  stopped_stands g h i false r e there ok err = cc
  stopped_stands g h i true (Ok a) e there ok err = λ x k. ok x k
  stopped_stands g h i true (Err x) e there ok err = absurd (there_not g i there err.1)

  pub told_stands : (f g h : Graph O T b) (i : SubId) (n : ℕ) (s : Bool) → g.ops ≡ f.ops → StandsSince (b.meaning f.ops) (asks i n) (state_of f) (state_of g) → StandsSince (b.meaning g.ops) (stops i s) (state_of g) (state_of h) → StandsSince (b.meaning f.ops) (told i n s) (state_of f) (state_of h)
  told_stands f g h i n s ops one two =
      stands_on (b.meaning f.ops) (asks i n) (stops i s) (state_of f) (state_of g) (state_of h) one (subst (λ (o : O). StandsSince (b.meaning o) (stops i s) (state_of g) (state_of h)) ops two)

module _ {T : Type 0} where
  -- nothing came
  pub takes_none : (m : Meaning T) (g : GraphState T) (old new : FromEmitter T) → new.hub ≡ old.hub → received_signals new.down ≡ received_signals old.down → new.waiting ≡ old.waiting → new.seat ≡ old.seat → TakesIn false m g old g new
  takes_none m g old new hub same waits seat = record {
    signals = [];
    stands = λ h k. k;
    hub = hub;
    came = [];
    received = same ∙ sym (append-nil (received_signals old.down));
    published = append-nil (held old) ∙ ap (λ o. option_to_list o) (sym waits);
    some = λ e. cc;
    seat = seat;
  }

  -- a signal came, and was published
  pub takes_one : (m : Meaning T) (before after : GraphState T) (old new : FromEmitter T) (s : Signal T) → Gives old s new → ((h : History T) → GraphStands m before h → GraphStands m after (with_published s new.hub h)) → TakesIn true m before old after new
  takes_one m before after old new s g stands = record {
    signals = s ∷ [];
    stands = λ h k. subst (λ i. GraphStands m after (with_published s i h)) g.hub (stands h k);
    hub = g.hub;
    came = g.came;
    received = g.received;
    published = g.next ∙ ap (λ o. (s ∷ []) ++ option_to_list o) (sym g.none);
    some = λ e. omega arith;
    seat = g.seat;
  }

  -- a signal came, and waits
  pub takes_back : (m : Meaning T) (before after : GraphState T) (old new : FromEmitter T) (s back : Signal T) → Gives old s new → back ≡ s → after ≡ before → TakesIn false m before old after (record new { waiting = Some back })
  takes_back m before after old new s back g same still = record {
    signals = [];
    stands = λ h k. subst (λ (x : GraphState T). GraphStands m x h) (sym still) k;
    hub = g.hub;
    came = g.came;
    received = g.received;
    published = g.next ∙ ap (λ (x : Signal T). x ∷ []) (sym same);
    some = λ e. cc;
    seat = g.seat;
  }
