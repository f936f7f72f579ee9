-- A region goes on: one list of things that have happened behind another.
use Rattle.std.proofs.Common.{◌≡◌, ℕ, ◌+◌, Bool, true, false, ◌||◌, List, [], ◌∷◌, ◌++◌, append_assoc, length, length-append, refl, ap, sym, ◌∙◌, subst, arith}
use Rattle.std.specs.Option.{option_to_list}
use Rattle.std.proofs.lemmas.Grind.{flat_map-append}
use Rattle.std.proofs.lemmas.List.{append-nil}
use Rattle.std.proofs.lemmas.List.Sums.{fold-append}
use Rattle.rsx_types.specs.Meaning.{Meaning}
use Rattle.rsx_types.specs.declared.names.SubId.{SubId}
use Rattle.rsx_types.specs.declared.ops.Ops.{Ghosts as Ops}
use Rattle.rsx_types.specs.declared.signal.Signal.{Signal}
use Rattle.rsx_graph.specs.InGraph.{state_of}
use Rattle.rsx_graph.specs.Rows.{History}
use Rattle.rsx_graph.specs.Stands.{GraphStands, GraphState}
use Rattle.rsx_link.specs.Ends.{carried_up, received_signals, sent_signals}
use Rattle.rsx_serialized.specs.Ends.{InletGoes, OutletGoes, held, is_flagged}
use Rattle.rsx_serialized.specs.Events.{AreKnown, Event, after_event, after_events, asked_by, asked_in, given_by, given_in, published_by, published_in, signals_for, stopped_by, stopped_in, subscribed_by, subscribed_in}
use Rattle.rsx_serialized.specs.Regions.{AreEndsOf, Goes, GoesBy, GoesOn, StandsSince}
use Rattle.rsx_serialized.specs.declared.ends.FromEmitter.{FromEmitter}
use Rattle.rsx_serialized.specs.declared.ends.ToTap.{ToTap}
use Rattle.rsx_serialized.specs.declared.region.GraphRegion.{GraphRegion}
use Rattle.rsx_serialized.specs.declared.region.Links.{Links}
use Rattle.rsx_serialized.proofs.Known.{known_on}
use Rattle.rsx_serialized.proofs.Lists.{beside_on, beside_same, lists_on}

pub or_on : (a b c : Bool) → a || (b || c) ≡ (a || b) || c
or_on true b c = refl
or_on false b c = refl

pub stopped_on : {T : Type 0} (k : ℕ) (es fs : List (Event T)) → stopped_in k (es ++ fs) ≡ stopped_in k es || stopped_in k fs
stopped_on k [] fs = refl
stopped_on k (e ∷ es) fs = ap (λ b. stopped_by k e || b) (stopped_on k es fs) ∙ or_on (stopped_by k e) (stopped_in k es) (stopped_in k fs)

pub stands_on : {T : Type 0} (m : Meaning T) (es fs : List (Event T)) (a b c : GraphState T) → StandsSince m es a b → StandsSince m fs b c → StandsSince m (es ++ fs) a c
stands_on {T} m es fs a b c f g h k =
    let P : History T → Type 0 = λ x. GraphStands m c x in
    subst P (sym (fold-append after_event h es fs)) (g (after_events h es) (f h k))

pub inlet_on : {T : Type 0} (es fs : List (Event T)) (a b c : FromEmitter T) → InletGoes es a b → InletGoes fs b c → InletGoes (es ++ fs) a c
inlet_on {T} es fs a b c f g =
    let same : published_in b.hub.0 fs ≡ published_in a.hub.0 fs = ap (λ h. published_in h.0 fs) f.hub in
    let second : held b ++ g.came ≡ published_in a.hub.0 fs ++ held c = g.published ∙ ap (λ l. l ++ held c) same in record {
      hub = g.hub ∙ f.hub;
      came = f.came ++ g.came;
      received = g.received ∙ (ap (λ l. l ++ g.came) f.received ∙ append_assoc (received_signals a.down) f.came g.came);
      published = lists_on (held a) f.came g.came (published_in a.hub.0 es) (published_in a.hub.0 fs) (held b) (held c) f.published second ∙ ap (λ l. l ++ held c) (sym (flat_map-append (published_by a.hub.0) es fs));
      seat = g.seat ∙ f.seat;
    }

pub either_flag : (x y flag : Bool) → (x ≡ true → flag ≡ true) → (y ≡ true → flag ≡ true) → x || y ≡ true → flag ≡ true
either_flag true y flag f g e = f refl
either_flag false y flag f g e = g e

pub outlet_on : {T : Type 0} (k : ℕ) (es fs : List (Event T)) (before mid after : List (SubId × Signal T)) (a b c : ToTap T) → OutletGoes k es before mid a b → OutletGoes k fs mid after b c → OutletGoes k (es ++ fs) before after a c
outlet_on k es fs before mid after a b c f g = record {
  carried = g.carried ∙ f.carried;
  sent = f.sent ++ g.sent;
  signals = g.signals ∙ (ap (λ l. l ++ g.sent) f.signals ∙ append_assoc (sent_signals a.up) f.sent g.sent);
  delivered = ap (λ l. signals_for k before ++ l) (flat_map-append (given_by k) es fs) ∙ lists_on (signals_for k before) (given_in k es) (given_in k fs) f.sent g.sent (signals_for k mid) (signals_for k after) f.delivered g.delivered;
  asked = g.asked ∙ (ap (λ n. asked_in k n fs) f.asked ∙ sym (fold-append (asked_by k) a.asked es fs));
  flagged = λ h. g.flagged (f.flagged h);
  stopped = λ h. either_flag (stopped_in k es) (stopped_in k fs) (is_flagged c.up) (λ x. g.flagged (f.stopped x)) g.stopped (sym (stopped_on k es fs) ∙ h);
}

-- nothing has happened to an end
pub inlet_same : {T : Type 0} (a b : FromEmitter T) → b.hub ≡ a.hub → received_signals b.down ≡ received_signals a.down → b.waiting ≡ a.waiting → b.seat ≡ a.seat → InletGoes [] a b
inlet_same {T} a b h r w s = record {
  hub = h;
  came = [];
  received = r ∙ sym (append-nil (received_signals a.down));
  published = append-nil (held a) ∙ ap (λ o. option_to_list o) (sym w);
  seat = s;
}

pub outlet_same : {T : Type 0} (k : ℕ) (pending : List (SubId × Signal T)) (a b : ToTap T) → sent_signals b.up ≡ sent_signals a.up → carried_up b.up ≡ carried_up a.up → b.asked ≡ a.asked → (is_flagged a.up ≡ true → is_flagged b.up ≡ true) → OutletGoes k [] pending pending a b
outlet_same k pending a b s c n f = record {
  carried = c;
  sent = [];
  signals = s ∙ sym (append-nil (sent_signals a.up));
  delivered = append-nil (signals_for k pending);
  asked = n;
  flagged = f;
  stopped = λ h. cc;
}

count_on : (x y z a c d : ℕ) → y ≡ x + a → z ≡ y + c → d ≡ a + c → z ≡ x + d
count_on x y z a c d f g h = omega arith

pub no_more : (n m : ℕ) → m ≡ n → m ≡ n + 0
no_more n m e = omega arith

module _ {O T : Type 0} {b : Ops O T} where
  pub goes_by_on : (m : Meaning T) (es fs : List (Event T)) (x y z : GraphRegion O T b) → GoesBy m es x y → GoesBy m fs y z → GoesBy m (es ++ fs) x z
  goes_by_on m es fs x y z f g = record {
    ops = g.ops ∙ f.ops;
    stands = stands_on m es fs (state_of x.graph) (state_of y.graph) (state_of z.graph) f.stands g.stands;
    inlets = beside_on (λ k. InletGoes es) (λ k. InletGoes fs) (λ k. InletGoes (es ++ fs)) x.inlets.items y.inlets.items z.inlets.items (λ k a c d. inlet_on es fs a c d) f.inlets g.inlets;
    outlets = beside_on (λ k. OutletGoes k es x.pending.items y.pending.items) (λ k. OutletGoes k fs y.pending.items z.pending.items) (λ k. OutletGoes k (es ++ fs) x.pending.items z.pending.items) x.outlets.items y.outlets.items z.outlets.items (λ k a c d. outlet_on k es fs x.pending.items y.pending.items z.pending.items a c d) f.outlets g.outlets;
    subs = count_on (length (state_of x.graph).joins) (length (state_of y.graph).joins) (length (state_of z.graph).joins) (length (subscribed_in es)) (length (subscribed_in fs)) _ f.subs g.subs (ap length (flat_map-append subscribed_by es fs) ∙ length-append (subscribed_in es) (subscribed_in fs));
    events = known_on (length (state_of x.graph).joins) es fs f.events (subst (λ (n : ℕ). AreKnown n fs) f.subs g.events);
    known = λ h. g.known (f.known h);
  }

  pub goes_by_same : (m : Meaning T) (x : GraphRegion O T b) → GoesBy m [] x x
  goes_by_same m x = record {
    ops = refl;
    stands = λ h k. k;
    inlets = beside_same (λ k. InletGoes []) x.inlets.items (λ k i e. inlet_same i i refl refl refl refl);
    outlets = beside_same (λ k. OutletGoes k [] x.pending.items x.pending.items) x.outlets.items (λ k o e. outlet_same k x.pending.items o o refl refl refl (λ h. h));
    subs = no_more (length (state_of x.graph).joins) _ refl;
    events = tt;
    known = λ h. h;
  }

  pub goes_on : (m : Meaning T) (x y z : GraphRegion O T b) → Goes m x y → Goes m y z → Goes m x z
  goes_on m x y z (es, f) (fs, g) = (es ++ fs, goes_by_on m es fs x y z f g)

  pub goes_same : (m : Meaning T) (x : GraphRegion O T b) → Goes m x x
  goes_same m x = ([], goes_by_same m x)

  -- between its links
  pub region_on : (links : Links T) (x y z : GraphRegion O T b) → GoesOn links x y → GoesOn links y z → GoesOn links x z
  region_on links x y z (e, f) (d, g) =
      let ops : y.graph.ops ≡ x.graph.ops = f.1.ops in
      (d, goes_on (b.meaning x.graph.ops) x y z f (subst (λ (o : O). Goes (b.meaning o) y z) ops g))

  pub region_same : (links : Links T) (x : GraphRegion O T b) → AreEndsOf links x → GoesOn links x x
  region_same links x e = (e, goes_same (b.meaning x.graph.ops) x)

  pub both_go : (links : Links T) (es : List (Event T)) (x y : GraphRegion O T b) → AreEndsOf links y × GoesBy (b.meaning x.graph.ops) es x y → GoesOn links x y
  both_go links es x y (e, f) = (e, (es, f))
