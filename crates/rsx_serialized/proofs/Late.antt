-- What has happened to each subscription that was made since.
use Rattle.std.proofs.Common.{◌≡◌, ℕ, zero, suc, ◌+◌, ◌<◌, ◌≤◌, false, ◌||◌, nat_eq, List, [], ◌∷◌, ◌++◌, length, length-append, refl, ap, ◌∙◌, subst, arith, Option, Some, None, slice_get}
use Rattle.std.specs.Option.{option_to_list}
use Rattle.std.proofs.lemmas.Bool.{ne_eqb}
use Rattle.rsx_demand.specs.Demand.{saturating_total}
use Rattle.rsx_types.specs.declared.names.SubId.{SubId}
use Rattle.rsx_types.specs.declared.signal.Signal.{Signal}
use Rattle.rsx_graph_state.specs.Answers.{changed}
use Rattle.rsx_graph.specs.Rows.{History, Made, joins_in, with_delivery}
use Rattle.rsx_subscriber.specs.Past.{Past, cancelled, given, subscribed as new_past}
use Rattle.rsx_subscriber.specs.Prelude.{Expr}
use Rattle.rsx_serialized.specs.Events.{AreFor, AreKnown, Event, after_event, after_events, asked, asked_by, delivered_in, given_by, moved, published, signals_for, stopped, stopped_by, subscribed, subscribed_by, subscribed_in}
use Rattle.rsx_serialized.specs.Since.{AreSince, LateSince, PastSince}
use Rattle.rsx_serialized.proofs.Lists.{get_last}
use Rattle.rsx_serialized.proofs.Since.{hubs_after, made_pasts, past_on, past_same, pasts_after}
use Rattle.rsx_serialized.proofs.Steps.{choose_false}

-- ---- how many there are

changed_length : {A : Type 0} (f : A → A) (xs : List A) (i : ℕ) → length (changed f xs i) ≡ length xs
changed_length f [] i = refl
changed_length f (x ∷ xs) zero = refl
changed_length f (x ∷ xs) (suc i) = ap suc (changed_length f xs i)

no_more : (n m : ℕ) → m ≡ n → m ≡ n + 0
no_more n m e = omega arith

sums : (n a b c d e : ℕ) → b ≡ n + d → a ≡ b + c → e ≡ d + c → a ≡ n + e
sums n a b c d e f g h = omega arith

as_before : (n a b : ℕ) → n ≡ a → b ≡ a + 0 → n ≡ b
as_before n a b e f = omega arith

one_later : (n a b : ℕ) → n ≡ a → b ≡ a + 1 → suc n ≡ b
one_later n a b e f = omega arith

below : (a n k : ℕ) → a < n → n ≤ k → a ≡ k → ⊥
below a n k lt le e = omega arith

same_some : {X : Type 0} (x y : X) → Some x ≡ Some y → x ≡ y
same_some x y e = cc

module _ {T : Type 0} where
  delivery_length : (o : Option (SubId × Signal T)) (h : History T) → length (with_delivery o h).pasts ≡ length h.pasts
  delivery_length None h = refl
  delivery_length (Some d) h = changed_length (given d.1) h.pasts d.0.0

  pasts_length : (ev : Event T) (h : History T) → length (after_event h ev).pasts ≡ length h.pasts + length (subscribed_by ev)
  pasts_length (moved d) h = no_more (length h.pasts) _ (ap length (made_pasts d.move d.delivered d.fed h) ∙ delivery_length (delivered_in d.move d.delivered) h)
  pasts_length (published j s) h = no_more (length h.pasts) _ refl
  pasts_length (asked i n) h = no_more (length h.pasts) _ (changed_length _ h.pasts i.0)
  pasts_length (stopped i) h = no_more (length h.pasts) _ (changed_length cancelled h.pasts i.0)
  pasts_length (subscribed e) h = length-append h.pasts (new_past e (joins_in h e) ∷ [])

  count_after : (es : List (Event T)) (h : History T) → length (after_events h es).pasts ≡ length h.pasts + length (subscribed_in es)
  count_after [] h = no_more (length h.pasts) _ refl
  count_after (ev ∷ es) h = sums (length h.pasts) _ (length (after_event h ev).pasts) (length (subscribed_in es)) (length (subscribed_by ev)) _ (pasts_length ev h) (count_after es (after_event h ev)) (length-append (subscribed_by ev) (subscribed_in es))

  -- ---- what says nothing of a subscription

  record Quiet (k : ℕ) (ev : Event T) : Type 0 where
    given : given_by k ev ≡ []
    asked : (n : ℕ) → asked_by k n ev ≡ n
    stopped : stopped_by k ev ≡ false

  pub none_for : (n k : ℕ) (ds : List (SubId × Signal T)) → AreFor n ds → n ≤ k → signals_for k ds ≡ []
  none_for n k [] f le = refl
  none_for n k (d ∷ ds) f le = ap (λ l. l ++ signals_for k ds) (choose_false (nat_eq d.0.0 k) (d.1 ∷ []) [] (ne_eqb d.0.0 k (below d.0.0 n k f.0 le))) ∙ none_for n k ds f.1 le

  moved_quiet : (n k : ℕ) (d : Made T) → AreFor n (option_to_list (delivered_in d.move d.delivered)) → n ≤ k → Quiet k (moved d)
  moved_quiet n k d f le = record { given = none_for n k (option_to_list (delivered_in d.move d.delivered)) f le; asked = λ m. refl; stopped = refl }

  asked_quiet : (n k : ℕ) (i : SubId) (m : ℕ) → i.0 < n → n ≤ k → Quiet k (asked i m)
  asked_quiet n k i m lt le = record { given = refl; asked = λ t. choose_false (nat_eq i.0 k) (saturating_total t (suc m)) t (ne_eqb i.0 k (below i.0 n k lt le)); stopped = refl }

  stopped_quiet : (n k : ℕ) (i : SubId) → i.0 < n → n ≤ k → Quiet k (stopped i)
  stopped_quiet n k i lt le = record { given = refl; asked = λ t. refl; stopped = ne_eqb i.0 k (below i.0 n k lt le) }

  -- ---- one thing more before

  since_more : (k : ℕ) (ev : Event T) (es : List (Event T)) (a c : Past T) → Quiet k ev → PastSince k es a c → PastSince k (ev ∷ es) a c
  since_more k ev es a c q g = past_on k ev es a a c (past_same k (ev ∷ []) a (ap (λ l. l ++ []) q.given) (ap (λ x. x || false) q.stopped) (q.asked a.asked)) g

  late_more : (k i j : ℕ) (ev : Event T) (es : List (Event T)) (h : History T) (e : Expr T) → Quiet k ev → ((l : List (Expr T)) → length l ≡ j → length (subscribed_by ev ++ l) ≡ i) → LateSince k j es (after_event h ev) e → LateSince k i (ev ∷ es) h e
  late_more k i j ev es h e q more x = record {
    before = ev ∷ x.before;
    later = x.later;
    parts = ap (λ l. ev ∷ l) x.parts;
    place = more (subscribed_in x.before) x.place;
    past = x.past;
    there = x.there;
    since = since_more k ev es (new_past e (joins_in (after_events (after_event h ev) x.before) e)) x.past q x.since;
  }

  -- the first of them
  late_first : (k : ℕ) (es : List (Event T)) (h : History T) (f : Expr T) → k ≡ length h.pasts → LateSince k zero (subscribed f ∷ es) h f
  late_first k es h f place =
      let a = new_past f (joins_in h f) in
      let y = pasts_after es (after_event h (subscribed f)) k a (get_last h.pasts a k place) in record {
        before = [];
        later = es;
        parts = refl;
        place = refl;
        past = y.0;
        there = y.1;
        since = since_more k (subscribed f) es a y.0 (record { given = refl; asked = λ m. refl; stopped = refl }) y.2;
      }

  late : (es : List (Event T)) (h : History T) (n : ℕ) → n ≡ length h.pasts → AreKnown n es → (j : ℕ) (e : Expr T) → slice_get (subscribed_in es) j ≡ Some e → LateSince (n + j) j es h e
  late [] h n is known j e at = cc
  late (moved d ∷ es) h n is known j e at =
      late_more (n + j) j j (moved d) es h e (moved_quiet n (n + j) d known.0 (omega arith)) (λ l x. x) (late es (after_event h (moved d)) n (as_before n _ _ is (pasts_length (moved d) h)) known.1 j e at)
  late (published i s ∷ es) h n is known j e at =
      late_more (n + j) j j (published i s) es h e (record { given = refl; asked = λ m. refl; stopped = refl }) (λ l x. x) (late es (after_event h (published i s)) n is known j e at)
  late (asked i m ∷ es) h n is known j e at =
      late_more (n + j) j j (asked i m) es h e (asked_quiet n (n + j) i m known.0 (omega arith)) (λ l x. x) (late es (after_event h (asked i m)) n (as_before n _ _ is (pasts_length (asked i m) h)) known.1 j e at)
  late (stopped i ∷ es) h n is known j e at =
      late_more (n + j) j j (stopped i) es h e (stopped_quiet n (n + j) i known.0 (omega arith)) (λ l x. x) (late es (after_event h (stopped i)) n (as_before n _ _ is (pasts_length (stopped i) h)) known.1 j e at)
  late (subscribed f ∷ es) h n is known zero e at =
      subst (λ (x : Expr T). LateSince (n + zero) zero (subscribed f ∷ es) h x) (same_some f e at) (late_first (n + zero) es h f (omega (arith, is)))
  late (subscribed f ∷ es) h n is known (suc j) e at =
      let x = late es (after_event h (subscribed f)) (suc n) (one_later n _ _ is (pasts_length (subscribed f) h)) known j e at in
      let y : LateSince (suc n + j) (suc j) (subscribed f ∷ es) h e = late_more (suc n + j) (suc j) j (subscribed f) es h e (record { given = refl; asked = λ m. refl; stopped = refl }) (λ l z. ap suc z) x in
      subst (λ (k : ℕ). LateSince k (suc j) (subscribed f ∷ es) h e) (omega arith) y

  -- of all hubs and subscribers
  pub since : (es : List (Event T)) (h : History T) → AreSince es h
  since es h = record {
    hubs = λ k p e. hubs_after es h k p e;
    pasts = λ k p e. pasts_after es h k p e;
    late = λ known j e at. late es h (length h.pasts) refl known j e at;
    count = count_after es h;
  }
