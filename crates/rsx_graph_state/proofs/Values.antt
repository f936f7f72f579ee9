-- The values of hubs: what they took in, and then what is still to come of them. With these the headline holds.
use Rattle.rsx_sources.specs.declared.machine.Machine.{Ghosts as Machine}
use Rattle.rsx_subscriber.proofs.Laws.{Laws}
use Rattle.std.proofs.Common.{◌≡◌, ℕ, zero, suc, ◌+◌, Bool, true, false, add-zero, List, [], ◌∷◌, ◌++◌, length, length-append, map, take, slice_get, Some, refl, ap, sym, ◌∙◌, subst, arith, append_assoc}
use Rattle.std.proofs.lemmas.List.{append-nil}
use Rattle.rsx_graph_state.specs.Holding.{AllHold}
use Rattle.rsx_graph_state.specs.Subscriptions.{AllStand}
use Rattle.rsx_hub.specs.Hub.{HubState, hub_value}
use Rattle.rsx_hub.specs.Member.{ending_taken}
use Rattle.rsx_hub.specs.Waiting.{is_open}
use Rattle.rsx_rooted.specs.Inboxes.{waiting_of}
use Rattle.rsx_subscriber.specs.Prelude.{Expr, more_after, published_then, values_then, evaluated, IsTaken, notes_of, Past}
use Rattle.rsx_model.proofs.UntilStop.{until_stop_law}
use Rattle.rsx_pipe.proofs.Signals.{some_same}
use Rattle.rsx_graph_state.specs.declared.feed.Feed.{Feed}
use Rattle.rsx_subscriber.proofs.Sentence.{holds, values_then-length}
use Rattle.rsx_subscriber.proofs.Values.{value_there}
use Rattle.rsx_subscriber.specs.declared.subscription.Subscription.{Subscription}
use Rattle.rsx_sources.specs.Prelude.{Meaning, Stream, ending_signals, items_then, signals, signals_then, Ending, Open, Done, Failed, Signal, Next}
use Rattle.rsx_graph_state.specs.Headline.{AreValues, Headline, IsValue}
use Rattle.rsx_graph_state.specs.History.{History, HubPast, Source, emitted, fed}
use Rattle.rsx_graph_state.specs.Stands.{HubStands, IsFedBy, Rows, SourceStands, StandsFor, feed_of}
use Rattle.rsx_graph_state.proofs.Named.{feed_named}

-- ---- a hub with an emitter

same_value : {T : Type 0} (v w : Stream T) → v.items ≡ w.items → v.ending ≡ w.ending → v ≡ w
same_value v w a b i = record { items = a i; ending = b i }

-- what it took in, and then its inbox
then_inbox : {T : Type 0} (b : Bool) (v u : Stream T) → v.ending ≡ ending_taken b u.ending → (b ≡ true → (u.items ≡ []) × (is_open u.ending ≡ false)) → published_then v u ≡ record { items = v.items ++ u.items; ending = u.ending }
then_inbox false v u e k = ap (λ x. more_after x v u) e
then_inbox {T} true v u e k = by_ending u.ending refl
  where
    rest : u.items ≡ []
    rest = (k refl).0

    whole : v ≡ record { items = v.items ++ u.items; ending = u.ending }
    whole = same_value v (record { items = v.items ++ u.items; ending = u.ending }) (sym (append-nil v.items) ∙ ap (λ l. v.items ++ l) (sym rest)) e

    by_ending : (x : Ending) → u.ending ≡ x → published_then v u ≡ record { items = v.items ++ u.items; ending = u.ending }
    by_ending Open is = let no = sym (ap is_open is) ∙ (k refl).1 in cc
    by_ending Done is = ap (λ x. more_after x v u) (e ∙ is) ∙ whole
    by_ending (Failed c) is = ap (λ x. more_after x v u) (e ∙ is) ∙ whole

pub emitted_value : {T : Type 0} (s : HubState T) (v w : Stream T) → IsTaken s v → (s.has_ended ≡ true → s.inbox ≡ []) → w ≡ hub_value s v.items → published_then v (waiting_of s) ≡ w
emitted_value s v w k none is = then_inbox s.has_ended v (waiting_of s) k.ending (λ e. (none e, k.closed e)) ∙ sym is

-- ---- a hub with a feed

items_first : {T : Type 0} (xs : List T) (ss : List (Signal T)) (u : Stream T) → signals_then (map Next xs ++ ss) u ≡ items_then xs (signals_then ss u)
items_first [] ss u = refl
items_first (x ∷ xs) ss u = ap (λ v. record { items = x ∷ v.items; ending = v.ending }) (items_first xs ss u)

-- the signals of what it took in, and then what is still to come
pub then_signals : {T : Type 0} (v u : Stream T) → signals_then (signals v) u ≡ published_then v u
then_signals {T} v u = by_ending v.ending refl
  where
    first : signals_then (signals v) u ≡ items_then v.items (signals_then (ending_signals v.ending) u)
    first = items_first v.items (ending_signals v.ending) u

    by_ending : (x : Ending) → v.ending ≡ x → signals_then (signals v) u ≡ published_then v u
    by_ending Open is = first ∙ (ap (λ x. items_then v.items (signals_then (ending_signals x) u)) is ∙ sym (ap (λ x. more_after x v u) is))
    by_ending Done is = first ∙ (ap (λ x. items_then v.items (signals_then (ending_signals x) u)) is ∙ (same_value (record { items = v.items ++ []; ending = Done }) v (append-nil v.items) (sym is) ∙ sym (ap (λ x. more_after x v u) is)))
    by_ending (Failed c) is = first ∙ (ap (λ x. items_then v.items (signals_then (ending_signals x) u)) is ∙ (same_value (record { items = v.items ++ []; ending = Failed c }) v (append-nil v.items) (sym is) ∙ sym (ap (λ x. more_after x v u) is)))

pub take_front : {A : Type 0} (n : ℕ) (xs ys : List A) → n ≡ length xs → take n (xs ++ ys) ≡ xs
take_front zero [] ys e = refl
take_front (suc n) [] ys e = absurd (omega (arith, e))
take_front zero (x ∷ xs) ys e = absurd (omega (arith, e))
take_front (suc n) (x ∷ xs) ys e = ap (λ l. x ∷ l) (take_front n xs ys (omega (arith, e)))

pub behind_front : {A : Type 0} (n : ℕ) (xs : List A) (y : A) (ys : List A) → n ≡ length xs → slice_get (xs ++ y ∷ ys) n ≡ Some y
behind_front zero [] y ys e = refl
behind_front (suc n) [] y ys e = absurd (omega (arith, e))
behind_front zero (x ∷ xs) y ys e = absurd (omega (arith, e))
behind_front (suc n) (x ∷ xs) y ys e = behind_front n xs y ys (omega (arith, e))

-- the value of the next hub, behind those before it
abbrev HasNext : {M T : Type 0} → Machine M T → Meaning T → List (Feed M) → List (Stream T) → Source T → Stream T → Type 0
HasNext {M} {T} mc m feeds before source v = (u : Stream T) × IsValue mc m feeds before source (published_then v u)

fed_value : {M T : Type 0} (mc : Machine M T) (lw : Laws mc) (m : Meaning T) (feeds : List (Feed M)) (front waiting back : List (Stream T)) (i : ℕ) (v : Stream T) (s : HubState T) (e : Expr T) (joins : List ℕ) → length waiting ≡ length front → i ≡ length front → IsFedBy mc m feeds (front ++ v ∷ back) i s e joins → HasNext mc m feeds (values_then front waiting) (fed e joins) v
fed_value {M} {T} mc lw m feeds front waiting back i v s e joins many at k =
    let f = k.feed in
    let st = k.stands in
    let here : f.hub ≡ length front = feed_named feeds i f k.there ∙ at in
    let before : take f.hub (front ++ v ∷ back) ≡ front = take_front f.hub front (v ∷ back) here in
    let same : st.value ≡ v = some_same st.value v (sym st.taken ∙ behind_front f.hub front v back here) in
    let there = value_there mc lw m (take f.hub (front ++ v ∷ back)) waiting f.part e joins (signals st.value) st.part in
    let number : i ≡ length (values_then front waiting) = at ∙ sym (values_then-length front waiting many) in
    let own : feed_of feeds (length (values_then front waiting)) ≡ Some f = ap (λ n. feed_of feeds n) (sym number) ∙ k.there in
    let value : evaluated m (values_then front waiting) joins e (notes_of mc f.part.tree) ≡ Some (published_then v there.left) =
    ap (λ l. evaluated m (values_then l waiting) joins e (notes_of mc f.part.tree)) (sym before) ∙ (there.value ∙ ap Some (then_signals st.value there.left ∙ ap (λ x. published_then x there.left) same)) in
    (there.left, (f, own, until_stop_law m (values_then front waiting) joins (notes_of mc f.part.tree) e (published_then v there.left) value))

next_value : {M T : Type 0} (mc : Machine M T) (lw : Laws mc) (m : Meaning T) (feeds : List (Feed M)) (front waiting back : List (Stream T)) (i : ℕ) (v : Stream T) (s : HubState T) (p : HubPast T) → length waiting ≡ length front → i ≡ length front → HubStands mc m feeds (front ++ v ∷ back) i v s p → HasNext mc m feeds (values_then front waiting) p.source v
next_value {M} {T} mc lw m feeds front waiting back i v s p many at k = by_source p.source k.source
  where
    by_source : (src : Source T) → SourceStands mc m feeds (front ++ v ∷ back) i v s src → HasNext mc m feeds (values_then front waiting) src v
    by_source (emitted w) h = (waiting_of s, emitted_value s v w k.taken_in k.ended h.1)
    by_source (fed e joins) h = fed_value mc lw m feeds front waiting back i v s e joins many at h

-- ---- all hubs

pub one_behind : {T : Type 0} (xs us : List (Stream T)) (v u : Stream T) → length us ≡ length xs → values_then (xs ++ v ∷ []) (us ++ u ∷ []) ≡ values_then xs us ++ published_then v u ∷ []
one_behind [] [] v u e = refl
one_behind [] (w ∷ us) v u e = absurd (omega (arith, e))
one_behind (x ∷ xs) [] v u e = absurd (omega (arith, e))
one_behind (x ∷ xs) (w ∷ us) v u e = ap (λ l. published_then x w ∷ l) (one_behind xs us v u (omega (arith, e)))

-- what is still to come of these hubs, with which their values are there
pub record HaveRest {M T : Type 0} (mc : Machine M T) (m : Meaning T) (feeds : List (Feed M)) (before taken : List (Stream T)) (ps : List (HubPast T)) : Type 0 where
  pub rest : List (Stream T)
  pub many : length rest ≡ length taken
  pub values : AreValues mc m feeds before ps (values_then taken rest)

all_values : {M T : Type 0} (mc : Machine M T) (lw : Laws mc) (m : Meaning T) (feeds : List (Feed M)) (front waiting back : List (Stream T)) (hubs : List (HubState T)) (ps : List (HubPast T)) → length waiting ≡ length front → length back ≡ length ps → length hubs ≡ length ps →
    ((j : ℕ) (v : Stream T) (s : HubState T) (p : HubPast T) → slice_get back j ≡ Some v → slice_get hubs j ≡ Some s → slice_get ps j ≡ Some p → HubStands mc m feeds (front ++ back) (length front + j) v s p) → HaveRest mc m feeds (values_then front waiting) back ps
all_values mc lw m feeds front waiting [] [] [] many a b k = record { rest = []; many = refl; values = refl }
all_values mc lw m feeds front waiting (v ∷ back) hubs [] many a b k = absurd (omega (arith, a))
all_values mc lw m feeds front waiting [] hubs (p ∷ ps) many a b k = absurd (omega (arith, a))
all_values mc lw m feeds front waiting back (s ∷ hubs) [] many a b k = absurd (omega (arith, b))
all_values mc lw m feeds front waiting back [] (p ∷ ps) many a b k = absurd (omega (arith, b))
all_values {M} {T} mc lw m feeds front waiting (v ∷ back) (s ∷ hubs) (p ∷ ps) many a b k =
    let one = next_value mc lw m feeds front waiting back (length front + 0) v s p many (add-zero (length front)) (k 0 v s p refl refl refl) in
    let on : front ++ v ∷ back ≡ (front ++ v ∷ []) ++ back = sym (append_assoc front (v ∷ []) back) in
    let step : (j : ℕ) → length front + suc j ≡ length (front ++ v ∷ []) + j = λ j. let l = length-append front (v ∷ []) in omega (arith, l) in
    let more = all_values mc lw m feeds (front ++ v ∷ []) (waiting ++ one.0 ∷ []) back hubs ps (let x = length-append front (v ∷ []) in let y = length-append waiting (one.0 ∷ []) in omega (arith, x, y, many)) (omega (arith, a)) (omega (arith, b))
    (λ j w t q ew et eq.
    let P : ℕ → Type 0 = λ n. HubStands mc m feeds ((front ++ v ∷ []) ++ back) n w t q in
    let Q : List (Stream T) → Type 0 = λ l. HubStands mc m feeds l (length front + suc j) w t q in
    subst P (step j) (subst Q on (k (suc j) w t q ew et eq))) in
    let R : List (Stream T) → Type 0 = λ l. AreValues mc m feeds l ps (values_then back more.rest) in
    record { rest = one.0 ∷ more.rest; many = ap suc more.many; values = (one.1, subst R (one_behind front waiting v one.0 many) more.values) }

-- a graph that stands for a history: the values of its hubs are what they took in, and then this
pub values_of : {M T : Type 0} (mc : Machine M T) (lw : Laws mc) (m : Meaning T) (g : Rows M T) (h : History T) → (s : StandsFor mc m g h) → HaveRest mc m g.feeds [] s.taken h.hubs
values_of {M} {T} mc lw m g h s = all_values mc lw m g.feeds [] [] s.taken g.hubs h.hubs refl s.each s.many (λ j v t p ev et ep. let P : ℕ → Type 0 = λ n. HubStands mc m g.feeds s.taken n v t p in subst P (none_first j) (s.hub j v t p ev et ep))
  where
    none_first : (k : ℕ) → k ≡ 0 + k
    none_first k = omega arith

-- ---- the headline

all_hold : {M T : Type 0} (mc : Machine M T) (lw : Laws mc) (m : Meaning T) (taken waiting : List (Stream T)) → length waiting ≡ length taken → (subs : List (Subscription M T)) (pasts : List (Past T)) → AllStand mc m taken subs pasts → AllHold mc m (values_then taken waiting) subs pasts
all_hold mc lw m taken waiting e [] [] h = tt
all_hold mc lw m taken waiting e (s ∷ ss) (p ∷ ps) h = (holds mc lw m taken waiting s p h.0 e, all_hold mc lw m taken waiting e ss ps h.1)
all_hold mc lw m taken waiting e [] (p ∷ ps) h = absurd h
all_hold mc lw m taken waiting e (s ∷ ss) [] h = absurd h

pub whole_holds : {M T : Type 0} (mc : Machine M T) (lw : Laws mc) (m : Meaning T) (g : Rows M T) (h : History T) → StandsFor mc m g h → Headline mc m g h
whole_holds mc lw m g h s =
    let r = values_of mc lw m g h s in
    record { published = values_then s.taken r.rest; values = r.values; all = all_hold mc lw m s.taken r.rest r.many g.subs h.pasts s.all }
