-- What is still to come of the hubs makes their values, with what they took in, and what still comes out of a subscription.
use Rattle.rsx_subscriber.proofs.Laws.{Laws}
use Rattle.std.proofs.Common.{◌≡◌, inl, inr, ℕ, zero, suc, ◌+◌, ◌<◌, add-zero, List, [], ◌∷◌, ◌++◌, length, length-append, map, take, get_or, slice_get, Option, Some, None, refl, ap, sym, ◌∙◌, subst, arith, append_assoc}
use Rattle.std.proofs.lemmas.List.{append-nil, drop_at}
use Rattle.rsx_graph_state.proofs.Named.{feed_named}
use Rattle.rsx_graph_state.proofs.Values.{behind_front, emitted_value, one_behind, take_front, then_signals, values_of}
use Rattle.rsx_graph_state.specs.Prelude.{AreValues, IsValue, History, HubPast, Source, emitted, fed, HubStands, IsFedBy, Rows, SourceStands, StandsFor, feed_of, HubState, without, Open as Stays, Subscription}
use Rattle.rsx_graph_state.proofs.Graphs.{owed_none, owed_open}
use Rattle.rsx_rooted.specs.Inboxes.{waiting_of}
use Rattle.rsx_subscriber.specs.Prelude.{Expr, IsUnended, counts_in, more_after, published_then, values_then, IsPartResidual, Part, PartStands, evaluated, comes_out, notes_of, IsStillOwed, standing_of, EdgeState, Inputs, End, More', Node}
use Rattle.rsx_model.proofs.UntilStop.{until_stop_law}
use Rattle.rsx_pipe.proofs.Signals.{some_same}
use Rattle.rsx_graph_state.specs.declared.feed.Feed.{Feed}
use Rattle.rsx_sources.specs.Prelude.{IsBehind, Reading, published_at, Meaning, unchosen, Stream, ended_by, ending_signals, signals, SubId, Ending, Open, Done, Failed, Next}
use Rattle.rsx_sources.specs.declared.machine.Machine.{Ghosts as Machine}
use Rattle.rsx_subscriber.proofs.Sentence.{values_then-length}
use Rattle.rsx_subscriber.proofs.Values.{value_there}
use Rattle.rsx_tree.specs.Prelude.{IsReadAt, IsRowReadAt, IsTreeReadAt, count_before, IsRowBehind, IsTreeBehind}
use Rattle.rsx_tree.specs.declared.edge.EdgeState.TheVariants.{Live as EdgeLive, Closed as EdgeClosed, Ended as EdgeEnded}
use Rattle.rsx_graph_calls.specs.Looks.{IsOwed}
use Rattle.rsx_graph_calls.specs.ToCome.{AreToCome, IsToCome}

-- ---- what stands behind the nodes that read a hub, where they got all that the hubs took in

one_rest : {T : Type 0} (x : Ending) (v u : Stream T) (n : ℕ) → Some (count_before x (length v.items)) ≡ Some (Some n) → without n (more_after x v u) ≡ u
one_rest {T} Open v u n e =
    let same : length v.items ≡ n = cc in
    λ i. record { items = drop_at v.items u.items n same i; ending = u.ending }
one_rest Done v u n e = cc
one_rest (Failed c) v u n e = cc

rest_at : {T : Type 0} (taken rest : List (Stream T)) → length rest ≡ length taken → (i n : ℕ) → slice_get (counts_in taken) i ≡ Some (Some n) → without n (published_at (values_then taken rest) i) ≡ published_at rest i
rest_at [] rest many i n e = cc
rest_at (v ∷ vs) [] many i n e = absurd (omega (arith, many))
rest_at (v ∷ vs) (u ∷ us) many zero n e = one_rest v.ending v u n e
rest_at (v ∷ vs) (u ∷ us) many (suc i) n e = rest_at vs us (omega (arith, many)) i n e

node_behind : {T : Type 0} (taken rest : List (Stream T)) → length rest ≡ length taken → (o : Option Reading) → IsReadAt (counts_in taken) o → IsBehind o rest (values_then taken rest)
node_behind taken rest many None r = tt
node_behind taken rest many (Some k) r = rest_at taken rest many k.hub k.reached r

row_behind : {M T : Type 0} (b : Machine M T) (taken rest : List (Stream T)) → length rest ≡ length taken → (t : Inputs M) → IsRowReadAt b (counts_in taken) t → IsRowBehind b rest (values_then taken rest) t
row_behind b taken rest many End r = tt
row_behind b taken rest many (More' e n p below q beside) r =
    (elim r.0 [ inl dead ↦ inl dead | inr k ↦ inr (node_behind taken rest many (b.reads n) k.0, row_behind b taken rest many below k.1) ], row_behind b taken rest many beside r.1)

tree_behind : {M T : Type 0} (b : Machine M T) (taken rest : List (Stream T)) → length rest ≡ length taken → (t : Node M) → IsTreeReadAt b (counts_in taken) t → IsTreeBehind b rest (values_then taken rest) t
tree_behind b taken rest many t r = (node_behind taken rest many (b.reads t.machine) r.0, row_behind b taken rest many t.inputs r.1)

-- ---- a hub with a feed

all_next : {T : Type 0} (xs : List T) → IsUnended (map Next xs ++ [])
all_next [] = tt
all_next (x ∷ xs) = all_next xs

-- nothing comes behind an ending
ended_same : {T : Type 0} (v left u : Stream T) → (IsUnended (signals v) → ⊥) → published_then v left ≡ published_then v u
ended_same {T} v left u n = by_ending v.ending refl
  where
    by_ending : (x : Ending) → v.ending ≡ x → published_then v left ≡ published_then v u
    by_ending Open is =
        let P : Ending → Type 0 = λ x. IsUnended (map Next v.items ++ ending_signals x) in
        absurd (n (subst P (sym is) (all_next v.items)))
    by_ending Done is = ap (λ x. more_after x v left) is ∙ sym (ap (λ x. more_after x v u) is)
    by_ending (Failed c) is = ap (λ x. more_after x v left) is ∙ sym (ap (λ x. more_after x v u) is)

-- what still comes out of a feed is what is computed, unless its hub has ended
left_same : {M T : Type 0} (mc : Machine M T) (m : Meaning T) (front waiting : List (Stream T)) (part : Part M) (e : Expr T) (joins : List ℕ) (v left u : Stream T) → length waiting ≡ length front → PartStands mc m front part e joins (signals v) →
    comes_out mc m (values_then front waiting) (map unchosen (notes_of mc part.tree)) part.tree 0 ≡ Some left → (part.root.state ≡ EdgeClosed → ⊥) → IsPartResidual mc m waiting part u → published_then v left ≡ published_then v u
left_same {M} {T} mc m front waiting part e joins v left u many k comes unclosed residual = by_edge part.root.state refl
  where
    by_edge : (s : EdgeState) → part.root.state ≡ s → published_then v left ≡ published_then v u
    by_edge EdgeLive is = ap (published_then v) (some_same left u (sym comes ∙ residual (values_then front waiting) (k.balance is) (tree_behind mc front waiting many part.tree (k.reads is))))
    by_edge EdgeClosed is = absurd (unclosed is)
    by_edge EdgeEnded is = ended_same v left u (k.ended is)

fed_to_come : {M T : Type 0} (mc : Machine M T) (lw : Laws mc) (m : Meaning T) (feeds : List (Feed M)) (front waiting back : List (Stream T)) (i : ℕ) (v u : Stream T) (s : HubState T) (e : Expr T) (joins : List ℕ) → length waiting ≡ length front → i ≡ length front →
    (k : IsFedBy mc m feeds (front ++ v ∷ back) i s e joins) → IsPartResidual mc m waiting k.feed.part u → IsValue mc m feeds (values_then front waiting) (fed e joins) (published_then v u)
fed_to_come {M} {T} mc lw m feeds front waiting back i v u s e joins many at k residual =
    let f = k.feed in
    let st = k.stands in
    let here : f.hub ≡ length front = feed_named feeds i f k.there ∙ at in
    let before : take f.hub (front ++ v ∷ back) ≡ front = take_front f.hub front (v ∷ back) here in
    let same : st.value ≡ v = some_same st.value v (sym st.taken ∙ behind_front f.hub front v back here) in
    let P : List (Stream T) → Type 0 = λ l. PartStands mc m l f.part e joins (signals st.value) in
    let Q : Stream T → Type 0 = λ w. PartStands mc m front f.part e joins (signals w) in
    let part : PartStands mc m front f.part e joins (signals v) = subst Q same (subst P before st.part) in
    let there = value_there mc lw m front waiting f.part e joins (signals v) part in
    let number : i ≡ length (values_then front waiting) = at ∙ sym (values_then-length front waiting many) in
    let own : feed_of feeds (length (values_then front waiting)) ≡ Some f = ap (λ n. feed_of feeds n) (sym number) ∙ k.there in
    let value : evaluated m (values_then front waiting) joins e (notes_of mc f.part.tree) ≡ Some (published_then v u) =
    there.value ∙ ap Some (then_signals v there.left ∙ left_same mc m front waiting f.part e joins v there.left u many part there.comes st.unclosed residual) in
    (f, own, until_stop_law m (values_then front waiting) joins (notes_of mc f.part.tree) e (published_then v u) value)

next_to_come : {M T : Type 0} (mc : Machine M T) (lw : Laws mc) (m : Meaning T) (feeds : List (Feed M)) (front waiting back : List (Stream T)) (i : ℕ) (v u : Stream T) (s : HubState T) (p : HubPast T) → length waiting ≡ length front → i ≡ length front →
    HubStands mc m feeds (front ++ v ∷ back) i v s p → IsToCome mc m waiting s (feed_of feeds (length waiting)) u → IsValue mc m feeds (values_then front waiting) p.source (published_then v u)
next_to_come {M} {T} mc lw m feeds front waiting back i v u s p many at k come = by_source p.source k.source
  where
    found : feed_of feeds (length waiting) ≡ feed_of feeds i
    found = ap (λ n. feed_of feeds n) (many ∙ sym at)

    by_source : (src : Source T) → SourceStands mc m feeds (front ++ v ∷ back) i v s src → IsValue mc m feeds (values_then front waiting) src (published_then v u)
    by_source (emitted w) h =
        let P : Option (Feed M) → Type 0 = λ o. IsToCome mc m waiting s o u in
        let is : u ≡ waiting_of s = subst P (found ∙ h.0) come in
        ap (published_then v) is ∙ emitted_value s v w k.taken_in k.ended h.1
    by_source (fed e joins) h =
        let P : Option (Feed M) → Type 0 = λ o. IsToCome mc m waiting s o u in
        fed_to_come mc lw m feeds front waiting back i v u s e joins many at h (subst P (found ∙ h.there) come)

-- ---- all hubs

all_to_come : {M T : Type 0} (mc : Machine M T) (lw : Laws mc) (m : Meaning T) (feeds : List (Feed M)) (front waiting back rest : List (Stream T)) (hubs : List (HubState T)) (ps : List (HubPast T)) → length waiting ≡ length front → length back ≡ length ps → length hubs ≡ length ps →
    ((j : ℕ) (v : Stream T) (s : HubState T) (p : HubPast T) → slice_get back j ≡ Some v → slice_get hubs j ≡ Some s → slice_get ps j ≡ Some p → HubStands mc m feeds (front ++ back) (length front + j) v s p) →
    AreToCome mc m feeds waiting hubs rest → AreValues mc m feeds (values_then front waiting) ps (values_then back rest) × (length rest ≡ length back)
all_to_come mc lw m feeds front waiting [] [] [] [] many a b k c = (refl, refl)
all_to_come mc lw m feeds front waiting [] (u ∷ rest) [] [] many a b k c = absurd c
all_to_come mc lw m feeds front waiting (v ∷ back) rest hubs [] many a b k c = absurd (omega (arith, a))
all_to_come mc lw m feeds front waiting [] rest hubs (p ∷ ps) many a b k c = absurd (omega (arith, a))
all_to_come mc lw m feeds front waiting back rest (s ∷ hubs) [] many a b k c = absurd (omega (arith, b))
all_to_come mc lw m feeds front waiting back rest [] (p ∷ ps) many a b k c = absurd (omega (arith, b))
all_to_come mc lw m feeds front waiting (v ∷ back) [] (s ∷ hubs) (p ∷ ps) many a b k c = absurd c
all_to_come {M} {T} mc lw m feeds front waiting (v ∷ back) (u ∷ rest) (s ∷ hubs) (p ∷ ps) many a b k c =
    let one = next_to_come mc lw m feeds front waiting back (length front + 0) v u s p many (add-zero (length front)) (k 0 v s p refl refl refl) c.0 in
    let on : front ++ v ∷ back ≡ (front ++ v ∷ []) ++ back = sym (append_assoc front (v ∷ []) back) in
    let step : (j : ℕ) → length front + suc j ≡ length (front ++ v ∷ []) + j = λ j. let l = length-append front (v ∷ []) in omega (arith, l) in
    let more = all_to_come mc lw m feeds (front ++ v ∷ []) (waiting ++ u ∷ []) back rest hubs ps (let x = length-append front (v ∷ []) in let y = length-append waiting (u ∷ []) in omega (arith, x, y, many)) (omega (arith, a)) (omega (arith, b))
    (λ j w t q ew et eq.
    let P : ℕ → Type 0 = λ n. HubStands mc m feeds ((front ++ v ∷ []) ++ back) n w t q in
    let Q : List (Stream T) → Type 0 = λ l. HubStands mc m feeds l (length front + suc j) w t q in
    subst P (step j) (subst Q on (k (suc j) w t q ew et eq))) c.1 in
    let R : List (Stream T) → Type 0 = λ l. AreValues mc m feeds l ps (values_then back rest) in
    ((one, subst R (one_behind front waiting v u many) more.0), ap suc more.1)

pub values_to_come : {M T : Type 0} (mc : Machine M T) (lw : Laws mc) (m : Meaning T) (g : Rows M T) (h : History T) (rest : List (Stream T)) → (s : StandsFor mc m g h) → AreToCome mc m g.feeds [] g.hubs rest → AreValues mc m g.feeds [] h.hubs (values_then s.taken rest) × (length rest ≡ length s.taken)
values_to_come mc lw m g h rest s c = all_to_come mc lw m g.feeds [] [] s.taken rest g.hubs h.hubs refl s.each s.many (λ j v t p ev et ep. let P : ℕ → Type 0 = λ n. HubStands mc m g.feeds s.taken n v t p in subst P (none_first j) (s.hub j v t p ev et ep)) c
  where
    none_first : (k : ℕ) → k ≡ 0 + k
    none_first k = omega arith

-- ---- what a subscriber is owed

pub owed_there : {M T : Type 0} (mc : Machine M T) (lw : Laws mc) (m : Meaning T) (g : Rows M T) (h : History T) (i : SubId) (sub : Subscription M T) (v : Stream T) (rest : List (Stream T)) → i.0 < length g.subs → get_or g.subs i.0 sub ≡ sub → standing_of sub ≡ Stays →
    AreToCome mc m g.feeds [] g.hubs rest → IsStillOwed mc m rest sub v → StandsFor mc m g h → IsOwed mc m g h i v
owed_there mc lw m g h i sub v rest lt e o c w s =
    let to = values_to_come mc lw m g h rest s c in
    record {
      published = values_then s.taken rest;
      values = to.0;
      owed = owed_open mc m s.taken rest g.subs h.pasts i.0 sub v lt e o (λ past k. w s.taken (values_then s.taken rest) past k o (λ live. tree_behind mc s.taken rest to.1 sub.part.tree (k.part.reads live))) s.all;
    }

pub owed_nothing : {M T : Type 0} (mc : Machine M T) (lw : Laws mc) (m : Meaning T) (g : Rows M T) (h : History T) (i : SubId) (sub : Subscription M T) (v : Stream T) → i.0 < length g.subs → get_or g.subs i.0 sub ≡ sub → (standing_of sub ≡ Stays → ⊥) → v ≡ ended_by Open → StandsFor mc m g h → IsOwed mc m g h i v
owed_nothing mc lw m g h i sub v lt e o w s =
    let r = values_of mc lw m g h s in
    record { published = values_then s.taken r.rest; values = r.values; owed = owed_none mc m (values_then s.taken r.rest) s.taken g.subs h.pasts i.0 sub v lt e o w s.all }

-- ---- one hub after the other

pub to_come_more : {M T : Type 0} (mc : Machine M T) (m : Meaning T) (feeds : List (Feed M)) (before : List (Stream T)) (hubs : List (HubState T)) (vs : List (Stream T)) (s : HubState T) (v : Stream T) → AreToCome mc m feeds before hubs vs → IsToCome mc m (before ++ vs) s (feed_of feeds (length (before ++ vs))) v →
    AreToCome mc m feeds before (hubs ++ s ∷ []) (vs ++ v ∷ [])
to_come_more {M} {T} mc m feeds before [] [] s v a k = let P : List (Stream T) → Type 0 = λ l. IsToCome mc m l s (feed_of feeds (length l)) v in (subst P (append-nil before) k, tt)
to_come_more mc m feeds before [] (w ∷ vs) s v a k = absurd a
to_come_more mc m feeds before (t ∷ hubs) [] s v a k = absurd a
to_come_more {M} {T} mc m feeds before (t ∷ hubs) (w ∷ vs) s v a k =
    let P : List (Stream T) → Type 0 = λ l. IsToCome mc m l s (feed_of feeds (length l)) v in
    (a.0, to_come_more mc m feeds (before ++ w ∷ []) hubs vs s v a.1 (subst P (sym (append_assoc before (w ∷ []) vs)) k))

pub to_come_count : {M T : Type 0} (mc : Machine M T) (m : Meaning T) (feeds : List (Feed M)) (before : List (Stream T)) (hubs : List (HubState T)) (vs : List (Stream T)) → AreToCome mc m feeds before hubs vs → length vs ≡ length hubs
to_come_count mc m feeds before [] [] a = refl
to_come_count mc m feeds before [] (v ∷ vs) a = absurd a
to_come_count mc m feeds before (s ∷ hubs) [] a = absurd a
to_come_count mc m feeds before (s ∷ hubs) (v ∷ vs) a = ap suc (to_come_count mc m feeds (before ++ v ∷ []) hubs vs a.1)
