-- In the tree of an open subscription none of whose moves is enabled, and whose subscriber asked for more than it received, some node
-- waits for a hub that is there.
use Rattle.std.proofs.Common.{◌≡◌, inl, inr, ℕ, zero, suc, ◌<◌, ◌≤◌, Bool, true, false, ◌&&◌, List, [], ◌∷◌, ◌++◌, length, map, Option, Some, None, option_map, slice_get, refl, ap, sym, ◌∙◌, subst, arith}
use Rattle.std.proofs.lemmas.List.{append-nil}
use Rattle.std.proofs.lemmas.Bool.{both_ways}
use Rattle.rsx_types.proofs.Options.{none_from_no_some}
use Rattle.rsx_sources.specs.Prelude.{Meaning, Reading, Signal, Stream, front_of}
use Rattle.rsx_sources.specs.Reading.{hub_of}
use Rattle.rsx_sources.specs.declared.machine.Machine.{Ghosts as Machine}
use Rattle.rsx_tree.specs.declared.edge.Edge.{Edge}
use Rattle.rsx_tree.specs.Edges.{edge_view, is_live}
use Rattle.rsx_tree.specs.Reads.{IsReadAt, IsRowReadAt, IsTreeReadAt}
use Rattle.rsx_tree.proofs.Idles.{can_pass_live}
use Rattle.rsx_model.proofs.Unfold.{sound}
use Rattle.rsx_model.specs.declared.check.TheConstants.{MOST_NODES}
use Rattle.rsx_pipe.specs.Part.{all_edges, has_room, send_enabled}
use Rattle.rsx_pipe.specs.Tree.{offers}
use Rattle.rsx_pipe.proofs.Parts.{few_below, idle_tree, still_root}
use Rattle.rsx_tree.specs.declared.look.NodeMove.TheVariants.{Send}
use Rattle.rsx_subscriber.specs.Prelude.{Closed, EdgeState, End, Inputs, IsLive, IsQuiet, IsUnended, IsWithin, items_in, Live, More', Node, Past, Stands, counts_in, standing_of, take_enabled}
use Rattle.rsx_subscriber.specs.declared.state.SubscriptionState.TheVariants.{Open}
use Rattle.rsx_subscriber.specs.declared.subscription.Subscription.{Subscription}
use Rattle.rsx_subscriber.proofs.Moves.{take_queued}
use Rattle.rsx_tree.specs.declared.edge.EdgeState.TheVariants.{Ended}
use Rattle.rsx_graph_moves.specs.Idle.{LacksAll}
use Rattle.rsx_graph_moves.specs.Waiting.{Reads, Waits, WaitsIn}

-- ---- something lacks

nothing_queued : {M T : Type 0} (mc : Machine M T) (m : Meaning T) (published : List (Stream T)) (sub : Subscription M T) (past : Past T) → IsQuiet mc m sub → Stands mc m published sub past → sub.queue ≡ []
nothing_queued {M} {T} mc m published sub past q h = by_queue sub.queue refl
  where
    by_queue : (l : List (Signal T)) → sub.queue ≡ l → sub.queue ≡ []
    by_queue [] e = e
    by_queue (t ∷ l) e =
        let some : 0 < length sub.queue = rw e (omega arith) in
        absurd (both_ways (take_enabled sub 0) q.1 (take_queued mc m published sub past h some))

pub lacks_all : {M T : Type 0} (mc : Machine M T) (m : Meaning T) (published : List (Stream T)) (sub : Subscription M T) (past : Past T) → standing_of sub ≡ Open → IsQuiet mc m sub → sub.demand.sent < sub.demand.asked → Stands mc m published sub past → IsWithin sub.part.tree →
    LacksAll mc m sub.part.root sub.part.tree
lacks_all {M} {T} mc m published sub past o q more h within = record {
  live = live;
  more = less;
  nothing = none_from_no_some (offers mc m sub.part.tree) silent;
  idle = idle_tree mc m sub.part (has_room sub.queue) q.0 few;
  still = still_root mc m sub.part (has_room sub.queue) q.0;
  balanced = h.part.balance live;
  within = within;
  few = let k = few_below sub.part few in omega (arith, k);
}
  where
    alive : IsLive (standing_of sub)
    alive = rw o tt

    none : sub.queue ≡ []
    none = nothing_queued mc m published sub past q h

    all : past.received ≡ h.output
    all = sym (append-nil past.received) ∙ (ap (λ l. past.received ++ l) (sym none) ∙ h.held alive)

    live : sub.part.root.state ≡ Live
    live = by_state sub.part.root.state refl
      where
        by_state : (s : EdgeState) → sub.part.root.state ≡ s → sub.part.root.state ≡ Live
        by_state Live e = e
        by_state Closed e = absurd (h.unclosed alive e)
        by_state Ended e = absurd (h.part.ended e (subst IsUnended all (h.waits o)))

    less : sub.part.root.demand.sent < sub.part.root.demand.asked
    less =
        let counted = h.part.counted in
        let delivered = h.delivered in
        let same = ap (λ l. length (items_in l)) all in
        let asked = h.asked in
        let requested = h.requested in
        omega (arith, counted, delivered, same, asked, requested, more)

    few : length (all_edges sub.part) ≤ MOST_NODES
    few =
        let small = (sound (length published) past.expression h.admitted).small in
        let k = h.shape in
        omega (arith, k, small)

    silent : (s : Signal T) → offers mc m sub.part.tree ≡ Some s → ⊥
    silent s offered =
        let room : has_room sub.queue ≡ true = ap has_room none in
        let can : is_live sub.part.root.state ≡ true = ap is_live live in
        let goes : send_enabled mc m sub.part (has_room sub.queue) 0 ≡ true = rw (room, offered) (can_pass_live (edge_view sub.part.root) (front_of s) can less) in
        both_ways (send_enabled mc m sub.part (has_room sub.queue) 0) (q.0 (Send 0) (omega arith)) goes

-- ---- the hub is there

pub got_within : {A : Type 0} (xs : List A) (i : ℕ) (x : A) → slice_get xs i ≡ Some x → i < length xs
got_within [] i x e = cc
got_within (y ∷ xs) zero x e = omega arith
got_within (y ∷ xs) (suc i) x e = let k = got_within xs i x e in omega (arith, k)

pub counted_all : {A B : Type 0} (f : A → B) (xs : List A) → length (map f xs) ≡ length xs
counted_all f [] = refl
counted_all f (x ∷ xs) = ap suc (counted_all f xs)

first_of : (a b : Bool) → a && b ≡ true → a ≡ true
first_of true b e = refl
first_of false b e = cc

-- a node that reads a hub, as far as this list says
read_within : {M T : Type 0} (b : Machine M T) (counts : List (Option ℕ)) (n : M) (hub : ℕ) (o : Option Reading) → b.reads n ≡ o → Reads b n hub → IsReadAt counts (b.reads n) → hub < length counts
read_within b counts n hub None e r k = let f = sym (ap (option_map hub_of) e) ∙ r in cc
read_within {M} b counts n hub (Some r) e is k =
    let P : Option Reading → Type 0 = λ o. IsReadAt counts o in
    let at : slice_get counts r.hub ≡ Some (Some r.reached) = subst P e k in
    let same : r.hub ≡ hub = some_number r.hub hub (sym (ap (option_map hub_of) e) ∙ is) in
    subst (λ h. h < length counts) same (got_within counts r.hub (Some r.reached) at)
  where
    some_number : (x y : ℕ) → Some x ≡ Some y → x ≡ y
    some_number x y e = cc

row_within : {M T : Type 0} (b : Machine M T) (counts : List (Option ℕ)) (t : Inputs M) (at hub : ℕ) → IsRowReadAt b counts t → WaitsIn b t at hub → hub < length counts
row_within b counts End at hub r w = absurd w
row_within {M} b counts (More' e n p below q beside) at hub r w = elim w [
  | inl k ↦ of_live _ k.1 (λ l. read_within b counts n hub (b.reads n) refl k.2 l.0)
  | inr x ↦ elim x [
    | inl k ↦ of_live _ k.2 (λ l. row_within b counts below k.0 hub l.1 k.3)
    | inr k ↦ row_within b counts beside k.0 hub r.1 k.2
  ]
]
  where
    of_live : (c : Bool) → is_live e.state && c ≡ true → (IsReadAt counts (b.reads n) × IsRowReadAt b counts below → hub < length counts) → hub < length counts
    of_live c l go = elim r.0 [
      | inl dead ↦ absurd (both_ways (is_live e.state) dead (first_of (is_live e.state) c l))
      | inr k ↦ go k
    ]

pub tree_within : {M T : Type 0} (b : Machine M T) (counts : List (Option ℕ)) (root : Edge) (t : Node M) (at hub : ℕ) → IsTreeReadAt b counts t → Waits b root t at hub → hub < length counts
tree_within b counts root t zero hub r w = read_within b counts t.machine hub (b.reads t.machine) refl w.1 r.0
tree_within b counts root t (suc at) hub r w = row_within b counts t.inputs at hub r.1 w.1

-- the hub for which a node waits is one of those that there are
pub hub_within : {M T : Type 0} (mc : Machine M T) (m : Meaning T) (published : List (Stream T)) (sub : Subscription M T) (past : Past T) → Stands mc m published sub past → sub.part.root.state ≡ Live → (at hub : ℕ) → Waits mc sub.part.root sub.part.tree at hub → hub < length published
hub_within mc m published sub past h live at hub w =
    let many : length (counts_in published) ≡ length published = counted_all _ published in
    let k = tree_within mc (counts_in published) sub.part.root sub.part.tree at hub (h.part.reads live) w in
    omega (arith, many, k)
