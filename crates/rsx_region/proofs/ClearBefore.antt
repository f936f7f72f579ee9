-- An edge of a tree over which no receiver has ended or is done, and which is live with each edge over it, was so before a call.
use Rattle.std.proofs.Common.{◌≡◌, inl, inr, ℕ, zero, suc, ◌+◌, ◌-◌, Bool, true, false, ◌&&◌, nat_eq, nat_le, if◌then◌else◌, List, [], ◌∷◌, ◌++◌, refl, ap, sym, ◌∙◌, subst, arith, Some}
use Rattle.std.specs.Prelude.{not}
use Rattle.std.proofs.lemmas.Bool.{and_parts}
use Rattle.rsx_sources.specs.Prelude.{Meaning, CountsOut, Signal, Next, Complete, Error, front_of, reads_hub}
use Rattle.rsx_sources.specs.declared.machine.Machine.{Ghosts as Machine}
use Rattle.rsx_tree.proofs.Closes.{size_closed}
use Rattle.rsx_tree.proofs.Taking.{node_stays}
use Rattle.rsx_tree.specs.Changed.{Hold, IsChanged, IsSentOver}
use Rattle.rsx_tree.specs.Edges.{EdgeView, asked_up_to, changed_at, closed_state, edge_view, is_live, passed}
use Rattle.rsx_tree.specs.Handed.{IsHanded, IsNodeHanded, IsRowHanded, OneOf}
use Rattle.rsx_tree.specs.Inputs.{closed_row, closed_row_if, edges, is_own, size, with_edge_at}
use Rattle.rsx_tree.specs.Stepped.{IsStepped, IsSteppedAt, StaysOver}
use Rattle.rsx_tree.specs.Tree.{IsLetGo, IsSentAt, with_edge}
use Rattle.rsx_tree.specs.declared.edge.Edge.{Edge}
use Rattle.rsx_tree.specs.declared.edge.EdgeState.{EdgeState}
use Rattle.rsx_tree.specs.declared.edge.EdgeState.TheVariants.{Live, Closed, Ended}
use Rattle.rsx_tree.specs.declared.inputs.Inputs.{Inputs, End, More'}
use Rattle.rsx_tree.specs.declared.look.NodeMove.{NodeMove}
use Rattle.rsx_tree.specs.declared.look.NodeMove.TheVariants.{Ask, Send, Pick, Row}
use Rattle.rsx_tree.specs.declared.node.Node.{Node}
use Rattle.rsx_tree.proofs.Runs.{leads_keep}
use Rattle.rsx_pipe.specs.Fetched.{IsWorked}
use Rattle.rsx_pipe.specs.Part.{IsAsk, IsEffect, IsMovedOver, Part, all_edges, no_room, wanted}
use Rattle.rsx_rooted.specs.Rooted.{IsTreeSent}
use Rattle.rsx_region.proofs.EdgePlaces.{both}
use Rattle.rsx_region.specs.Open.{WasClear, is_clear, is_live_over, is_open_over, is_row_clear, is_row_live, is_row_open}

-- ---- tests

still_not : (c c' : Bool) → (c ≡ true → c' ≡ true) → not c' ≡ true → not c ≡ true
still_not false c' f h = refl
still_not true true f h = h
still_not true false f h = let t = f refl in cc

and_still : (x x' y y' : Bool) → (x' ≡ true → x ≡ true) → (x' ≡ true → y' ≡ true → y ≡ true) → (x' && y') ≡ true → (x && y) ≡ true
and_still x x' y y' f g h = let k = and_parts x' y' h in both x y (f k.0) (g k.0 k.1)

chosen_still : (z w w' x x' y y' v v' : Bool) → w' ≡ w → (x' ≡ true → x ≡ true) → (y' ≡ true → y ≡ true) → (v' ≡ true → v ≡ true) → (if z then x' else (if w' then y' else v')) ≡ true → (if z then x else (if w then y else v)) ≡ true
chosen_still true w w' x x' y y' v v' same f g k h = f h
chosen_still false true true x x' y y' v v' same f g k h = g h
chosen_still false false false x x' y y' v v' same f g k h = k h
chosen_still false true false x x' y y' v v' same f g k h = cc
chosen_still false false true x x' y y' v v' same f g k h = cc

chosen_both : (z w x x' x'' y y' y'' v v' v'' : Bool) → (x' ≡ true → x'' ≡ true → x ≡ true) → (y' ≡ true → y'' ≡ true → y ≡ true) → (v' ≡ true → v'' ≡ true → v ≡ true) →
    (if z then x' else (if w then y' else v')) ≡ true → (if z then x'' else (if w then y'' else v'')) ≡ true → (if z then x else (if w then y else v)) ≡ true
chosen_both true w x x' x'' y y' y'' v v' v'' f g k h = f h
chosen_both false true x x' x'' y y' y'' v v' v'' f g k h = g h
chosen_both false false x x' x'' y y' y'' v v' v'' f g k h = k h

-- ---- nodes and rows

-- a node that had ended has, and an input that was done is
abbrev StaysSo : {M T : Type 0} → Machine M T → M → M → Type 0
StaysSo b n n' = (b.ended n ≡ true → b.ended n' ≡ true) × ((j : ℕ) → b.done n j ≡ true → b.done n' j ≡ true)

stays_same : {M T : Type 0} (b : Machine M T) (n n' : M) → n' ≡ n → StaysSo b n n'
stays_same {M} b n n' same = let S : M → Type 0 = λ x. StaysSo b n x in subst S (sym same) (λ e. e, λ j d. d)

-- the second row has as many nodes, and what is clear in it was so in the first
abbrev RowWasClear : {M T : Type 0} → Machine M T → M → M → ℕ → Inputs M → Inputs M → Type 0
RowWasClear b r r' i old new = (size new ≡ size old) × ((at : ℕ) → is_row_clear b r' i new at ≡ true → is_row_clear b r i old at ≡ true)

-- a row's first edge, with all below it, and those beside it
row_both : {M T : Type 0} (b : Machine M T) (r r' : M) (i : ℕ) (e e' : Edge) (n n' : M) (p q : Hold) (below below' beside beside' : Inputs M) → StaysSo b r r' → size below' ≡ size below →
    (is_live e'.state ≡ true → (is_live e.state ≡ true) × StaysSo b n n' × RowWasClear b n n' 0 below below') → RowWasClear b r r' (i + 1) beside beside' → RowWasClear b r r' i (More' e n p below q beside) (More' e' n' p below' q beside')
row_both b r r' i e e' n n' p q below below' beside beside' stays same under side =
    let here = and_still (is_live e.state) (is_live e'.state) (not (b.done r i)) (not (b.done r' i)) (λ l. (under l).0) (λ l. still_not (b.done r i) (b.done r' i) (stays.1 i)) in (
      rw (same, side.0) refl,
      λ at. chosen_still (nat_eq at 0) (nat_le at (size below)) (nat_le at (size below')) _ _ _ _ _ _ (ap (nat_le at) same)
          here
          (and_still _ _ _ _ here (λ a. let u = under (and_parts _ _ a).0 in and_still _ _ _ _ (still_not (b.ended n) (b.ended n') u.1.0) (λ f. u.2.1 (at - 1))))
          (λ h. side.1 (at - 1 - size below) (ap (λ k. is_row_clear b r' (i + 1) beside' (at - 1 - k)) (sym same) ∙ h)),
    )

row_still : {M T : Type 0} (b : Machine M T) (r r' : M) (i : ℕ) (t : Inputs M) → StaysSo b r r' → RowWasClear b r r' i t t
row_still b r r' i End stays = (refl, λ at h. h)
row_still b r r' i (More' e n p below q beside) stays =
    let same = stays_same b n n refl in
    row_both b r r' i e e n n p q below below beside beside stays refl (λ l. (l, same, row_still b n n 0 below same)) (row_still b r r' (i + 1) beside stays)

closed_dead : {A : Type 0} (s : EdgeState) → is_live (closed_state s) ≡ true → A
closed_dead Live h = cc
closed_dead Ended h = cc
closed_dead Closed h = cc

row_closed : {M T : Type 0} (b : Machine M T) (r : M) (i : ℕ) (c : Bool) (t : Inputs M) → RowWasClear b r r i t (closed_row_if c t)
row_closed b r i false t = row_still b r r i t (stays_same b r r refl)
row_closed b r i true End = (refl, λ at h. h)
row_closed b r i true (More' e n p below q beside) =
    row_both b r r i e (record e { state = closed_state e.state }) n n p q below (closed_row below) beside (closed_row beside) (stays_same b r r refl) (size_closed below) (closed_dead e.state) (row_closed b r (i + 1) true beside)

row_shut : {M T : Type 0} (b : Machine M T) (r r' : M) (i : ℕ) (c : Bool) (t t' : Inputs M) → RowWasClear b r r' i t t' → RowWasClear b r r' i t (closed_row_if c t')
row_shut b r r' i c t t' h = let k = row_closed b r' i c t' in (k.0 ∙ h.0, λ at x. h.1 at (k.1 at x))

-- ---- a Send in a row

-- where the sender's edge is live after it, an item went over it
sent_under : {M T : Type 0} (b : Machine M T) (e e' : Edge) (n n' : M) (s : Signal T) → edge_view e' ≡ passed (edge_view e) (front_of s) → CountsOut b.counted b.ended b.done n (Some s) n' → is_live e'.state ≡ true → (is_live e.state ≡ true) × StaysSo b n n'
sent_under b e e' n n' (Next x) edge counts live = (sym (ap (λ v. is_live v.state) edge) ∙ live, (λ h. counts.0 ∙ h, counts.2))
sent_under b e e' n n' Complete edge counts live = let dead = ap (λ v. is_live v.state) edge in cc
sent_under b e e' n n' (Error c) edge counts live = let dead = ap (λ v. is_live v.state) edge in cc

row_sent : {M T : Type 0} (b : Machine M T) (m : Meaning T) (r : M) (i asked sent : ℕ) (t : Inputs M) (at : ℕ) (r' : M) (t' : Inputs M) → IsChanged (IsSentOver b m) b.ended r i asked sent t at r' t' → StaysSo b r r' × RowWasClear b r r' i t t'
row_sent b m r i asked sent End at r' t' h = absurd h
row_sent {M} b m r i asked sent (More' e n p below q beside) at r' t' h =
    let R : Inputs M → Type 0 = λ u. RowWasClear b r r' i (More' e n p below q beside) u in
    elim h [
      | inl x ↦
          let stays : StaysSo b r r' = (x.made.counts_in.stays_ended, x.made.counts_in.stays_done) in (
            stays,
            subst R (sym x.new_is) (row_both b r r' i e x.e' n x.n' p q below below beside beside stays refl
                (λ l. let k = sent_under b e x.e' n x.n' x.made.signal x.made.edge x.made.counts_out l in (k.0, k.1, row_still b n x.n' 0 below k.1))
                (row_still b r r' (i + 1) beside stays)),
          )
      | inr y ↦ elim y [
        | inl x ↦
            let stays = stays_same b r r' x.receiver in
            let c = b.ended x.n' && is_own below (at - 1) in
            let k = row_sent b m n 0 e.demand.asked e.demand.sent below (at - 1) x.n' x.mid x.made in
            let under = row_shut b n x.n' 0 c below x.mid k.1 in
            (stays, subst R (sym x.new_is) (row_both b r r' i e e n x.n' p q below (closed_row_if c x.mid) beside beside stays under.0 (λ l. (l, k.0, under)) (row_still b r r' (i + 1) beside stays)))
        | inr x ↦
            let same = stays_same b n n refl in
            let k = row_sent b m r (i + 1) asked sent beside (at - 1 - size below) r' x.beside' x.made in
            (k.0, subst R (sym x.new_is) (row_both b r r' i e e n n p q below below beside x.beside' k.0 refl (λ l. (l, same, row_still b n n 0 below same)) k.1))
      ]
    ]

-- ---- a step in a row

row_stepped : {M T : Type 0} (b : Machine M T) (r r' : M) (i : ℕ) (t : Inputs M) (at : ℕ) (t' : Inputs M) → StaysSo b r r' → IsStepped (StaysOver b) b.ended t at t' → RowWasClear b r r' i t t'
row_stepped b r r' i End at t' stays h = absurd h
row_stepped {M} b r r' i (More' e n p below q beside) at t' stays h =
    let R : Inputs M → Type 0 = λ u. RowWasClear b r r' i (More' e n p below q beside) u in
    let same = stays_same b n n refl in
    let still = row_still b r r' (i + 1) beside stays in
    elim h [
      | inl x ↦
          let c = b.ended x.n' && true in
          let k : StaysSo b n x.n' = (x.made.ended, x.made.done) in
          let under = row_shut b n x.n' 0 c below below (row_still b n x.n' 0 below k) in
          subst R (sym x.new_is) (row_both b r r' i e e n x.n' p q below (closed_row_if c below) beside beside stays under.0 (λ l. (l, k, under)) still)
      | inr y ↦ elim y [
        | inl x ↦ let under = row_stepped b n n 0 below (at - 1) x.below' same x.made in subst R (sym x.new_is) (row_both b r r' i e e n n p q below x.below' beside beside stays under.0 (λ l. (l, same, under)) still)
        | inr x ↦ subst R (sym x.new_is) (row_both b r r' i e e n n p q below below beside x.beside' stays refl (λ l. (l, same, row_still b n n 0 below same)) (row_stepped b r r' (i + 1) beside (at - 1 - size below) x.beside' stays x.made))
      ]
    ]

-- ---- an Ask in a row

abbrev one_if : Bool → ℕ
one_if c = if c then 1 else 0

-- how many edges are live
abbrev live_count : List EdgeView → ℕ
live_count [] = 0
live_count (e ∷ es) = one_if (is_live e.state) + live_count es

count_both : (es fs : List EdgeView) → live_count (es ++ fs) ≡ live_count es + live_count fs
count_both [] fs = omega arith
count_both (e ∷ es) fs = let k = count_both es fs in omega (arith, k)

count_asked : (w at : ℕ) (es : List EdgeView) → live_count (changed_at (asked_up_to w) at es) ≡ live_count es
count_asked w at [] = refl
count_asked w at (e ∷ es) = by_test (nat_eq at 0) (count_asked w (at - 1) es)
  where
    by_test : (c : Bool) → live_count (changed_at (asked_up_to w) (at - 1) es) ≡ live_count es → live_count (if c then asked_up_to w e ∷ es else e ∷ changed_at (asked_up_to w) (at - 1) es) ≡ live_count (e ∷ es)
    by_test true k = refl
    by_test false k = ap (λ c. one_if (is_live e.state) + c) k

live_as_well : (x y : Bool) (k : ℕ) → one_if x + k ≡ one_if y + k → x ≡ true → y ≡ true
live_as_well x true k h e = refl
live_as_well true false k h e = absurd (omega (arith, h))
live_as_well false false k h e = e

row_asked : {M T : Type 0} (b : Machine M T) (r : M) (i at : ℕ) (edge : Edge) (t : Inputs M) → live_count (edges (with_edge_at at edge t)) ≡ live_count (edges t) → RowWasClear b r r i t (with_edge_at at edge t)
row_asked b r i at edge End h = (refl, λ at h. h)
row_asked {M} b r i at edge (More' e n p below q beside) h = by_test (nat_eq at 0) (nat_le at (size below)) h (row_asked b n 0 (at - 1) edge below) (row_asked b r (i + 1) (at - 1 - size below) edge beside)
  where
    under : Inputs M
    under = with_edge_at (at - 1) edge below

    side : Inputs M
    side = with_edge_at (at - 1 - size below) edge beside

    by_test : (z w : Bool) → let new = if z then More' edge n p below q beside else (if w then More' e n p under q beside else More' e n p below q side) in
        live_count (edges new) ≡ live_count (edges (More' e n p below q beside)) → (live_count (edges under) ≡ live_count (edges below) → RowWasClear b n n 0 below under) → (live_count (edges side) ≡ live_count (edges beside) → RowWasClear b r r (i + 1) beside side) →
        RowWasClear b r r i (More' e n p below q beside) new
    by_test true w h f g =
        let same = stays_same b n n refl in
        let stays = stays_same b r r refl in
        row_both b r r i e edge n n p q below below beside beside stays refl (λ l. (live_as_well (is_live edge.state) (is_live e.state) (live_count (edges below ++ edges beside)) h l, same, row_still b n n 0 below same)) (row_still b r r (i + 1) beside stays)
    by_test false true h f g =
        let stays = stays_same b r r refl in
        let x = count_both (edges under) (edges beside) in
        let y = count_both (edges below) (edges beside) in
        let k = f (omega (arith, h, x, y)) in
        row_both b r r i e e n n p q below under beside beside stays k.0 (λ l. (l, stays_same b n n refl, k)) (row_still b r r (i + 1) beside stays)
    by_test false false h f g =
        let same = stays_same b n n refl in
        let x = count_both (edges below) (edges side) in
        let y = count_both (edges below) (edges beside) in
        row_both b r r i e e n n p q below below beside side (stays_same b r r refl) refl (λ l. (l, same, row_still b n n 0 below same)) (g (omega (arith, h, x, y)))

-- ---- a signal of a hub in a row

row_handed : {M T : Type 0} (b : Machine M T) (h : ℕ) (s : Signal T) (r r' : M) (i : ℕ) (t t' : Inputs M) → StaysSo b r r' → IsRowHanded b h s t t' → RowWasClear b r r' i t t'
row_handed {M} b h s r r' i End t' stays k = let R : Inputs M → Type 0 = λ u. RowWasClear b r r' i End u in subst R (sym k) (refl, λ at h. h)
row_handed {M} {T} b h s r r' i (More' e n p below q beside) t' stays k =
    let R : Inputs M → Type 0 = λ u. RowWasClear b r r' i (More' e n p below q beside) u in
    let u = by_live (λ n' x y. row_handed b h s n n' 0 below k.1 x y) (is_live e.state) k.4 in
    subst R (sym k.3) (row_both b r r' i e e n k.0 p q below k.1 beside k.2 stays u.1.0 (λ l. (l, u.0, u.1)) (row_handed b h s r r' (i + 1) beside k.2 stays k.5))
  where
    by_live : ((n' : M) → StaysSo b n n' → IsRowHanded b h s below k.1 → RowWasClear b n n' 0 below k.1) → (l : Bool) → OneOf l (IsNodeHanded b h s n k.0 × IsRowHanded b h s below k.1) ((k.0 ≡ n) × (k.1 ≡ below)) → StaysSo b n k.0 × RowWasClear b n k.0 0 below k.1
    by_live rec true o =
        let c = (node_stays b s (reads_hub h (b.reads n)) n k.0 o.0).counts in
        let x : StaysSo b n k.0 = (c.stays_ended, c.stays_done) in
        (x, rec k.0 x o.1)
    by_live rec false o =
        let x = stays_same b n k.0 o.0 in
        let R : Inputs M → Type 0 = λ u. RowWasClear b n k.0 0 below u in
        (x, subst R (sym o.1) (row_still b n k.0 0 below x))

-- ---- a tree

tree_clear : {M T : Type 0} (b : Machine M T) (old new : Node M) (t : Inputs M) → new.inputs ≡ t → StaysSo b old.machine new.machine → RowWasClear b old.machine new.machine 0 old.inputs t → WasClear b old new
tree_clear b old new t is stays row at =
    chosen_still (nat_eq at 0) false false true true true true _ _ refl (λ h. h) (λ h. h)
    (and_still _ _ _ _ (still_not (b.ended old.machine) (b.ended new.machine) stays.0) (λ f h. row.1 (at - 1) (ap (λ u. is_row_clear b new.machine 0 u (at - 1)) (sym is) ∙ h)))

pub clear_still : {M T : Type 0} (b : Machine M T) (t : Node M) → WasClear b t t
clear_still b t at h = h

pub clear_then : {M T : Type 0} (b : Machine M T) (x y z : Node M) → WasClear b x y → WasClear b y z → WasClear b x z
clear_then b x y z h k at c = h at (k at c)

pub sent_clear : {M T : Type 0} (b : Machine M T) (m : Meaning T) (old : Node M) (at : ℕ) (new : Node M) → IsSentAt b m old at new → WasClear b old new
sent_clear b m old at new k =
    let c = b.ended new.machine && is_own old.inputs at in
    let row = row_sent b m old.machine 0 0 0 old.inputs at new.machine k.mid k.step in
    tree_clear b old new (closed_row_if c k.mid) k.shut row.0 (row_shut b old.machine new.machine 0 c old.inputs k.mid row.1)

pub stepped_clear : {M T : Type 0} (b : Machine M T) (old : Node M) (e : EdgeView) (at : ℕ) (new : Node M) → IsSteppedAt (StaysOver b) b.ended old e at new → WasClear b old new
stepped_clear b old e zero new k =
    let c = b.ended new.machine && true in
    let stays : StaysSo b old.machine new.machine = (k.made.ended, k.made.done) in
    tree_clear b old new (closed_row_if c old.inputs) k.inputs stays (row_shut b old.machine new.machine 0 c old.inputs old.inputs (row_still b old.machine new.machine 0 old.inputs stays))
stepped_clear b old e (suc at) new k =
    let stays = stays_same b old.machine new.machine k.machine in
    tree_clear b old new new.inputs refl stays (row_stepped b old.machine new.machine 0 old.inputs at new.inputs stays k.made)

pub handed_clear : {M T : Type 0} (b : Machine M T) (h : ℕ) (s : Signal T) (old new : Node M) → IsHanded b h s old new → WasClear b old new
handed_clear b h s old new k =
    let c = (node_stays b s (reads_hub h (b.reads old.machine)) old.machine new.machine k.root).counts in
    let stays : StaysSo b old.machine new.machine = (c.stays_ended, c.stays_done) in
    tree_clear b old new new.inputs refl stays (row_handed b h s old.machine new.machine 0 old.inputs new.inputs stays k.below)

pub item_clear : {M T : Type 0} (b : Machine M T) (m : Meaning T) (old : Node M) (s : Signal T) (new : Node M) (x : T) → IsLetGo b m old s new → s ≡ Next x → WasClear b old new
item_clear {M} {T} b m old s new x k is =
    let C : Signal T → Type 0 = λ s. CountsOut b.counted b.ended b.done old.machine (Some s) new.machine in
    let c = subst C is k.counts in
    let stays : StaysSo b old.machine new.machine = (λ h. c.0 ∙ h, c.2) in
    tree_clear b old new old.inputs (sym k.popped.1) stays (row_still b old.machine new.machine 0 old.inputs stays)

-- ---- a move inside a part

ask_clear : {M T : Type 0} (b : Machine M T) (old : Part M) (at : ℕ) (new : Part M) → IsAsk b old at new → WasClear b old.tree new.tree
ask_clear {M} b old at new k =
    let W : Node M → Type 0 = λ t. WasClear b old.tree t in
    let all : live_count (all_edges new) ≡ live_count (all_edges old) = ap live_count k.edges ∙ count_asked (wanted b old at) at (all_edges old) in
    let root = ap (λ e. one_if (is_live e.state)) k.root in
    let below : live_count (edges new.tree.inputs) ≡ live_count (edges old.tree.inputs) = omega (arith, all, root) in
    let stays = stays_same b old.tree.machine old.tree.machine refl in
    let row = row_asked b old.tree.machine 0 (at - 1) k.edge old.tree.inputs (ap (λ t. live_count (edges t.inputs)) (sym k.tree) ∙ below) in
    subst W (sym k.tree) (tree_clear b old.tree (with_edge (at - 1) k.edge old.tree) (with_edge_at (at - 1) k.edge old.tree.inputs) refl stays row)

-- a move by which nothing goes over the root edge
pub effect_clear : {M T : Type 0} (b : Machine M T) (m : Meaning T) (move : NodeMove) (old new : Part M) → IsEffect b m move old [] new → WasClear b old.tree new.tree
effect_clear b m (Ask n) old new k = ask_clear b old n new k.1
effect_clear b m (Send n) old new k = by_test (nat_eq n 0) k.tree
  where
    by_test : (c : Bool) → IsTreeSent b m old n c [] new → WasClear b old.tree new.tree
    by_test true x = let no = x.1 in cc
    by_test false x = sent_clear b m old.tree (n - 1) new.tree x.0
effect_clear b m (Pick n input) old new k = stepped_clear b old.tree (edge_view old.root) n new.tree k.1.tree.over
effect_clear b m (Row n) old new k = stepped_clear b old.tree (edge_view old.root) n new.tree k.1.tree.over

-- so many moves inside the part
pub worked_clear : {M T : Type 0} (b : Machine M T) (m : Meaning T) (n : ℕ) (old new : Part M) → IsWorked b m n old new → WasClear b old.tree new.tree
worked_clear {M} {T} b m n old new k = leads_keep (IsMovedOver b no_room m) (λ (y : Part M × Unit {0}). WasClear b old.tree y.0.tree) on (old, tt) (new, tt) k.moves.labels k.moves.run (λ at c. c)
  where
    on : (y z : Part M × Unit {0}) (out : List (Signal T)) → IsMovedOver b no_room m y out z → WasClear b old.tree y.0.tree → WasClear b old.tree z.0.tree
    on y z out w h = clear_then b old.tree y.0.tree z.0.tree h (effect_clear b m w.move y.0 z.0 (subst (λ o. IsEffect b m w.move y.0 o z.0) (sym w.queued) w.effect))

-- ---- both at once

row_clear : {M T : Type 0} (b : Machine M T) (r : M) (i : ℕ) (t : Inputs M) (at : ℕ) → is_row_open b r i t at ≡ true → is_row_live t at ≡ true → is_row_clear b r i t at ≡ true
row_clear b r i End at = λ o l. o
row_clear b r i (More' e n p below q beside) at =
    chosen_both (nat_eq at 0) (nat_le at (size below)) _ _ _ _ _ _ _ _ _
    (λ o l. both (is_live e.state) (not (b.done r i)) l o)
    (λ o l.
    let f = and_parts (not (b.done r i)) _ o in
    let g = and_parts (not (b.ended n)) _ f.1 in
    let j = and_parts (is_live e.state) _ l in
    both _ _ (both (is_live e.state) (not (b.done r i)) j.0 f.0) (both (not (b.ended n)) _ g.0 (row_clear b n 0 below (at - 1) g.1 j.1)))
    (row_clear b r (i + 1) beside (at - 1 - size below))

row_open : {M T : Type 0} (b : Machine M T) (r : M) (i : ℕ) (t : Inputs M) (at : ℕ) → is_row_clear b r i t at ≡ true → is_row_open b r i t at ≡ true
row_open b r i End at = λ h. h
row_open b r i (More' e n p below q beside) at =
    let w = nat_le at (size below) in
    chosen_still (nat_eq at 0) w w _ _ _ _ _ _ refl
    (λ h. (and_parts (is_live e.state) (not (b.done r i)) h).1)
    (and_still _ _ _ _ (λ h. (and_parts (is_live e.state) (not (b.done r i)) h).1) (λ a. and_still _ _ _ _ (λ h. h) (λ f. row_open b n 0 below (at - 1))))
    (row_open b r (i + 1) beside (at - 1 - size below))

pub clear_both : {M T : Type 0} (b : Machine M T) (part : Part M) (at : ℕ) → is_open_over b part at ≡ true → is_live_over part at ≡ true → is_clear b part.tree at ≡ true
clear_both b part at o l =
    chosen_both (nat_eq at 0) false true true true true true true _ _ _ (λ x y. x) (λ x y. x)
    (λ x y. let k = and_parts (not (b.ended part.tree.machine)) _ x in both (not (b.ended part.tree.machine)) _ k.0 (row_clear b part.tree.machine 0 part.tree.inputs (at - 1) k.1 y))
    o
    (and_parts (is_live part.root.state) _ l).1

pub clear_open : {M T : Type 0} (b : Machine M T) (part : Part M) (at : ℕ) → is_clear b part.tree at ≡ true → is_open_over b part at ≡ true
clear_open b part at = chosen_still (nat_eq at 0) false false true true true true _ _ refl (λ h. h) (λ h. h) (and_still _ _ _ _ (λ h. h) (λ f. row_open b part.tree.machine 0 part.tree.inputs (at - 1)))
