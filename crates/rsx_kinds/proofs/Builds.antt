-- A tree that was built over the trees of its inputs.
use Rattle.std.proofs.Common.{◌≡◌, inr, ℕ, zero, suc, ◌+◌, ◌<◌, List, [], ◌∷◌, length, arith, refl, ap, sym, ◌∙◌, subst, Option, Some, None, option_map, option_and_then, slice_get, Result, Ok, Err, Vec, Global}
use Rattle.std.specs.Prelude.{ℤ, IfOk}
use Rattle.rsx_sources.specs.Prelude.{Meaning, listed, range_items, NoMemory, Stream, Note, Nothing, Picks, Ended, HubId, Ending, Open, Done, Failed, Incoming, incoming_of, quiet as quiet_at, GivesItems, ItemsLeft, GivesRange, Reading, published_at}
use Rattle.rsx_kinds.specs.Prelude.{AllUnrecorded, AreBegun, BeginsWith, Direct, Edge, End, Expr, HasTakenIn, HubState, Inputs, IsBuilt, LeafState, Live, Node, RangeNode, Source, SourceNode, StandAt, TreeNode, any_machine, counts_of, first_fault, first_wants, fold_out-Expr, fresh_edge, fresh_edges, fresh_wants, join, join_at, joins_now, leaf_reads, member_of, new_joins, outs-Hub, outs-Items, outs-Range, reading_of, source_counted}
use Rattle.rsx_hub.specs.Member.{MemberState, ReadsFromJoin, ending_taken, fresh_member, rest, without}
use Rattle.rsx_model.specs.Eval.{environment_until_stop, quiet, meant, joined_value, behind as missing}
use Rattle.rsx_model.specs.declared.expr.Expr.TheVariants.{Items as ItemsOf, Range as RangeOf, Hub as HubOf}
use Rattle.rsx_model.proofs.Unfold.{value_Items, value_Range, value_Hub, hub_there}
use Rattle.rsx_tree.specs.Prelude.{IsOwnerBalanced, IsRowBalanced, sent_over, edge_view, comes_in, out_of, notes_of, edges as edges_in, IsReadAt, IsTreeReadAt, count_before}
use Rattle.rsx_kinds.specs.declared.source_node.SourceNode.TheVariants.{Items, Range, Hub}
use Rattle.rsx_rooted.proofs.Joined.{join_there}
use Rattle.rsx_kinds.proofs.Wants.{wants_Hub, wants_Items, wants_Range}
use Rattle.rsx_sources.proofs.Incomings.{hubs_in}

-- what comes out of a fresh node is its operator of what comes in
pub fresh_out : {T : Type 0} (m : Meaning T) (hubs : List (Stream T)) (n : TreeNode T) (f : List (Stream T) → Stream T) → ((vs : List (Stream T)) (k : Note) → any_machine.comes_out m n (incoming_of hubs vs) k ≡ quiet_at k (f vs)) →
    (o : Option (List (Stream T))) (k : Option Note) → out_of any_machine m hubs n o k ≡ quiet k (option_map f o)
fresh_out m hubs n f h o None = refl
fresh_out m hubs n f h None (Some Nothing) = refl
fresh_out m hubs n f h None (Some (Picks cs)) = refl
fresh_out m hubs n f h None (Some (Ended i)) = refl
fresh_out m hubs n f h (Some vs) (Some Nothing) = h vs Nothing
fresh_out m hubs n f h (Some vs) (Some (Picks cs)) = h vs (Picks cs)
fresh_out m hubs n f h (Some vs) (Some (Ended i)) = h vs (Ended i)

-- ---- a source

abbrev pub node_of : {T : Type 0} → TreeNode T → Inputs (TreeNode T) → Node (TreeNode T)
node_of n r = record { machine = n; inputs = r }

-- a source alone, whose value is that of the expression
pub built_source : {T : Type 0} (m : Meaning T) (hubs : List (HubState T)) (e : Expr T) (n : SourceNode T) (t : Node (TreeNode T)) → t.machine ≡ Direct (Source n) → t.inputs ≡ End → source_counted n [] 0 →
    ((whole : List (Stream T)) (joins : List ℕ) (leaf : ℕ) → AreBegun hubs whole → StandAt joins leaf (new_joins hubs e) → (v : Stream T) × ((inc : Incoming T) (k : Note) → inc.hubs ≡ whole → any_machine.comes_out m (Direct (Source n)) inc k ≡ quiet_at k v)
    × ((further : List Note) (at : ℕ) → (meant (environment_until_stop m whole joins further) e).value at leaf ≡ quiet (slice_get further at) (Some v))) →
    IsReadAt (counts_of hubs) (any_machine.reads (Direct (Source n))) → (new_joins hubs e ≡ [] → IsReadAt [] (any_machine.reads (Direct (Source n)))) → fresh_edges e ≡ [] → fresh_wants e ≡ [] → IsBuilt m hubs e t
built_source {T} m hubs e n t n_is r_is counts values read unread none nothing = record {
  value = λ whole joins further at leaf begun stand.
      let v = values whole joins leaf begun stand in
      ap (λ x. out_of any_machine m whole x (comes_in any_machine m whole further t.inputs (at + 1)) (slice_get further at)) n_is
      ∙ (ap (λ r. out_of any_machine m whole (Direct (Source n)) (comes_in any_machine m whole further r (at + 1)) (slice_get further at)) r_is
      ∙ (fresh_out m whole (Direct (Source n)) (λ vs. v.0) (λ vs k. v.1 (incoming_of whole vs) k (hubs_in whole vs)) (Some []) (slice_get further at)
      ∙ sym (v.2 further at)));
  reads =
      let R : TreeNode T → Inputs (TreeNode T) → Type 0 = λ x r. IsTreeReadAt any_machine (counts_of hubs) (node_of x r) in
      let N : TreeNode T → Type 0 = λ x. R x t.inputs in
      let I : Inputs (TreeNode T) → Type 0 = λ r. R (Direct (Source n)) r in
      subst N (sym n_is) (subst I (sym r_is) (read, tt));
  alone = λ bare.
      let R : TreeNode T → Inputs (TreeNode T) → Type 0 = λ x r. IsTreeReadAt any_machine [] (node_of x r) in
      let N : TreeNode T → Type 0 = λ x. R x t.inputs in
      let I : Inputs (TreeNode T) → Type 0 = λ r. R (Direct (Source n)) r in
      subst N (sym n_is) (subst I (sym r_is) (unread bare, tt));
  notes =
      let N : TreeNode T → Type 0 = λ x. AllUnrecorded (any_machine.recorded x ∷ notes_of any_machine t.inputs) in
      let P : Inputs (TreeNode T) → Type 0 = λ r. AllUnrecorded (Nothing ∷ notes_of any_machine r) in
      subst N (sym n_is) (subst P (sym r_is) ((λ k. refl), tt));
  edges = ap edges_in r_is ∙ sym none;
  wants = ap (first_wants any_machine t.machine 0) r_is ∙ sym nothing;
  balance =
      let R : Inputs (TreeNode T) → Type 0 = λ r. IsOwnerBalanced any_machine t.machine (sent_over r) 0 (IsRowBalanced any_machine t.machine 0 r) in
      let N : TreeNode T → Type 0 = λ x. IsOwnerBalanced any_machine x [] 0 (Unit {0}) in
      subst R (sym r_is) (subst N (sym n_is) (inr (refl, counts, tt)));
}

-- ---- items

fresh_Items : {T : Type 0} (v : Vec T Global) → fresh_edges (ItemsOf v) ≡ []
fresh_Items {T} v = rw (fold_out-Expr, outs-Items) refl

built_items : {T : Type 0} (m : Meaning T) (hubs : List (HubState T)) (e : Expr T) (v : Vec T Global) (items : List T) (n : ItemsLeft T) (t : Node (TreeNode T)) → e ≡ ItemsOf v → items ≡ v.items → GivesItems n items → t.machine ≡ Direct (Source (Items n)) → t.inputs ≡ End → IsBuilt m hubs e t
built_items {T} m hubs e v items n t is all fresh n_is r_is =
    let P : Expr T → Type 0 = λ x. IsBuilt m hubs x t in
    subst P (sym is) (built_source m hubs (ItemsOf v) (Items n) t n_is r_is tt
    (λ whole joins leaf begun stand. (listed v.items, (λ inc k same. fresh m inc k ∙ ap (λ l. quiet_at k (listed l)) all), (λ further at. value_Items (environment_until_stop m whole joins further) v at leaf)))
    tt (λ bare. tt) (fresh_Items v) (wants_Items v))

-- the same of a tree that was made unless memory ran out
pub items_made : {T : Type 0} (m : Meaning T) (v : Vec T Global) (items : List T) (n : ItemsLeft T) (r : Result (Node (TreeNode T)) NoMemory) → items ≡ v.items → GivesItems n items →
    IfOk r (λ t. t.machine ≡ Direct (Source (Items n))) → IfOk r (λ t. t.inputs ≡ End) → IfOk r (λ t. (hubs : List (HubState T)) → IsBuilt m hubs (ItemsOf v) t)
items_made m v items n (Ok t) all fresh n_is r_is = λ hubs. built_items m hubs (ItemsOf v) v items n t refl all fresh n_is r_is
items_made m v items n (Err x) all fresh n_is r_is = tt

-- ---- a range

fresh_Range : (T : Type 0) (a : ℤ) (k : ℕ) → fresh_edges {T = T} (RangeOf a k) ≡ []
fresh_Range T a k = rw (fold_out-Expr, outs-Range) refl

built_range : {T : Type 0} (m : Meaning T) (hubs : List (HubState T)) (e : Expr T) (a : ℤ) (k : ℕ) (n : RangeNode T) (t : Node (TreeNode T)) → e ≡ RangeOf a k → GivesRange n a k → t.machine ≡ Direct (Source (Range n)) → t.inputs ≡ End → IsBuilt m hubs e t
built_range {T} m hubs e a k n t is fresh n_is r_is =
    let P : Expr T → Type 0 = λ x. IsBuilt m hubs x t in
    subst P (sym is) (built_source m hubs (RangeOf a k) (Range n) t n_is r_is tt
    (λ whole joins leaf begun stand. (listed (range_items m a k), (λ inc d same. fresh m inc d), (λ further at. value_Range (environment_until_stop m whole joins further) a k at leaf)))
    tt (λ bare. tt) (fresh_Range T a k) (wants_Range T a k))

-- the same of a tree that was made unless memory ran out
pub range_if : {T : Type 0} (m : Meaning T) (hubs : List (HubState T)) (e : Expr T) (a : ℤ) (k : ℕ) (n : RangeNode T) (r : Result (Node (TreeNode T)) NoMemory) → e ≡ RangeOf a k → GivesRange n a k →
    IfOk r (λ t. t.machine ≡ Direct (Source (Range n))) → IfOk r (λ t. t.inputs ≡ End) → IfOk r (λ t. IsBuilt m hubs e t)
range_if m hubs e a k n (Ok t) is fresh n_is r_is = built_range m hubs e a k n t is fresh n_is r_is
range_if m hubs e a k n (Err x) is fresh n_is r_is = tt

-- ---- a leaf that reads a hub

hub_at : {T : Type 0} (hubs : List (HubState T)) (whole : List (Stream T)) (i : ℕ) (h : HubState T) → slice_get hubs i ≡ Some h → AreBegun hubs whole →
    (w : Stream T) × (taken : List T) × (slice_get whole i ≡ Some w) × (published_at whole i ≡ w) × HasTakenIn h taken × BeginsWith h taken w
hub_at [] ws i h e b = cc
hub_at (g ∷ gs) [] i h e b = absurd b
hub_at {T} (g ∷ gs) (w ∷ ws) zero h e b =
    let same : g ≡ h = cc in
    let P : HubState T → Type 0 = λ k. HasTakenIn k b.0.0 × BeginsWith k b.0.0 w in
    let both = subst P same (b.0.1, b.0.2) in
    (w, b.0.0, refl, refl, both.0, both.1)
hub_at (g ∷ gs) (w ∷ ws) (suc i) h e b = hub_at gs ws i h e b.1

count_there : {T : Type 0} (hubs : List (HubState T)) (i : ℕ) (h : HubState T) → slice_get hubs i ≡ Some h → slice_get (counts_of hubs) i ≡ Some (count_before (ending_taken h.has_ended h.ending) h.count)
count_there [] i h e = cc
count_there (g ∷ gs) zero h e = let same : g ≡ h = cc in ap (λ k. Some (count_before (ending_taken k.has_ended k.ending) k.count)) same
count_there (g ∷ gs) (suc i) h e = count_there gs i h e

read_at : (counts : List (Option ℕ)) (e : Ending) (r : Reading) → slice_get counts r.hub ≡ Some (count_before e r.reached) → IsReadAt counts (reading_of e r)
read_at counts Open r h = h
read_at counts Done r h = tt
read_at counts (Failed c) r h = tt

pub new_joins_Hub : (T : Type 0) (hubs : List (HubState T)) (h : HubId) → new_joins hubs (HubOf h) ≡ join_at (joins_now hubs) h.0 ∷ []
new_joins_Hub T hubs h = rw (fold_out-Expr, outs-Hub) refl

some_join : {A : Type 0} {a : A} {as' : List A} → a ∷ as' ≡ [] → ⊥
some_join e = cc

fresh_Hub : (T : Type 0) (h : HubId) → fresh_edges {T = T} (HubOf h) ≡ []
fresh_Hub T h = rw (fold_out-Expr, outs-Hub) refl

-- nothing was sent by a leaf yet, and it holds what it began with
leaf_begins : {T : Type 0} (n : LeafState T) (mem : MemberState T) → member_of n ≡ mem → n.missed ≡ mem.reached → n.before ≡ length mem.queue → source_counted (Hub n) [] 0
leaf_begins n mem is missed before =
    let reached : n.reached ≡ mem.reached = ap (λ k. k.reached) is in
    let holds : length n.queue ≡ length mem.queue = ap (λ k. length k.queue) is in
    omega (arith, missed, before, reached, holds)

built_hub : {T : Type 0} (m : Meaning T) (hubs : List (HubState T)) (e : Expr T) (id : HubId) (h : HubState T) (mem : MemberState T) (n : LeafState T) (t : Node (TreeNode T)) → e ≡ HubOf id → slice_get hubs id.0 ≡ Some h → mem ≡ fresh_member h → ReadsFromJoin h mem →
    n.hub ≡ id.0 → member_of n ≡ mem → n.missed ≡ mem.reached → n.before ≡ length mem.queue → t.machine ≡ Direct (Source (Hub n)) → t.inputs ≡ End → IsBuilt m hubs e t
built_hub {T} m hubs e id h mem n t is there fresh from hub_is mem_is missed before n_is r_is =
    let P : Expr T → Type 0 = λ x. IsBuilt m hubs x t in
    subst P (sym is) (built_source m hubs (HubOf id) (Hub n) t n_is r_is (leaf_begins n mem mem_is missed before) values read (λ bare. absurd (some_join (sym (new_joins_Hub T hubs id) ∙ bare))) (fresh_Hub T id) (wants_Hub T id))
  where
    values : (whole : List (Stream T)) (joins : List ℕ) (leaf : ℕ) → AreBegun hubs whole → StandAt joins leaf (new_joins hubs (HubOf id)) → (v : Stream T) × ((inc : Incoming T) (k : Note) → inc.hubs ≡ whole → any_machine.comes_out m (Direct (Source (Hub n))) inc k ≡ quiet_at k v)
        × ((further : List Note) (at : ℕ) → (meant (environment_until_stop m whole joins further) (HubOf id)).value at leaf ≡ quiet (slice_get further at) (Some v))
    values whole joins leaf begun stand =
        let w = hub_at hubs whole id.0 h there begun in
        let S : List ℕ → Type 0 = λ l. StandAt joins leaf l in
        let joined : slice_get joins leaf ≡ Some (join h.kind h.count) = (subst S (new_joins_Hub T hubs id) stand).0 ∙ ap Some (join_there hubs id.0 h there) in
        let J : ℕ → Option (Stream T) = λ j. option_map (missing j) (slice_get whole id.0) in
        let value : joined_value (environment_until_stop m whole joins []) id.0 leaf ≡ Some (without (join h.kind h.count) w.0) = ap (option_and_then J) joined ∙ ap (option_map (missing (join h.kind h.count))) w.2 in
        let comes : rest (member_of n) (published_at whole n.hub) ≡ without (join h.kind h.count) w.0
        = ap (λ k. rest k (published_at whole n.hub)) mem_is ∙ (ap (λ i. rest mem (published_at whole i)) hub_is ∙ (ap (rest mem) w.3 ∙ from w.1 w.4 w.0 w.5)) in (
          without (join h.kind h.count) w.0,
          (λ inc k same. ap (λ l. quiet_at k (rest (member_of n) (published_at l n.hub))) same ∙ ap (quiet_at k) comes),
          (λ further at. value_Hub (environment_until_stop m whole joins further) id at leaf ∙ ap (quiet (slice_get further at)) value),
        )

    read : IsReadAt (counts_of hubs) (leaf_reads n)
    read =
        let reached : n.reached ≡ h.count = ap (λ k. k.reached) (mem_is ∙ fresh) in
        let ending : n.ending ≡ ending_taken h.has_ended h.ending = ap (λ k. k.ending) (mem_is ∙ fresh) in
        read_at (counts_of hubs) n.ending (record { hub = n.hub; reached = n.reached; missed = n.missed; before = n.before })
        (ap (slice_get (counts_of hubs)) hub_is ∙ (count_there hubs id.0 h there ∙ (ap (λ k. Some (count_before (ending_taken h.has_ended h.ending) k)) (sym reached) ∙ ap (λ e. Some (count_before e n.reached)) (sym ending))))

-- the same of a tree that was made unless memory ran out
pub hub_made : {T : Type 0} (m : Meaning T) (hubs : List (HubState T)) (id : HubId) (h : HubState T) (mem : MemberState T) (n : LeafState T) (r : Result (Node (TreeNode T)) NoMemory) → slice_get hubs id.0 ≡ Some h → mem ≡ fresh_member h → ReadsFromJoin h mem →
    n.hub ≡ id.0 → member_of n ≡ mem → n.missed ≡ mem.reached → n.before ≡ length mem.queue → IfOk r (λ t. t.machine ≡ Direct (Source (Hub n))) → IfOk r (λ t. t.inputs ≡ End) → IfOk r (λ t. IsBuilt m hubs (HubOf id) t)
hub_made m hubs id h mem n (Ok t) there fresh from hub_is mem_is missed before n_is r_is = built_hub m hubs (HubOf id) id h mem n t refl there fresh from hub_is mem_is missed before n_is r_is
hub_made m hubs id h mem n (Err x) there fresh from hub_is mem_is missed before n_is r_is = tt

-- ---- a fresh edge

pub fresh_edge_is : (e : Edge) → e.demand.asked ≡ 0 → e.demand.sent ≡ 0 → e.state ≡ Live → edge_view e ≡ fresh_edge
fresh_edge_is e a s l =
    ap (λ x. record { asked = x; sent = e.demand.sent; state = e.state }) a
    ∙ (ap (λ x. record { asked = 0; sent = x; state = e.state }) s ∙ ap (λ x. record { asked = 0; sent = 0; state = x }) l)

-- ---- trees that were made unless memory ran out

pub items_if : {T E : Type 0} (m : Meaning T) (hubs : List (HubState T)) (e : Expr T) (v : Vec T Global) (r : Result (Node (TreeNode T)) E) → e ≡ ItemsOf v → IfOk r (λ t. (hs : List (HubState T)) → IsBuilt m hs (ItemsOf v) t) → IfOk r (λ t. IsBuilt m hubs e t)
items_if {T} m hubs e v (Ok t) is o = let P : Expr T → Type 0 = λ x. IsBuilt m hubs x t in subst P (sym is) (o hubs)
items_if m hubs e v (Err x) is o = tt

pub leaf_if : {T E : Type 0} (m : Meaning T) (hubs : List (HubState T)) (e : Expr T) (id : HubId) (r : Result (Node (TreeNode T)) E) → e ≡ HubOf id → IfOk r (λ t. IsBuilt m hubs (HubOf id) t) → IfOk r (λ t. IsBuilt m hubs e t)
leaf_if {T} m hubs e id (Ok t) is o = let P : Expr T → Type 0 = λ x. IsBuilt m hubs x t in subst P (sym is) o
leaf_if m hubs e id (Err x) is o = tt

-- there is the hub that a leaf reads where nothing is wrong with the expression
pub hub_read : {T : Type 0} (hubs : ℕ) (e : Expr T) (id : HubId) → e ≡ HubOf id → first_fault hubs e ≡ None → id.0 < hubs
hub_read {T} hubs e id is h = hub_there T hubs id (ap (first_fault hubs) (sym is) ∙ h)
