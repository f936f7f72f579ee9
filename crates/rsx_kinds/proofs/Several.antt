-- The tree of a node of several inputs over those of its inputs.
use Rattle.std.proofs.Common.{◌≡◌, inr, ℕ, zero, suc, ◌+◌, ◌*◌, ◌<◌, ◌≤◌, false, List, [], ◌∷◌, length, map, refl, ap, sym, ◌∙◌, subst, arith, Option, Some, None, option_map, option_and_then, slice_get, Result, Ok, Err, Vec, Global}
use Rattle.std.specs.Prelude.{IfOk}
use Rattle.std.proofs.Math.ListN.{replicate}
use Rattle.rsx_sources.specs.Prelude.{Meaning, Stream, Note, Nothing, Picks, Ended, incoming_of}
use Rattle.rsx_values.specs.Prelude.{concat, merge, merge_delay, latest_until_stop, zip}
use Rattle.rsx_queued.specs.Values.{first_values}
use Rattle.rsx_kinds.specs.Prelude.{AreBuilt, Direct, Expr, GivesKind, HubState, Inputs, IsBuilt, IsBuiltOver, IsUnrecorded, IsWithin, MOST_INPUTS, MOST_PREFETCH, Meant, Node, Several, SeveralKind, SeveralNode, StandAt, TreeNode, any_machine, ended_by_record, environment_until_stop, first_fault, first_of, first_wanted, fresh_beside, fresh_edges, fresh_wants, in_order, inputs_fit, joined, meant, new_joins, new_joins_of, nodes, out_of, prefetch_fits, queued_fault, recorded_first, several_counted, several_ended, several_recorded, several_wanted, sum_of, unless, wants_beside}
use Rattle.rsx_model.specs.declared.expr.Expr.TheViews.{Concat as ConcatOf, Merge as MergeOf, MergeDelay as MergeDelayOf, Zip as ZipOf, Latest as LatestOf, outs-Concat, outs-Merge, outs-MergeDelay, outs-Zip, outs-Latest}
use Rattle.rsx_model.specs.declared.check.BadExpr.TheVariants.{Inputs as TooManyInputs, Number}
use Rattle.rsx_model.proofs.Unfold.{fault_Concat, fault_Merge, fault_MergeDelay, fault_Zip, fault_Latest, nodes_Concat, nodes_Merge, nodes_MergeDelay, nodes_Zip, nodes_Latest, or_none, value_Concat, value_Merge, value_MergeDelay, value_Zip, value_Latest}
use Rattle.rsx_prefetch.specs.declared.TheConstants.{LARGEST}
use Rattle.std.proofs.lemmas.Bool.Decides.{nat_tests}
use Rattle.std.proofs.lemmas.List.{length-map}
use Rattle.rsx_kinds.specs.declared.kind.SeveralKind.TheVariants.{Concat, Merge, MergeDelay, Zip, Latest}
use Rattle.rsx_tree.proofs.Rows.{then_same}
use Rattle.rsx_kinds.proofs.NodeValues.{picked_value, quiet_value}
use Rattle.rsx_rooted.proofs.Rows.{fresh_edges_out, leaf_joins_out}
use Rattle.rsx_kinds.proofs.Builds.{node_of}
use Rattle.rsx_kinds.proofs.Wants.{fresh_wants_out, several_wants}

-- ---- what comes out of the node

all_values : {T : Type 0} (n : ℕ) (vs : List (Stream T)) → length vs ≡ n → first_values n vs ≡ vs
all_values zero [] e = refl
all_values zero (v ∷ vs) e = absurd (omega arith)
all_values (suc n) [] e = absurd (omega arith)
all_values (suc n) (v ∷ vs) e = ap (λ l. v ∷ l) (all_values n vs (omega arith))

-- so many values come in, of which there is one at least
incoming_row : {T : Type 0} (hubs : List (Stream T)) (n : ℕ) (vs : List (Stream T)) → 1 ≤ n → length vs ≡ n → first_values n ((incoming_of hubs vs).first ∷ (incoming_of hubs vs).others) ≡ vs
incoming_row hubs n [] some e = absurd (omega arith)
incoming_row hubs n (v ∷ vs) some e = all_values n (v ∷ vs) e

one_more_value : {T : Type 0} (o : Option (Stream T)) (p : Option (List (Stream T))) (k : ℕ) → ((ss : List (Stream T)) → p ≡ Some ss → length ss ≡ k) → (ws : List (Stream T)) → option_and_then (λ s. option_map (λ ss. s ∷ ss) p) o ≡ Some ws → length ws ≡ suc k
one_more_value None p k h ws e = cc
one_more_value (Some s) None k h ws e = cc
one_more_value (Some s) (Some ss) k h [] e = cc
one_more_value (Some s) (Some ss) k h (w ∷ ws) e =
    let same : ss ≡ ws = cc in
    let count = h ss refl in
    let lengths = ap length same in
    omega arith

-- where the values of some subtrees are known, there is one for each
there_are : {T : Type 0} (ms : List (Meant T)) (at leaf : ℕ) (vs : List (Stream T)) → in_order ms at leaf ≡ Some vs → length vs ≡ length ms
there_are [] at leaf [] e = refl
there_are [] at leaf (v ∷ vs) e = cc
there_are (m ∷ ms) at leaf vs e =
    one_more_value (m.value at leaf) (in_order ms (at + m.nodes) (leaf + m.leaves)) (length ms) (λ ss h. there_are ms (at + m.nodes) (leaf + m.leaves) ss h) vs e

-- what comes out of a node at which nothing came in is its operator of what comes in
out_several : {T : Type 0} (m : Meaning T) (hubs : List (Stream T)) (n : SeveralNode T) (kind : SeveralKind) (count : ℕ) → GivesKind n kind count → 1 ≤ count →
    (o : Option (List (Stream T))) → ((vs : List (Stream T)) → o ≡ Some vs → length vs ≡ count) → (note : Option Note) → out_of any_machine m hubs (Direct (Several n)) o note ≡ option_and_then (λ k. option_and_then (joined m kind k) o) note
out_several m hubs n kind count fresh some None lengths note = then_same _ _ (λ k. refl) note
out_several m hubs n kind count fresh some (Some vs) lengths note =
    then_same _ _ (λ k. fresh m (incoming_of hubs vs) k ∙ ap (joined m kind k) (incoming_row hubs count vs some (lengths vs refl))) note

-- ---- the tree

unrecorded_first : (kind : SeveralKind) → IsUnrecorded (recorded_first kind)
unrecorded_first Concat k = refl
unrecorded_first (Merge p) Nothing = refl
unrecorded_first (MergeDelay p) Nothing = refl
unrecorded_first (Merge p) (Picks cs) = refl
unrecorded_first (MergeDelay p) (Picks cs) = refl
unrecorded_first (Merge p) (Ended o) = refl
unrecorded_first (MergeDelay p) (Ended o) = refl
unrecorded_first (Zip p) Nothing = refl
unrecorded_first (Zip p) (Picks cs) = refl
unrecorded_first (Zip p) (Ended None) = refl
unrecorded_first (Zip p) (Ended (Some i)) = refl
unrecorded_first (Latest p) Nothing = refl
unrecorded_first (Latest p) (Picks cs) = refl
unrecorded_first (Latest p) (Ended o) = refl

pub built_over : {T : Type 0} (m : Meaning T) (hubs : List (HubState T)) (kind : SeveralKind) (es : List (Expr T)) (row : Inputs (TreeNode T)) (n : SeveralNode T) (t : Node (TreeNode T)) →
    1 ≤ length es → AreBuilt m hubs es row → GivesKind n kind (length es) → several_recorded n ≡ recorded_first kind → several_ended n ≡ false → several_counted n (replicate (length es) 0) 0 →
    ((i asked : ℕ) → i < length es → several_wanted n i asked 0 ≡ first_wanted kind i asked) → t.machine ≡ Direct (Several n) → t.inputs ≡ row → IsBuiltOver m hubs kind es t
built_over {T} m hubs kind es row n t some w fresh noted goes_on counted wanted n_is r_is =
    let TN : Node (TreeNode T) → Type 0 = λ x. IsBuiltOver m hubs kind es x in
    let BN : TreeNode T → Type 0 = λ x. TN (node_of x t.inputs) in
    let BR : Inputs (TreeNode T) → Type 0 = λ r. TN (node_of (Direct (Several n)) r) in
    subst BN (sym n_is) (subst BR (sym r_is) (record {
      value = λ whole joins further at leaf begun stand.
          let w_env = environment_until_stop m whole joins further in
          let values = in_order (map (meant w_env) es) (at + 1) leaf in
          ap (λ o. out_of any_machine m whole (Direct (Several n)) o (slice_get further at)) (w.values whole joins further (at + 1) leaf begun stand)
          ∙ out_several m whole n kind (length es) fresh some values (λ vs e. there_are (map (meant w_env) es) (at + 1) leaf vs e ∙ length-map es (meant w_env)) (slice_get further at);
      reads = (tt, w.reads);
      alone = λ bare. (tt, w.alone bare);
      notes = let U : Note → Type 0 = λ k. IsUnrecorded k in (subst U (sym noted) (unrecorded_first kind), w.notes);
      edges = w.edges;
      wants = w.wants (Direct (Several n)) 0 (first_wanted kind 0 0) (several_wants n kind (length es) wanted);
      balance =
          let C : List ℕ → Type 0 = λ l. several_counted n l 0 in
          inr (goes_on, subst C (sym w.sent) counted, w.balance (Direct (Several n)) 0);
    }))

-- ---- each kind of expression

abbrev Listed : Type 0 → Type 0
Listed T = Vec (Expr T) Global

zip_value : {T : Type 0} (m : Meaning T) (p : ℕ) (o : Option (List (Stream T))) (note : Option Note) → option_and_then (λ k. option_and_then (joined m (Zip p) k) o) note ≡ ended_by_record note (λ i. option_and_then (zip m.row_of i) o)
zip_value m p None (Some Nothing) = refl
zip_value m p (Some vs) (Some Nothing) = refl
zip_value m p o note = refl

-- the tree over its inputs is that of an expression whose meaning, joins, edges and wants are made of theirs
record IsOver {T : Type 0} (m : Meaning T) (hubs : List (HubState T)) (kind : SeveralKind) (es : List (Expr T)) (e : Expr T) : Type 0 where
  value : (whole : List (Stream T)) (joins : List ℕ) (further : List Note) (at leaf : ℕ) →
      (meant (environment_until_stop m whole joins further) e).value at leaf ≡ option_and_then (λ k. option_and_then (joined m kind k) (in_order (map (meant (environment_until_stop m whole joins further)) es) (at + 1) leaf)) (slice_get further at)
  joins_are : new_joins hubs e ≡ new_joins_of hubs es
  edges_are : fresh_edges e ≡ fresh_beside (map fresh_edges es)
  wants_are : fresh_wants e ≡ wants_beside (first_wanted kind 0 0) (map fresh_wants es)

as_built : {T : Type 0} (m : Meaning T) (hubs : List (HubState T)) (kind : SeveralKind) (es : List (Expr T)) (e : Expr T) (t : Node (TreeNode T)) → IsOver m hubs kind es e → IsBuiltOver m hubs kind es t → IsBuilt m hubs e t
as_built m hubs kind es e t o w = record {
  value = λ whole joins further at leaf begun stand.
      let S : List ℕ → Type 0 = λ l. StandAt joins leaf l in
      w.value whole joins further at leaf begun (subst S o.joins_are stand) ∙ sym (o.value whole joins further at leaf);
  reads = w.reads;
  alone = λ bare. w.alone (sym o.joins_are ∙ bare);
  notes = w.notes;
  edges = w.edges ∙ sym o.edges_are;
  wants = w.wants ∙ sym o.wants_are;
  balance = w.balance;
}

-- the same of a tree that was made unless memory ran out
if_built : {T E : Type 0} (m : Meaning T) (hubs : List (HubState T)) (kind : SeveralKind) (es items : List (Expr T)) (whole_of e : Expr T) (r : Result (Node (TreeNode T)) E) →
    e ≡ whole_of → items ≡ es → IsOver m hubs kind es whole_of → IfOk r (λ t. IsBuiltOver m hubs kind items t) → IfOk r (λ t. IsBuilt m hubs e t)
if_built {T} m hubs kind es items whole_of e (Ok t) is all o w =
    let P : Expr T → Type 0 = λ x. IsBuilt m hubs x t in
    let Q : List (Expr T) → Type 0 = λ l. IsBuiltOver m hubs kind l t in
    subst P (sym is) (as_built m hubs kind es whole_of t o (subst Q all w))
if_built m hubs kind es items whole_of e (Err x) is all o w = tt

over_concat : {T : Type 0} (m : Meaning T) (hubs : List (HubState T)) (v : Listed T) → IsOver m hubs Concat v.items (ConcatOf v)
over_concat m hubs v = record {
  value = λ whole joins further at leaf.
      value_Concat (environment_until_stop m whole joins further) v at leaf ∙ quiet_value concat (in_order (map (meant (environment_until_stop m whole joins further)) v.items) (at + 1) leaf) (slice_get further at);
  joins_are = rw (leaf_joins_out, outs-Concat) refl;
  edges_are = rw (fresh_edges_out, outs-Concat) refl;
  wants_are = rw (fresh_wants_out, outs-Concat) refl;
}

pub built_concat : {T E : Type 0} (m : Meaning T) (hubs : List (HubState T)) (e : Expr T) (v : Listed T) (items : List (Expr T)) (r : Result (Node (TreeNode T)) E) → e ≡ ConcatOf v → items ≡ v.items → IfOk r (λ t. IsBuiltOver m hubs Concat items t) → IfOk r (λ t. IsBuilt m hubs e t)
built_concat m hubs e v items r is all w = if_built m hubs Concat v.items items (ConcatOf v) e r is all (over_concat m hubs v) w

over_merge : {T : Type 0} (m : Meaning T) (hubs : List (HubState T)) (p : ℕ) (v : Listed T) → IsOver m hubs (Merge p) v.items (MergeOf p v)
over_merge m hubs p v = record {
  value = λ whole joins further at leaf.
      value_Merge (environment_until_stop m whole joins further) p v at leaf ∙ picked_value merge (in_order (map (meant (environment_until_stop m whole joins further)) v.items) (at + 1) leaf) (slice_get further at);
  joins_are = rw (leaf_joins_out, outs-Merge) refl;
  edges_are = rw (fresh_edges_out, outs-Merge) refl;
  wants_are = rw (fresh_wants_out, outs-Merge) refl;
}

over_merge_delay : {T : Type 0} (m : Meaning T) (hubs : List (HubState T)) (p : ℕ) (v : Listed T) → IsOver m hubs (MergeDelay p) v.items (MergeDelayOf p v)
over_merge_delay m hubs p v = record {
  value = λ whole joins further at leaf.
      value_MergeDelay (environment_until_stop m whole joins further) p v at leaf ∙ picked_value merge_delay (in_order (map (meant (environment_until_stop m whole joins further)) v.items) (at + 1) leaf) (slice_get further at);
  joins_are = rw (leaf_joins_out, outs-MergeDelay) refl;
  edges_are = rw (fresh_edges_out, outs-MergeDelay) refl;
  wants_are = rw (fresh_wants_out, outs-MergeDelay) refl;
}

pub built_merge : {T E : Type 0} (m : Meaning T) (hubs : List (HubState T)) (e : Expr T) (p : ℕ) (v : Listed T) (items : List (Expr T)) (r : Result (Node (TreeNode T)) E) → e ≡ MergeOf p v → items ≡ v.items → IfOk r (λ t. IsBuiltOver m hubs (Merge p) items t) → IfOk r (λ t. IsBuilt m hubs e t)
built_merge m hubs e p v items r is all w = if_built m hubs (Merge p) v.items items (MergeOf p v) e r is all (over_merge m hubs p v) w

pub built_merge_delay : {T E : Type 0} (m : Meaning T) (hubs : List (HubState T)) (e : Expr T) (p : ℕ) (v : Listed T) (items : List (Expr T)) (r : Result (Node (TreeNode T)) E) → e ≡ MergeDelayOf p v → items ≡ v.items → IfOk r (λ t. IsBuiltOver m hubs (MergeDelay p) items t) → IfOk r (λ t. IsBuilt m hubs e t)
built_merge_delay m hubs e p v items r is all w = if_built m hubs (MergeDelay p) v.items items (MergeDelayOf p v) e r is all (over_merge_delay m hubs p v) w

over_zip : {T : Type 0} (m : Meaning T) (hubs : List (HubState T)) (p : ℕ) (v : Listed T) → IsOver m hubs (Zip p) v.items (ZipOf p v)
over_zip m hubs p v = record {
  value = λ whole joins further at leaf.
      value_Zip (environment_until_stop m whole joins further) p v at leaf ∙ sym (zip_value m p (in_order (map (meant (environment_until_stop m whole joins further)) v.items) (at + 1) leaf) (slice_get further at));
  joins_are = rw (leaf_joins_out, outs-Zip) refl;
  edges_are = rw (fresh_edges_out, outs-Zip) refl;
  wants_are = rw (fresh_wants_out, outs-Zip) refl;
}

pub built_zip : {T E : Type 0} (m : Meaning T) (hubs : List (HubState T)) (e : Expr T) (p : ℕ) (v : Listed T) (items : List (Expr T)) (r : Result (Node (TreeNode T)) E) → e ≡ ZipOf p v → items ≡ v.items → IfOk r (λ t. IsBuiltOver m hubs (Zip p) items t) → IfOk r (λ t. IsBuilt m hubs e t)
built_zip m hubs e p v items r is all w = if_built m hubs (Zip p) v.items items (ZipOf p v) e r is all (over_zip m hubs p v) w

over_latest : {T : Type 0} (m : Meaning T) (hubs : List (HubState T)) (p : ℕ) (v : Listed T) → IsOver m hubs (Latest p) v.items (LatestOf p v)
over_latest m hubs p v = record {
  value = λ whole joins further at leaf.
      value_Latest (environment_until_stop m whole joins further) p v at leaf ∙ picked_value (latest_until_stop m.row_of) (in_order (map (meant (environment_until_stop m whole joins further)) v.items) (at + 1) leaf) (slice_get further at);
  joins_are = rw (leaf_joins_out, outs-Latest) refl;
  edges_are = rw (fresh_edges_out, outs-Latest) refl;
  wants_are = rw (fresh_wants_out, outs-Latest) refl;
}

pub built_latest : {T E : Type 0} (m : Meaning T) (hubs : List (HubState T)) (e : Expr T) (p : ℕ) (v : Listed T) (items : List (Expr T)) (r : Result (Node (TreeNode T)) E) → e ≡ LatestOf p v → items ≡ v.items → IfOk r (λ t. IsBuiltOver m hubs (Latest p) items t) → IfOk r (λ t. IsBuilt m hubs e t)
built_latest m hubs e p v items r is all w = if_built m hubs (Latest p) v.items items (LatestOf p v) e r is all (over_latest m hubs p v) w

-- ---- its limits

pub record AreFew (inputs : ℕ) : Type 0 where
  pub some : 1 ≤ inputs
  pub most : inputs ≤ MOST_INPUTS

fits_few : (n : ℕ) → unless (inputs_fit n) TooManyInputs ≡ None → AreFew n
fits_few n e = record { some = grind (arith, nat_tests); most = grind (arith, nat_tests) }

fits_prefetch : (p : ℕ) → unless (prefetch_fits p) Number ≡ None → (1 ≤ p) × (p ≤ MOST_PREFETCH)
fits_prefetch p e = (grind (arith, nat_tests), grind (arith, nat_tests))

-- an expression has more nodes than its inputs together
smaller_node : {T : Type 0} (e whole_of : Expr T) (es : List (Expr T)) → e ≡ whole_of → nodes whole_of ≡ 1 + sum_of (map nodes es) → 3 * sum_of (map nodes es) + 2 < 3 * nodes e
smaller_node e whole_of es is n = let same = ap nodes is in omega arith

pub record IsLimited {T : Type 0} (hubs : ℕ) (kind : SeveralKind) (e : Expr T) (es : List (Expr T)) : Type 0 where
  pub few : AreFew (length es)
  pub within : IsWithin kind
  pub faultless : first_of (map (first_fault hubs) es) ≡ None
  pub smaller : 3 * sum_of (map nodes es) + 2 < 3 * nodes e

pub limits_Concat : {T : Type 0} (hubs : ℕ) (e : Expr T) (v : Listed T) (items : List (Expr T)) → e ≡ ConcatOf v → items ≡ v.items → first_fault hubs e ≡ None → IsLimited hubs Concat e items
limits_Concat {T} hubs e v items is all h =
    let f = fault_Concat hubs v (ap (first_fault hubs) (sym is) ∙ h) in
    let n = nodes_Concat v in
    let L : List (Expr T) → Type 0 = λ l. IsLimited hubs Concat e l in
    subst L (sym all) (record { few = fits_few (length v.items) f.0; within = tt; faultless = f.1; smaller = smaller_node e (ConcatOf v) v.items is n })

queued_limits : {T : Type 0} (hubs p : ℕ) (es : List (Expr T)) → queued_fault p (length es) ≡ None → AreFew (length es) × ((1 ≤ p) × (p ≤ LARGEST))
queued_limits hubs p es h =
    let both = or_none _ _ h in
    let low = fits_prefetch p both.1 in
    (fits_few (length es) both.0, (low.0, omega (arith, low.1)))

pub limits_Merge : {T : Type 0} (hubs : ℕ) (e : Expr T) (p : ℕ) (v : Listed T) (items : List (Expr T)) → e ≡ MergeOf p v → items ≡ v.items → first_fault hubs e ≡ None → IsLimited hubs (Merge p) e items
limits_Merge {T} hubs e p v items is all h =
    let f = fault_Merge hubs p v (ap (first_fault hubs) (sym is) ∙ h) in
    let q = queued_limits hubs p v.items f.0 in
    let n = nodes_Merge p v in
    let L : List (Expr T) → Type 0 = λ l. IsLimited hubs (Merge p) e l in
    subst L (sym all) (record { few = q.0; within = q.1; faultless = f.1; smaller = smaller_node e (MergeOf p v) v.items is n })

pub limits_MergeDelay : {T : Type 0} (hubs : ℕ) (e : Expr T) (p : ℕ) (v : Listed T) (items : List (Expr T)) → e ≡ MergeDelayOf p v → items ≡ v.items → first_fault hubs e ≡ None → IsLimited hubs (MergeDelay p) e items
limits_MergeDelay {T} hubs e p v items is all h =
    let f = fault_MergeDelay hubs p v (ap (first_fault hubs) (sym is) ∙ h) in
    let q = queued_limits hubs p v.items f.0 in
    let n = nodes_MergeDelay p v in
    let L : List (Expr T) → Type 0 = λ l. IsLimited hubs (MergeDelay p) e l in
    subst L (sym all) (record { few = q.0; within = q.1; faultless = f.1; smaller = smaller_node e (MergeDelayOf p v) v.items is n })

pub limits_Zip : {T : Type 0} (hubs : ℕ) (e : Expr T) (p : ℕ) (v : Listed T) (items : List (Expr T)) → e ≡ ZipOf p v → items ≡ v.items → first_fault hubs e ≡ None → IsLimited hubs (Zip p) e items
limits_Zip {T} hubs e p v items is all h =
    let f = fault_Zip hubs p v (ap (first_fault hubs) (sym is) ∙ h) in
    let q = queued_limits hubs p v.items f.0 in
    let n = nodes_Zip p v in
    let L : List (Expr T) → Type 0 = λ l. IsLimited hubs (Zip p) e l in
    subst L (sym all) (record { few = q.0; within = q.1; faultless = f.1; smaller = smaller_node e (ZipOf p v) v.items is n })

pub limits_Latest : {T : Type 0} (hubs : ℕ) (e : Expr T) (p : ℕ) (v : Listed T) (items : List (Expr T)) → e ≡ LatestOf p v → items ≡ v.items → first_fault hubs e ≡ None → IsLimited hubs (Latest p) e items
limits_Latest {T} hubs e p v items is all h =
    let f = fault_Latest hubs p v (ap (first_fault hubs) (sym is) ∙ h) in
    let q = queued_limits hubs p v.items f.0 in
    let n = nodes_Latest p v in
    let L : List (Expr T) → Type 0 = λ l. IsLimited hubs (Latest p) e l in
    subst L (sym all) (record { few = q.0; within = q.1; faultless = f.1; smaller = smaller_node e (LatestOf p v) v.items is n })
