-- The tree of a `groupBy` over that of its input.
use Rattle.std.proofs.Common.{◌≡◌, ℕ, false, ◌+◌, List, [], ◌∷◌, refl, ap, sym, ◌∙◌, subst, slice_get, Result, Box, Vec, Global}
use Rattle.std.specs.Prelude.{IfOk}
use Rattle.std.proofs.lemmas.List.{append-nil}
use Rattle.rsx_sources.specs.Prelude.{Meaning, NoMemory, Picks, Stage}
use Rattle.rsx_kinds.specs.Prelude.{AnyNode, Expr, GivesGroups, Group, GroupBy, GroupByNode, HubState, IsBuilt, IsGroupBy, IsOverOne, IsUnrecorded, Node, Run, TreeNode, environment_until_stop, fold_out-Expr, fresh_edge, fresh_edges, group_counted, group_ended, meant, new_joins, outs-Group, picked}
use Rattle.rsx_values.specs.Prelude.{group_by, written}
use Rattle.rsx_model.proofs.Unfold.{value_Group}
use Rattle.rsx_kinds.proofs.NodeValues.{picked_value}
use Rattle.rsx_kinds.proofs.Single.{StandsFor, no_picks, single_if}
use Rattle.rsx_kinds.proofs.Wants.{group_wants, wants_Group}

new_joins_Group : {T : Type 0} (hubs : List (HubState T)) (f : ℕ) (gs : Vec (Stage T) Global) (b : Box (Expr T) Global) → new_joins hubs (Group f gs b) ≡ new_joins hubs b.value
new_joins_Group {T} hubs f gs b = rw (fold_out-Expr, outs-Group) (append-nil (new_joins hubs b.value))

fresh_Group : {T : Type 0} (f : ℕ) (gs : Vec (Stage T) Global) (b : Box (Expr T) Global) → fresh_edges (Group f gs b) ≡ fresh_edge ∷ fresh_edges b.value
fresh_Group {T} f gs b = rw (fold_out-Expr, outs-Group) (ap (λ l. fresh_edge ∷ l) (append-nil (fresh_edges b.value)))

-- a fresh node, with copies of the operators
pub as_group_by : {T : Type 0} (f : ℕ) (copies gs : List (Stage T)) (n : GroupByNode T) → copies ≡ gs → GivesGroups n f copies → group_ended n ≡ false → group_counted n (0 ∷ []) 0 → n.choices ≡ [] → IsGroupBy f gs (GroupBy n)
as_group_by {T} f copies gs n same fresh ended counted choices =
    let F : List (Stage T) → Type 0 = λ l. IsGroupBy f l (GroupBy n) in
    subst F same (record { node = n; is = refl; fresh = fresh; ended = ended; counted = counted; choices = choices })

stands : {T : Type 0} (m : Meaning T) (hubs : List (HubState T)) (f : ℕ) (gs : Vec (Stage T) Global) (b : Box (Expr T) Global) (n : AnyNode T) → IsGroupBy f gs.items n →
    StandsFor m hubs (λ k v. picked k (λ cs. group_by m f gs.items cs v)) 0 false n b.value (Group f gs b)
stands {T} m hubs f gs b n h =
    let S : AnyNode T → Type 0 = λ x. StandsFor m hubs (λ k v. picked k (λ cs. group_by m f gs.items cs v)) 0 false x b.value (Group f gs b) in
    let U : List Run → Type 0 = λ l. IsUnrecorded (Picks (written l)) in
    subst S (sym h.is) (record {
      fresh = λ inc k. h.fresh m inc k;
      unread = refl;
      unrecorded = subst U (sym h.choices) no_picks;
      ended = h.ended;
      counted = λ e. h.counted;
      wanted = group_wants h.node h.counted;
      value = λ whole joins further at leaf.
          value_Group (environment_until_stop m whole joins further) f gs b at leaf ∙ picked_value (group_by m f gs.items) ((meant (environment_until_stop m whole joins further) b.value).value (at + 1) leaf) (slice_get further at);
      joins = new_joins_Group hubs f gs b;
      edges = fresh_Group f gs b;
      wants = wants_Group f gs b;
    })

pub group_if : {T : Type 0} (m : Meaning T) (hubs : List (HubState T)) (e : Expr T) (f : ℕ) (gs : Vec (Stage T) Global) (stages : List (Stage T)) (b : Box (Expr T) Global) (input : Expr T) (below : Node (TreeNode T)) (made : Result (AnyNode T) NoMemory) (r : Result (Node (TreeNode T)) NoMemory) →
    e ≡ Group f gs b → stages ≡ gs.items → input ≡ b.value → IsBuilt m hubs input below → IfOk made (λ n. IsGroupBy f stages n) → IfOk r (λ t. IsOverOne made below t) → IfOk r (λ t. IsBuilt m hubs e t)
group_if {T} m hubs e f gs stages b input below made r is in_list in_box w fresh o =
    let P : Expr T → Type 0 = λ x. IfOk r (λ t. IsBuilt m hubs x t) in
    let I : Expr T → Type 0 = λ x. IsBuilt m hubs x below in
    let F : List (Stage T) → Type 0 = λ l. IfOk made (λ n. IsGroupBy f l n) in
    subst P (sym is) (single_if m hubs (λ k v. picked k (λ cs. group_by m f gs.items cs v)) 0 b.value (Group f gs b) below (λ n. IsGroupBy f gs.items n) made r (stands m hubs f gs b) (subst I in_box w) (subst F in_list fresh) o)
