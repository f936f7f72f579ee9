-- The tree of a `flatMap` over that of its input.
use Rattle.std.proofs.Common.{◌≡◌, false, ℕ, ◌+◌, ◌≤◌, List, [], ◌∷◌, refl, ap, sym, ◌∙◌, subst, arith, None, slice_get, Result, Box, Vec, Global}
use Rattle.std.specs.Prelude.{IfOk}
use Rattle.std.proofs.lemmas.Bool.Decides.{nat_tests}
use Rattle.std.proofs.lemmas.List.{append-nil}
use Rattle.rsx_sources.specs.Prelude.{Meaning, NoMemory, Picks, Stage}
use Rattle.rsx_kinds.specs.Prelude.{AnyNode, Expr, Flat, FlatMap, FlatMapNode, GivesFlatMap, HubState, IsBuilt, IsFlatMap, IsGoing, IsOverOne, IsUnrecorded, MOST_CONCURRENCY, Node, Number, Run, TreeNode, concurrency_fits, environment_until_stop, first_fault, fold_out-Expr, fresh_edge, fresh_edges, meant, new_joins, outs-Flat, unless}
use Rattle.rsx_values.specs.Prelude.{flat_map, written}
use Rattle.rsx_model.proofs.Unfold.{fault_Flat, or_none, value_Flat}
use Rattle.rsx_queued.specs.Prelude.{picked, has_ending}
use Rattle.rsx_queued.specs.declared.output.Output.TheVariants.{Empty}
use Rattle.rsx_kinds.proofs.NodeValues.{picked_value}
use Rattle.rsx_kinds.proofs.Single.{StandsFor, no_picks, single_if}
use Rattle.rsx_kinds.proofs.Wants.{flat_wants, wants_Flat}

new_joins_Flat : {T : Type 0} (hubs : List (HubState T)) (f c : ℕ) (gs : Vec (Stage T) Global) (b : Box (Expr T) Global) → new_joins hubs (Flat f c gs b) ≡ new_joins hubs b.value
new_joins_Flat {T} hubs f c gs b = rw (fold_out-Expr, outs-Flat) (append-nil (new_joins hubs b.value))

fresh_Flat : {T : Type 0} (f c : ℕ) (gs : Vec (Stage T) Global) (b : Box (Expr T) Global) → fresh_edges (Flat f c gs b) ≡ fresh_edge ∷ fresh_edges b.value
fresh_Flat {T} f c gs b = rw (fold_out-Expr, outs-Flat) (ap (λ l. fresh_edge ∷ l) (append-nil (fresh_edges b.value)))

fits_concurrency : (c : ℕ) → unless (concurrency_fits c) Number ≡ None → (1 ≤ c) × (c ≤ MOST_CONCURRENCY)
fits_concurrency c e = (grind (arith, nat_tests), grind (arith, nat_tests))

-- a fresh node, with copies of the operators
pub as_flat_map : {T : Type 0} (f c : ℕ) (copies gs : List (Stage T)) (n : FlatMapNode T) → copies ≡ gs → GivesFlatMap n f copies → (1 ≤ c → IsGoing n (0 ∷ []) 0) → n.concurrency ≡ c → n.choices ≡ [] → n.next ≡ 0 → n.output ≡ Empty → IsFlatMap f c gs (FlatMap n)
as_flat_map {T} f c copies gs n same fresh counted at_most choices next nothing =
    let F : List (Stage T) → Type 0 = λ l. IsFlatMap f c l (FlatMap n) in
    subst F same (record { node = n; is = refl; fresh = fresh; counted = counted; at_most = at_most; choices = choices; next = next; nothing = nothing })

stands : {T : Type 0} (m : Meaning T) (hubs : List (HubState T)) (f c : ℕ) (gs : Vec (Stage T) Global) (b : Box (Expr T) Global) → 1 ≤ c → c ≤ MOST_CONCURRENCY → (n : AnyNode T) → IsFlatMap f c gs.items n →
    StandsFor m hubs (λ k v. picked k (λ cs. flat_map m f gs.items cs v)) c false n b.value (Flat f c gs b)
stands {T} m hubs f c gs b some most n h =
    let S : AnyNode T → Type 0 = λ x. StandsFor m hubs (λ k v. picked k (λ cs. flat_map m f gs.items cs v)) c false x b.value (Flat f c gs b) in
    let U : List Run → Type 0 = λ l. IsUnrecorded (Picks (written l)) in
    subst S (sym h.is) (record {
      fresh = λ inc k. h.fresh m inc k;
      unread = refl;
      unrecorded = subst U (sym h.choices) no_picks;
      ended = ap has_ending h.nothing;
      counted = λ e. h.counted some;
      wanted = flat_wants h.node c h.at_most h.next most;
      value = λ whole joins further at leaf.
          value_Flat (environment_until_stop m whole joins further) f c gs b at leaf ∙ picked_value (flat_map m f gs.items) ((meant (environment_until_stop m whole joins further) b.value).value (at + 1) leaf) (slice_get further at);
      joins = new_joins_Flat hubs f c gs b;
      edges = fresh_Flat f c gs b;
      wants = wants_Flat f c gs b;
    })

pub flat_if : {T : Type 0} (m : Meaning T) (hubs : List (HubState T)) (count : ℕ) (e : Expr T) (f c : ℕ) (gs : Vec (Stage T) Global) (stages : List (Stage T)) (b : Box (Expr T) Global) (input : Expr T) (below : Node (TreeNode T)) (made : Result (AnyNode T) NoMemory) (r : Result (Node (TreeNode T)) NoMemory) →
    e ≡ Flat f c gs b → stages ≡ gs.items → input ≡ b.value → first_fault count e ≡ None → IsBuilt m hubs input below → IfOk made (λ n. IsFlatMap f c stages n) → IfOk r (λ t. IsOverOne made below t) → IfOk r (λ t. IsBuilt m hubs e t)
flat_if {T} m hubs count e f c gs stages b input below made r is in_list in_box fine w fresh o =
    let few = fits_concurrency c (or_none _ _ (fault_Flat count f c gs b (ap (first_fault count) (sym is) ∙ fine)).0).0 in
    let P : Expr T → Type 0 = λ x. IfOk r (λ t. IsBuilt m hubs x t) in
    let I : Expr T → Type 0 = λ x. IsBuilt m hubs x below in
    let F : List (Stage T) → Type 0 = λ l. IfOk made (λ n. IsFlatMap f c l n) in
    subst P (sym is) (single_if m hubs (λ k v. picked k (λ cs. flat_map m f gs.items cs v)) c b.value (Flat f c gs b) below (λ n. IsFlatMap f c gs.items n) made r (stands m hubs f c gs b few.0 few.1) (subst I in_box w) (subst F in_list fresh) o)
