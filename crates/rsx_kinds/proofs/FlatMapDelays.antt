-- The tree of a `flatMapDelayError` over that of its input.
use Rattle.std.proofs.Common.{◌≡◌, false, ℕ, ◌+◌, ◌≤◌, List, [], ◌∷◌, refl, ap, sym, ◌∙◌, subst, arith, None, slice_get, Result, Box, Vec, Global}
use Rattle.std.specs.Prelude.{IfOk}
use Rattle.std.proofs.lemmas.Bool.Decides.{nat_tests}
use Rattle.std.proofs.lemmas.List.{append-nil}
use Rattle.rsx_sources.specs.Prelude.{Meaning, NoMemory, Picks, Stage}
use Rattle.rsx_kinds.specs.Prelude.{AnyNode, Expr, FlatDelay, FlatMapDelay, FlatMapDelayNode, GivesFlatMapDelay, HubState, IsBuilt, IsFlatMapDelay, IsOverOne, IsUnrecorded, MOST_CONCURRENCY, Node, Number, Run, TreeNode, concurrency_fits, environment_until_stop, first_fault, flat_delay_counted, fold_out-Expr, fresh_edge, fresh_edges, meant, new_joins, outs-FlatDelay, unless}
use Rattle.rsx_values.specs.Prelude.{flat_map_delay, written}
use Rattle.rsx_model.proofs.Unfold.{fault_FlatDelay, or_none, value_FlatDelay}
use Rattle.rsx_queued.specs.Prelude.{picked, has_ending}
use Rattle.rsx_queued.specs.declared.output.Output.TheVariants.{Empty}
use Rattle.rsx_kinds.proofs.NodeValues.{picked_value}
use Rattle.rsx_kinds.proofs.Single.{StandsFor, no_picks, single_if}
use Rattle.rsx_kinds.proofs.Wants.{flat_delay_wants, wants_FlatDelay}

new_joins_FlatDelay : {T : Type 0} (hubs : List (HubState T)) (f c : ℕ) (gs : Vec (Stage T) Global) (b : Box (Expr T) Global) → new_joins hubs (FlatDelay f c gs b) ≡ new_joins hubs b.value
new_joins_FlatDelay {T} hubs f c gs b = rw (fold_out-Expr, outs-FlatDelay) (append-nil (new_joins hubs b.value))

fresh_FlatDelay : {T : Type 0} (f c : ℕ) (gs : Vec (Stage T) Global) (b : Box (Expr T) Global) → fresh_edges (FlatDelay f c gs b) ≡ fresh_edge ∷ fresh_edges b.value
fresh_FlatDelay {T} f c gs b = rw (fold_out-Expr, outs-FlatDelay) (ap (λ l. fresh_edge ∷ l) (append-nil (fresh_edges b.value)))

fits_concurrency : (c : ℕ) → unless (concurrency_fits c) Number ≡ None → (1 ≤ c) × (c ≤ MOST_CONCURRENCY)
fits_concurrency c e = (grind (arith, nat_tests), grind (arith, nat_tests))

-- a fresh node, with copies of the operators
pub as_flat_map_delay : {T : Type 0} (f c : ℕ) (copies gs : List (Stage T)) (n : FlatMapDelayNode T) → copies ≡ gs → GivesFlatMapDelay n f copies → (1 ≤ c → flat_delay_counted n (0 ∷ []) 0) → n.flat.concurrency ≡ c → n.flat.choices ≡ [] → n.flat.next ≡ 0 → n.flat.output ≡ Empty → IsFlatMapDelay f c gs (FlatMapDelay n)
as_flat_map_delay {T} f c copies gs n same fresh counted at_most choices next nothing =
    let F : List (Stage T) → Type 0 = λ l. IsFlatMapDelay f c l (FlatMapDelay n) in
    subst F same (record { node = n; is = refl; fresh = fresh; counted = counted; at_most = at_most; choices = choices; next = next; nothing = nothing })

stands : {T : Type 0} (m : Meaning T) (hubs : List (HubState T)) (f c : ℕ) (gs : Vec (Stage T) Global) (b : Box (Expr T) Global) → 1 ≤ c → c ≤ MOST_CONCURRENCY → (n : AnyNode T) → IsFlatMapDelay f c gs.items n →
    StandsFor m hubs (λ k v. picked k (λ cs. flat_map_delay m f gs.items cs v)) c false n b.value (FlatDelay f c gs b)
stands {T} m hubs f c gs b some most n h =
    let S : AnyNode T → Type 0 = λ x. StandsFor m hubs (λ k v. picked k (λ cs. flat_map_delay m f gs.items cs v)) c false x b.value (FlatDelay f c gs b) in
    let U : List Run → Type 0 = λ l. IsUnrecorded (Picks (written l)) in
    subst S (sym h.is) (record {
      fresh = λ inc k. h.fresh m inc k;
      unread = refl;
      unrecorded = subst U (sym h.choices) no_picks;
      ended = ap has_ending h.nothing;
      counted = λ e. h.counted some;
      wanted = flat_delay_wants h.node c h.at_most h.next most;
      value = λ whole joins further at leaf.
          value_FlatDelay (environment_until_stop m whole joins further) f c gs b at leaf ∙ picked_value (flat_map_delay m f gs.items) ((meant (environment_until_stop m whole joins further) b.value).value (at + 1) leaf) (slice_get further at);
      joins = new_joins_FlatDelay hubs f c gs b;
      edges = fresh_FlatDelay f c gs b;
      wants = wants_FlatDelay f c gs b;
    })

pub flat_delay_if : {T : Type 0} (m : Meaning T) (hubs : List (HubState T)) (count : ℕ) (e : Expr T) (f c : ℕ) (gs : Vec (Stage T) Global) (stages : List (Stage T)) (b : Box (Expr T) Global) (input : Expr T) (below : Node (TreeNode T)) (made : Result (AnyNode T) NoMemory) (r : Result (Node (TreeNode T)) NoMemory) →
    e ≡ FlatDelay f c gs b → stages ≡ gs.items → input ≡ b.value → first_fault count e ≡ None → IsBuilt m hubs input below → IfOk made (λ n. IsFlatMapDelay f c stages n) → IfOk r (λ t. IsOverOne made below t) → IfOk r (λ t. IsBuilt m hubs e t)
flat_delay_if {T} m hubs count e f c gs stages b input below made r is in_list in_box fine w fresh o =
    let few = fits_concurrency c (or_none _ _ (fault_FlatDelay count f c gs b (ap (first_fault count) (sym is) ∙ fine)).0).0 in
    let P : Expr T → Type 0 = λ x. IfOk r (λ t. IsBuilt m hubs x t) in
    let I : Expr T → Type 0 = λ x. IsBuilt m hubs x below in
    let F : List (Stage T) → Type 0 = λ l. IfOk made (λ n. IsFlatMapDelay f c l n) in
    subst P (sym is) (single_if m hubs (λ k v. picked k (λ cs. flat_map_delay m f gs.items cs v)) c b.value (FlatDelay f c gs b) below (λ n. IsFlatMapDelay f c gs.items n) made r (stands m hubs f c gs b few.0 few.1) (subst I in_box w) (subst F in_list fresh) o)
