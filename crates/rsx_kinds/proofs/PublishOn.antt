-- The tree of a `publishOn` over that of its input.
use Rattle.std.proofs.Common.{◌≡◌, false, ℕ, ◌+◌, ◌≤◌, List, ◌∷◌, refl, ap, sym, ◌∙◌, subst, arith, Option, Some, None, option_map, slice_get, Result, Box, Global}
use Rattle.std.specs.Prelude.{IfOk}
use Rattle.std.proofs.lemmas.Bool.Decides.{nat_tests}
use Rattle.std.proofs.lemmas.List.{append-nil}
use Rattle.rsx_sources.specs.Prelude.{Meaning, NoMemory, quiet as quiet_at}
use Rattle.rsx_kinds.specs.Prelude.{AnyNode, Expr, HubState, IsBuilt, IsOverOne, IsPublishOn, MOST_PREFETCH, Node, Number, On, TreeNode, environment_until_stop, first_fault, fold_out-Expr, fresh_edge, fresh_edges, meant, new_joins, outs-On, publish_ended, publish_wanted, quiet, unless, worker_fits}
use Rattle.rsx_model.proofs.Unfold.{fault_On, value_On}
use Rattle.rsx_kinds.proofs.NodeValues.{quiet_value}
use Rattle.rsx_kinds.proofs.Single.{StandsFor, single_if}
use Rattle.rsx_prefetch.proofs.Batches.{whole_capacity}
use Rattle.rsx_kinds.proofs.Wants.{wants_On}

new_joins_On : {T : Type 0} (hubs : List (HubState T)) (k p : ℕ) (b : Box (Expr T) Global) → new_joins hubs (On k p b) ≡ new_joins hubs b.value
new_joins_On {T} hubs k p b = rw (fold_out-Expr, outs-On) (append-nil (new_joins hubs b.value))

fresh_On : {T : Type 0} (k p : ℕ) (b : Box (Expr T) Global) → fresh_edges (On k p b) ≡ fresh_edge ∷ fresh_edges b.value
fresh_On {T} k p b = rw (fold_out-Expr, outs-On) (ap (λ l. fresh_edge ∷ l) (append-nil (fresh_edges b.value)))

fits_prefetch : (k p : ℕ) → unless (worker_fits k p) Number ≡ None → p ≤ MOST_PREFETCH
fits_prefetch k p e = grind (arith, nat_tests)

as_it_is : {A : Type 0} (o : Option A) → o ≡ option_map (λ v. v) o
as_it_is None = refl
as_it_is (Some v) = refl

stands : {T : Type 0} (m : Meaning T) (hubs : List (HubState T)) (k p : ℕ) (b : Box (Expr T) Global) → p ≤ MOST_PREFETCH → (n : AnyNode T) → IsPublishOn p n → StandsFor m hubs (λ d v. quiet_at d v) p false n b.value (On k p b)
stands {T} m hubs k p b most n h =
    let S : AnyNode T → Type 0 = λ x. StandsFor m hubs (λ d v. quiet_at d v) p false x b.value (On k p b) in
    subst S (sym h.is) (record {
      fresh = λ inc d. h.fresh m inc d;
      unread = refl;
      unrecorded = λ d. refl;
      ended = ap (λ i. publish_ended (record { input = i })) h.input;
      counted = λ e. h.counted;
      wanted = ap (λ i. publish_wanted (record { input = i }) 0 0 0) h.input ∙ whole_capacity p (omega arith);
      value = λ whole joins further at leaf.
          let came = (meant (environment_until_stop m whole joins further) b.value).value (at + 1) leaf in
          value_On (environment_until_stop m whole joins further) k p b at leaf ∙ (ap (quiet (slice_get further at)) (as_it_is came) ∙ quiet_value (λ v. v) came (slice_get further at));
      joins = new_joins_On hubs k p b;
      edges = fresh_On k p b;
      wants = wants_On k p b;
    })

pub publish_on_if : {T : Type 0} (m : Meaning T) (hubs : List (HubState T)) (count : ℕ) (e : Expr T) (k p : ℕ) (b : Box (Expr T) Global) (input : Expr T) (below : Node (TreeNode T)) (made : Result (AnyNode T) NoMemory) (r : Result (Node (TreeNode T)) NoMemory) →
    e ≡ On k p b → input ≡ b.value → first_fault count e ≡ None → IsBuilt m hubs input below → IfOk made (λ n. IsPublishOn p n) → IfOk r (λ t. IsOverOne made below t) → IfOk r (λ t. IsBuilt m hubs e t)
publish_on_if {T} m hubs count e k p b input below made r is in_box fine w fresh o =
    let most = fits_prefetch k p (fault_On count k p b (ap (first_fault count) (sym is) ∙ fine)).0 in
    let P : Expr T → Type 0 = λ x. IfOk r (λ t. IsBuilt m hubs x t) in
    let I : Expr T → Type 0 = λ x. IsBuilt m hubs x below in
    subst P (sym is) (single_if m hubs (λ d v. quiet_at d v) p b.value (On k p b) below (λ n. IsPublishOn p n) made r (stands m hubs k p b most) (subst I in_box w) fresh o)
