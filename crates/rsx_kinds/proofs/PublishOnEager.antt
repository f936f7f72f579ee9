-- The tree of a `publishOnEager` over that of its input.
use Rattle.std.proofs.Common.{◌≡◌, false, ℕ, ◌+◌, ◌≤◌, ◌&&◌, List, ◌∷◌, refl, ap, sym, ◌∙◌, subst, arith, None, slice_get, Result, Box, Global}
use Rattle.std.specs.Prelude.{IfOk}
use Rattle.std.proofs.lemmas.Bool.Decides.{nat_tests}
use Rattle.std.proofs.lemmas.List.{append-nil}
use Rattle.rsx_sources.specs.Prelude.{Meaning, NoMemory, Picks}
use Rattle.rsx_values.specs.Prelude.{eager_of, written}
use Rattle.rsx_delayed.specs.PublishOnEager.{is_last}
use Rattle.rsx_queued.specs.Prelude.{ended_in}
use Rattle.rsx_kinds.specs.Prelude.{AnyNode, Expr, HubState, IsBuilt, IsOverOne, IsPublishOnEager, IsUnrecorded, MOST_PREFETCH, Node, Number, OnEager, Run, TreeNode, environment_until_stop, first_fault, fold_out-Expr, fresh_edge, fresh_edges, meant, new_joins, outs-OnEager, picked, publish_wanted, unless, worker_fits}
use Rattle.rsx_model.proofs.Unfold.{fault_OnEager, value_OnEager}
use Rattle.rsx_kinds.proofs.NodeValues.{picked_value}
use Rattle.rsx_kinds.proofs.Single.{StandsFor, no_picks, single_if}
use Rattle.rsx_prefetch.proofs.Batches.{whole_capacity}
use Rattle.rsx_kinds.proofs.Wants.{wants_OnEager}

new_joins_OnEager : {T : Type 0} (hubs : List (HubState T)) (k p : ℕ) (b : Box (Expr T) Global) → new_joins hubs (OnEager k p b) ≡ new_joins hubs b.value
new_joins_OnEager {T} hubs k p b = rw (fold_out-Expr, outs-OnEager) (append-nil (new_joins hubs b.value))

fresh_OnEager : {T : Type 0} (k p : ℕ) (b : Box (Expr T) Global) → fresh_edges (OnEager k p b) ≡ fresh_edge ∷ fresh_edges b.value
fresh_OnEager {T} k p b = rw (fold_out-Expr, outs-OnEager) (ap (λ l. fresh_edge ∷ l) (append-nil (fresh_edges b.value)))

fits_prefetch : (k p : ℕ) → unless (worker_fits k p) Number ≡ None → p ≤ MOST_PREFETCH
fits_prefetch k p e = grind (arith, nat_tests)

stands : {T : Type 0} (m : Meaning T) (hubs : List (HubState T)) (k p : ℕ) (b : Box (Expr T) Global) → p ≤ MOST_PREFETCH → (n : AnyNode T) → IsPublishOnEager p n → StandsFor m hubs (λ d v. picked d (λ cs. eager_of cs v)) p false n b.value (OnEager k p b)
stands {T} m hubs k p b most n h =
    let S : AnyNode T → Type 0 = λ x. StandsFor m hubs (λ d v. picked d (λ cs. eager_of cs v)) p false x b.value (OnEager k p b) in
    let U : List Run → Type 0 = λ l. IsUnrecorded (Picks (written l)) in
    subst S (sym h.is) (record {
      fresh = λ inc d. h.fresh m inc d;
      unread = refl;
      unrecorded = subst U (sym h.choices) no_picks;
      ended = ap (λ c. is_last c && ended_in h.node.held.input.tail false) h.chosen;
      counted = λ e. h.counted;
      wanted = ap (λ i. publish_wanted (record { input = i }) 0 0 0) h.input ∙ whole_capacity p (omega arith);
      value = λ whole joins further at leaf.
          value_OnEager (environment_until_stop m whole joins further) k p b at leaf ∙ picked_value eager_of ((meant (environment_until_stop m whole joins further) b.value).value (at + 1) leaf) (slice_get further at);
      joins = new_joins_OnEager hubs k p b;
      edges = fresh_OnEager k p b;
      wants = wants_OnEager k p b;
    })

pub publish_on_eager_if : {T : Type 0} (m : Meaning T) (hubs : List (HubState T)) (count : ℕ) (e : Expr T) (k p : ℕ) (b : Box (Expr T) Global) (input : Expr T) (below : Node (TreeNode T)) (made : Result (AnyNode T) NoMemory) (r : Result (Node (TreeNode T)) NoMemory) →
    e ≡ OnEager k p b → input ≡ b.value → first_fault count e ≡ None → IsBuilt m hubs input below → IfOk made (λ n. IsPublishOnEager p n) → IfOk r (λ t. IsOverOne made below t) → IfOk r (λ t. IsBuilt m hubs e t)
publish_on_eager_if {T} m hubs count e k p b input below made r is in_box fine w fresh o =
    let most = fits_prefetch k p (fault_OnEager count k p b (ap (first_fault count) (sym is) ∙ fine)).0 in
    let P : Expr T → Type 0 = λ x. IfOk r (λ t. IsBuilt m hubs x t) in
    let I : Expr T → Type 0 = λ x. IsBuilt m hubs x below in
    subst P (sym is) (single_if m hubs (λ d v. picked d (λ cs. eager_of cs v)) p b.value (OnEager k p b) below (λ n. IsPublishOnEager p n) made r (stands m hubs k p b most) (subst I in_box w) fresh o)
