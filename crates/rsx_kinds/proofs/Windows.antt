-- The tree of a `window` over that of its input.
use Rattle.std.proofs.Common.{◌≡◌, false, ℕ, ◌+◌, List, ◌∷◌, refl, ap, sym, ◌∙◌, subst, slice_get, Result, Box, Vec, Global}
use Rattle.std.specs.Prelude.{IfOk}
use Rattle.std.proofs.lemmas.List.{append-nil}
use Rattle.rsx_sources.specs.Prelude.{Meaning, NoMemory, Stage, quiet as quiet_at}
use Rattle.rsx_kinds.specs.Prelude.{AnyNode, Expr, HubState, IsBuilt, IsOverOne, IsWindow, Node, TreeNode, environment_until_stop, fold_out-Expr, fresh_edge, fresh_edges, meant, new_joins}
use Rattle.rsx_values.specs.Window.{window}
use Rattle.rsx_model.specs.declared.expr.Expr.TheViews.{Window as WindowOf, outs-Window}
use Rattle.rsx_model.proofs.Unfold.{value_Window}
use Rattle.rsx_collections.specs.Signals.{has_ending}
use Rattle.rsx_kinds.proofs.NodeValues.{quiet_value}
use Rattle.rsx_kinds.proofs.Single.{StandsFor, single_if}
use Rattle.rsx_kinds.proofs.Wants.{wants_Window, window_wants}

new_joins_Window : {T : Type 0} (hubs : List (HubState T)) (n : ℕ) (gs : Vec (Stage T) Global) (b : Box (Expr T) Global) → new_joins hubs (WindowOf n gs b) ≡ new_joins hubs b.value
new_joins_Window {T} hubs n gs b = rw (fold_out-Expr, outs-Window) (append-nil (new_joins hubs b.value))

fresh_Window : {T : Type 0} (n : ℕ) (gs : Vec (Stage T) Global) (b : Box (Expr T) Global) → fresh_edges (WindowOf n gs b) ≡ fresh_edge ∷ fresh_edges b.value
fresh_Window {T} n gs b = rw (fold_out-Expr, outs-Window) (ap (λ l. fresh_edge ∷ l) (append-nil (fresh_edges b.value)))

stands : {T : Type 0} (m : Meaning T) (hubs : List (HubState T)) (size : ℕ) (gs : Vec (Stage T) Global) (b : Box (Expr T) Global) (n : AnyNode T) → IsWindow size gs.items n →
    StandsFor m hubs (λ k v. quiet_at k (window m size gs.items v)) 0 false n b.value (WindowOf size gs b)
stands {T} m hubs size gs b n h =
    let S : AnyNode T → Type 0 = λ x. StandsFor m hubs (λ k v. quiet_at k (window m size gs.items v)) 0 false x b.value (WindowOf size gs b) in
    subst S (sym h.is) (record {
      fresh = λ inc k. h.fresh m inc k;
      unread = refl;
      unrecorded = λ k. refl;
      ended = ap has_ending h.nothing;
      counted = λ e. h.counted;
      wanted = window_wants h.node h.counted;
      value = λ whole joins further at leaf.
          value_Window (environment_until_stop m whole joins further) size gs b at leaf ∙ quiet_value (window m size gs.items) ((meant (environment_until_stop m whole joins further) b.value).value (at + 1) leaf) (slice_get further at);
      joins = new_joins_Window hubs size gs b;
      edges = fresh_Window size gs b;
      wants = wants_Window size gs b;
    })

pub window_if : {T : Type 0} (m : Meaning T) (hubs : List (HubState T)) (e : Expr T) (size : ℕ) (gs : Vec (Stage T) Global) (stages : List (Stage T)) (b : Box (Expr T) Global) (input : Expr T) (below : Node (TreeNode T)) (made : Result (AnyNode T) NoMemory) (r : Result (Node (TreeNode T)) NoMemory) →
    e ≡ WindowOf size gs b → stages ≡ gs.items → input ≡ b.value → IsBuilt m hubs input below → IfOk made (λ n. IsWindow size stages n) → IfOk r (λ t. IsOverOne made below t) → IfOk r (λ t. IsBuilt m hubs e t)
window_if {T} m hubs e size gs stages b input below made r is in_list in_box w fresh o =
    let P : Expr T → Type 0 = λ x. IfOk r (λ t. IsBuilt m hubs x t) in
    let I : Expr T → Type 0 = λ x. IsBuilt m hubs x below in
    let F : List (Stage T) → Type 0 = λ l. IfOk made (λ n. IsWindow size l n) in
    subst P (sym is) (single_if m hubs (λ k v. quiet_at k (window m size gs.items v)) 0 b.value (WindowOf size gs b) below (λ n. IsWindow size gs.items n) made r (stands m hubs size gs b) (subst I in_box w) (subst F in_list fresh) o)
