-- The tree of a plain operator over that of its input.
use Rattle.std.proofs.Common.{◌≡◌, ℕ, zero, suc, ◌+◌, ◌<◌, Bool, true, false, List, [], ◌∷◌, length, refl, ap, sym, ◌∙◌, subst, arith, Option, None, slice_get, Result, Ok, Err, Box, Global}
use Rattle.std.specs.Prelude.{IfOk}
use Rattle.std.proofs.lemmas.List.{append-nil}
use Rattle.rsx_sources.specs.Prelude.{Meaning, plain, Signal, Stage, quiet as quiet_at}
use Rattle.rsx_types.specs.declared.stage.Stage.TheVariants.{Take, Buffer}
use Rattle.rsx_kinds.specs.Prelude.{Expr, HubState, IsBuilt, IsPlainOver, Node, Number, PlainNode, TreeNode, environment_until_stop, first_fault, fold_out-Expr, fresh_edge, fresh_edges, meant, new_joins, or_else, plain_counted, stage_fits, start_slot, starts_ended, unless}
use Rattle.rsx_model.specs.declared.check.BadExpr.{BadExpr}
use Rattle.rsx_model.specs.declared.expr.Expr.TheViews.{Plain as PlainOf, outs-Plain}
use Rattle.rsx_model.proofs.Unfold.{value_Plain, first_fault_Plain}
use Rattle.rsx_plain.specs.Moves.{has_ending}
use Rattle.rsx_plain.specs.State.{plain_start, is_over, balanced, wanted_from}
use Rattle.rsx_plain.specs.Operators.{starts_balanced, starts_wanting}
use Rattle.rsx_plain.specs.declared.state.PlainState.{PlainState}
use Rattle.rsx_tree.specs.Prelude.{closed_if, closed_row_if}
use Rattle.rsx_kinds.specs.declared.any_node.AnyNode.TheVariants.{Plain}
use Rattle.rsx_kinds.proofs.NodeValues.{quiet_value}
use Rattle.rsx_kinds.proofs.Single.{StandsFor, built_single}
use Rattle.rsx_kinds.proofs.Wants.{wants_Plain}

new_joins_Plain : {T : Type 0} (hubs : List (HubState T)) (g : Stage T) (b : Box (Expr T) Global) → new_joins hubs (PlainOf g b) ≡ new_joins hubs b.value
new_joins_Plain {T} hubs g b = rw (fold_out-Expr, outs-Plain) (append-nil (new_joins hubs b.value))

fresh_Plain : {T : Type 0} (g : Stage T) (b : Box (Expr T) Global) → fresh_edges (PlainOf g b) ≡ closed_if (starts_ended g) (fresh_edge ∷ fresh_edges b.value)
fresh_Plain {T} g b = rw (fold_out-Expr, outs-Plain) (ap (λ l. closed_if (starts_ended g) (fresh_edge ∷ l)) (append-nil (fresh_edges b.value)))

-- it has put out its ending just where that stands in its slot at the start
pub starts_is : {T : Type 0} (g : Stage T) → has_ending (start_slot g) ≡ starts_ended g
starts_is (Take zero) = refl
starts_is g = refl

fits_of : (b : Bool) (o : Option BadExpr) → or_else (unless b Number) o ≡ None → b ≡ true
fits_of true o e = refl
fits_of false o e = cc

-- the counts of a fresh node that has not put out its ending are balanced
fresh_counts : {T : Type 0} (g : Stage T) (n : PlainNode T) → n.state ≡ plain_start g → n.slot ≡ start_slot g → stage_fits g ≡ true → starts_ended g ≡ false → plain_counted n (0 ∷ []) 0
fresh_counts {T} g n st sl fits still =
    let P : PlainState T → Type 0 = λ s. (is_over s ≡ false) × balanced s 0 (0 + length n.slot) in
    let Q : List (Signal T) → Type 0 = λ l. (is_over (plain_start g) ≡ false) × balanced (plain_start g) 0 (0 + length l) in
    let both = subst P (sym st) (subst Q (sym sl) (starts_balanced g (some g fits) (starts_is g ∙ still))) in
    (0, refl, both.0, both.1)
  where
    some : (g : Stage T) → stage_fits g ≡ true → (k : ℕ) → g ≡ Buffer k → 0 < k
    some g e k is = positive k (sym (ap stage_fits is) ∙ e)
      where
        positive : (k : ℕ) → stage_fits {T = T} (Buffer k) ≡ true → 0 < k
        positive zero e = cc
        positive (suc k) e = omega arith

stands : {T : Type 0} (m : Meaning T) (hubs : List (HubState T)) (g : Stage T) (b : Box (Expr T) Global) (below t : Node (TreeNode T)) (o : IsPlainOver g below t) → stage_fits g ≡ true →
    StandsFor m hubs (λ k v. quiet_at k (plain m g v)) 0 (starts_ended g) (Plain o.node) b.value (PlainOf g b)
stands m hubs g b below t o fits = record {
  fresh = λ inc k. o.fresh m inc k;
  unread = refl;
  unrecorded = λ k. refl;
  ended = ap has_ending o.slot ∙ starts_is g;
  counted = λ still. fresh_counts g o.node o.state o.slot fits still;
  wanted = ap (λ s. wanted_from s 0 0) o.state ∙ starts_wanting g;
  value = λ whole joins further at leaf.
      value_Plain (environment_until_stop m whole joins further) g b at leaf ∙ quiet_value (plain m g) ((meant (environment_until_stop m whole joins further) b.value).value (at + 1) leaf) (slice_get further at);
  joins = new_joins_Plain hubs g b;
  edges = fresh_Plain g b;
  wants = wants_Plain g b;
}

pub plain_if : {T E : Type 0} (m : Meaning T) (hubs : List (HubState T)) (e : Expr T) (g : Stage T) (b : Box (Expr T) Global) (input : Expr T) (below : Node (TreeNode T)) (r : Result (Node (TreeNode T)) E) →
    e ≡ PlainOf g b → input ≡ b.value → first_fault (length hubs) e ≡ None → IsBuilt m hubs input below → IfOk r (λ t. IsPlainOver g below t) → IfOk r (λ t. IsBuilt m hubs e t)
plain_if {T} m hubs e g b input below (Ok t) is in_box fine w o =
    let P : Expr T → Type 0 = λ x. IsBuilt m hubs x t in
    let I : Expr T → Type 0 = λ x. IsBuilt m hubs x below in
    let fits : stage_fits g ≡ true = fits_of (stage_fits g) (first_fault (length hubs) b.value) (sym (first_fault_Plain (length hubs) g b) ∙ (ap (first_fault (length hubs)) (sym is) ∙ fine)) in
    subst P (sym is) (built_single m hubs (λ k v. quiet_at k (plain m g v)) 0 (starts_ended g) (Plain o.node) b.value (PlainOf g b) below t o.row (stands m hubs g b below t o fits) (subst I in_box w) o.joined o.machine
    (o.inputs ∙ (ap (λ l. closed_row_if (has_ending l) o.row) o.slot ∙ ap (λ c. closed_row_if c o.row) (starts_is g))))
plain_if m hubs e g b input below (Err x) is in_box fine w o = tt
