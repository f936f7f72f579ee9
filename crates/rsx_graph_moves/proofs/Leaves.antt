-- A node that waits below a node of a row, or beside it, waits in the row.
use Rattle.std.proofs.Common.{◌≡◌, inl, inr, ℕ, ◌+◌, min, true, ap, sym, ◌∙◌, subst, refl, arith, Option, Some, None}
use Rattle.std.specs.Prelude.{IfSome}
use Rattle.rsx_sources.specs.declared.machine.Machine.{Ghosts as Machine}
use Rattle.rsx_tree.specs.declared.edge.Edge.{Edge}
use Rattle.rsx_tree.specs.declared.inputs.Inputs.{Inputs}
use Rattle.rsx_tree.specs.declared.inputs.Inputs.TheViews.{More}
use Rattle.rsx_tree.specs.Inputs.{size}
use Rattle.rsx_tree.specs.Stepped.{over}
use Rattle.rsx_tree.proofs.Changes.{Rest}
use Rattle.rsx_graph_moves.specs.declared.leaf.WaitingLeaf.{WaitingLeaf}
use Rattle.rsx_graph_moves.specs.Waiting.{IsLeafIn, WaitsIn, lacks}

pub leaf_below : {M T : Type 0} (b : Machine M T) (t : Inputs M) (e : Edge) (n : M) (below beside : Rest M) (was : Inputs M) (first : ℕ) (leaf : WaitingLeaf) → t ≡ More e n below beside → was ≡ below.value → lacks b (over e n) ≡ true → IsLeafIn b was (first + 1) leaf → IsLeafIn b t first leaf
leaf_below {M} b t e n below beside was first leaf is at none h =
    let Q : Inputs M → Type 0 = λ x. IsLeafIn b x first leaf in
    let W : Inputs M → Type 0 = λ x. WaitsIn b x h.0 leaf.hub in
    let k = h.1 in
    subst Q (sym is) (h.0 + 1, omega (arith, k), inr (inl (h.0, refl, none, subst W at h.2)))

leaf_behind : {M T : Type 0} (b : Machine M T) (t : Inputs M) (e : Edge) (n : M) (below beside : Rest M) (was : Inputs M) (first inside : ℕ) (leaf : WaitingLeaf) → t ≡ More e n below beside → was ≡ beside.value → inside ≡ size below.value → IsLeafIn b was (first + 1 + inside) leaf → IsLeafIn b t first leaf
leaf_behind {M} b t e n below beside was first inside leaf is at all h =
    let Q : Inputs M → Type 0 = λ x. IsLeafIn b x first leaf in
    let W : Inputs M → Type 0 = λ x. WaitsIn b x h.0 leaf.hub in
    let k = h.1 in
    subst Q (sym is) (h.0 + 1 + size below.value, omega (arith, k, all), inr (inr (h.0, refl, subst W at h.2)))

pub leaf_beside : {M T : Type 0} (b : Machine M T) (t : Inputs M) (e : Edge) (n : M) (below beside : Rest M) (under was : Inputs M) (first inside room : ℕ) (o : Option WaitingLeaf) → t ≡ More e n below beside → under ≡ below.value → was ≡ beside.value → inside ≡ min (size under) room → (inside ≡ room → ⊥) →
    IfSome o (λ leaf. IsLeafIn b was (first + 1 + inside) leaf) → IfSome o (λ leaf. IsLeafIn b t first leaf)
leaf_beside b t e n below beside under was first inside room None is u at count less h = h
leaf_beside b t e n below beside under was first inside room (Some leaf) is u at count less h =
    let all : inside ≡ size under = omega (arith, count, less) in
    leaf_behind b t e n below beside was first inside leaf is at (all ∙ ap size u) h
