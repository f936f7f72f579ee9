-- How a step of one node is put together from a step below a node, or beside it.
use Rattle.std.proofs.Common.{◌≡◌, inl, inr, ℕ, zero, suc, ◌-◌, ◌<◌, ◌≤◌, min, Bool, true, ◌&&◌, refl, ap, sym, ◌∙◌, subst, arith}
use Rattle.std.specs.Box.{with_value}
use Rattle.rsx_tree.specs.declared.edge.Edge.{Edge}
use Rattle.rsx_tree.specs.declared.inputs.Inputs.{Inputs}
use Rattle.rsx_tree.specs.declared.inputs.Inputs.TheViews.{More}
use Rattle.rsx_tree.specs.declared.node.Node.{Node}
use Rattle.rsx_tree.specs.Edges.{EdgeView, edge_view}
use Rattle.rsx_tree.specs.Inputs.{size, closed_row_if}
use Rattle.rsx_tree.specs.Stepped.{Step, IsStepOver, IsStepped, IsSteppedAt}
use Rattle.rsx_tree.proofs.Changes.{Rest, counted_all, counted_some}

pub stepped_here : {M : Type 0} (P : Step M) (ends : M → Bool) (old : Inputs M) (e : Edge) (n n' : M) (below beside : Rest M) (was new : Inputs M) (at : ℕ) → old ≡ More e n below beside → was ≡ below.value → at ≡ 0 → IsStepOver P ends e n was n' new → IsStepped P ends old at (More e n' (with_value below new) beside)
stepped_here {M} P ends old e n n' below beside was new at is w z h =
    let Q : Inputs M → Type 0 = λ t. IsStepped P ends t at (More e n' (with_value below new) beside) in
    let fit : new ≡ closed_row_if (ends n' && true) below.value = h.shut ∙ ap (closed_row_if (ends n' && true)) w in
    subst Q (sym is) (inl (record { n' = n'; at_is = z; live = h.live; made = h.made; new_is = ap (λ t. More e n' (with_value below t) beside) fit }))

pub stepped_beside : {M : Type 0} (P : Step M) (ends : M → Bool) (old : Inputs M) (e : Edge) (n : M) (below beside : Rest M) (under was new : Inputs M) (at inside : ℕ) →
    old ≡ More e n below beside → under ≡ below.value → was ≡ beside.value → inside ≡ min (size under) at → inside < at → IsStepped P ends was (at - 1 - inside) new → IsStepped P ends old at (More e n below (with_value beside new))
stepped_beside {M} P ends old e n below beside under was new at inside is u w c far h =
    let Q : Inputs M → Type 0 = λ t. IsStepped P ends t at (More e n below (with_value beside new)) in
    let all : inside ≡ size below.value = counted_all (size under) inside at c far ∙ ap size u in
    let L : ℕ → Type 0 = λ k. k < at in
    let A : ℕ → Type 0 = λ k. IsStepped P ends was (at - 1 - k) new in
    let W : Inputs M → Type 0 = λ t. IsStepped P ends t (at - 1 - size below.value) new in
    subst Q (sym is) (inr (inr (record { beside' = new; beyond = subst L all far; made = subst W w (subst A all h); new_is = refl })))

pub stepped_below : {M : Type 0} (P : Step M) (ends : M → Bool) (old : Inputs M) (e : Edge) (n : M) (below beside : Rest M) (under was new : Inputs M) (at inside : ℕ) →
    old ≡ More e n below beside → under ≡ below.value → was ≡ below.value → inside ≡ min (size under) at → 0 < at → at ≤ inside → IsStepped P ends was (at - 1) new → IsStepped P ends old at (More e n (with_value below new) beside)
stepped_below {M} P ends old e n below beside under was new at inside is u w c above near h =
    let Q : Inputs M → Type 0 = λ t. IsStepped P ends t at (More e n (with_value below new) beside) in
    let W : Inputs M → Type 0 = λ t. IsStepped P ends t (at - 1) new in
    let S : Inputs M → Type 0 = λ t. at ≤ size t in
    subst Q (sym is) (inr (inl (record { below' = new; above = above; within = subst S u (counted_some (size under) inside at c near); made = subst W w h; new_is = refl })))

-- ---- a step of a tree

abbrev tree : {M : Type 0} → M → Inputs M → Node M
tree r t = record { machine = r; inputs = t }

pub stepped_root : {M : Type 0} (P : Step M) (ends : M → Bool) (r r' : M) (t t' : Inputs M) (e : Edge) (at : ℕ) → at ≤ 0 → IsStepOver P ends e r t r' t' → IsSteppedAt P ends (tree r t) (edge_view e) at (tree r' t')
stepped_root P ends r r' t t' e zero z h = record { live = h.live; made = h.made; inputs = h.shut }
stepped_root P ends r r' t t' e (suc at) z h = absurd (omega (arith, z))

pub stepped_tree : {M : Type 0} (P : Step M) (ends : M → Bool) (r : M) (t t' : Inputs M) (e : EdgeView) (at : ℕ) → 0 < at → IsStepped P ends t (at - 1) t' → IsSteppedAt P ends (tree r t) e at (tree r t')
stepped_tree P ends r t t' e zero z h = absurd (omega (arith, z))
stepped_tree P ends r t t' e (suc at) z h =
    let K : ℕ → Type 0 = λ k. IsStepped P ends t k t' in
    record { machine = refl; made = subst K (one_less at) h }
  where
    one_less : (k : ℕ) → suc k - 1 ≡ k
    one_less k = omega arith
