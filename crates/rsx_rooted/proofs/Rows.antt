-- How many edges and joins the tree of an expression begins with.
use Rattle.std.proofs.Common.{◌≡◌, ℕ, suc, Bool, true, false, List, [], ◌∷◌, ◌++◌, length, length-append, map, refl, ap, ◌∙◌, arith}
use Rattle.rsx_model.specs.Shape.{children, leaves, leaf_here, nodes, sum_of}
use Rattle.rsx_model.specs.declared.expr.Expr.{Expr}
use Rattle.rsx_model.specs.declared.expr.Expr.TheFolds.{fold_out-Expr, map-Expr}
use Rattle.rsx_model.specs.declared.expr.Expr.TheOpen.{Expr-F}
use Rattle.rsx_model.specs.declared.expr.Expr.TheOpen as layer
use Rattle.rsx_model.specs.declared.expr.Expr.TheViews.{out-Expr}
use Rattle.rsx_model.proofs.Unfold.{Each, by_children, children-map, leaves_out, nodes_out}
use Rattle.rsx_tree.specs.Prelude.{EdgeView, closed_if}
use Rattle.rsx_rooted.specs.Built.{begins_ended, fresh_below, fresh_beside, fresh_edges, in_a_row, join_here, leaf_joins}

-- ---- the edges and the leaves of an expression

begins_ended-map : {T A B : Type 0} (h : A → B) (x : Expr-F T A) → begins_ended (map-Expr T A B h x) ≡ begins_ended x
begins_ended-map h (layer.Items v) = refl
begins_ended-map h x = refl

join_here-map : {T A B : Type 0} (js : List ℕ) (h : A → B) (x : Expr-F T A) → join_here js (map-Expr T A B h x) ≡ join_here js x
join_here-map js h (layer.Items v) = refl
join_here-map js h x = refl

-- one level of each
pub fresh_edges_out : {T : Type 0} (e : Expr T) → fresh_edges e ≡ closed_if (begins_ended (out-Expr T e)) (fresh_beside (map fresh_edges (children (out-Expr T e))))
fresh_edges_out {T} e =
    fold_out-Expr T (List EdgeView) fresh_below e
    ∙ (ap (λ c. closed_if c (fresh_beside (children (map-Expr T (Expr T) (List EdgeView) fresh_edges (out-Expr T e))))) (begins_ended-map fresh_edges (out-Expr T e))
    ∙ ap (λ l. closed_if (begins_ended (out-Expr T e)) (fresh_beside l)) (children-map fresh_edges (out-Expr T e)))

pub leaf_joins_out : {T : Type 0} (js : List ℕ) (e : Expr T) → leaf_joins js e ≡ join_here js (out-Expr T e) ++ in_a_row (map (leaf_joins js) (children (out-Expr T e)))
leaf_joins_out {T} js e =
    fold_out-Expr T (List ℕ) (λ x. join_here js x ++ in_a_row (children x)) e
    ∙ (ap (λ l. l ++ in_a_row (children (map-Expr T (Expr T) (List ℕ) (leaf_joins js) (out-Expr T e)))) (join_here-map js (leaf_joins js) (out-Expr T e))
    ∙ ap (λ l. join_here js (out-Expr T e) ++ in_a_row l) (children-map (leaf_joins js) (out-Expr T e)))

-- ---- how many there are

length_closed : (c : Bool) (es : List EdgeView) → length (closed_if c es) ≡ length es
length_closed false es = refl
length_closed true [] = refl
length_closed true (e ∷ es) = ap suc (length_closed true es)

length_beside : {T : Type 0} (es : List (Expr T)) → Each (λ e. suc (length (fresh_edges e)) ≡ nodes e) es → length (fresh_beside (map fresh_edges es)) ≡ sum_of (map nodes es)
length_beside [] h = refl
length_beside (e ∷ es) h =
    let rest = length_beside es h.1 in
    let first = h.0 in
    let both = length-append (fresh_edges e) (fresh_beside (map fresh_edges es)) in
    omega arith

-- an edge for each node but the root
pub length_fresh : {T : Type 0} (e : Expr T) → suc (length (fresh_edges e)) ≡ nodes e
length_fresh {T} = by_children (λ e. suc (length (fresh_edges e)) ≡ nodes e) (λ e kids.
    let kids_of = children (out-Expr T e) in
    let below = length_beside kids_of kids in
    let edges_are = ap length (fresh_edges_out e) ∙ length_closed (begins_ended (out-Expr T e)) (fresh_beside (map fresh_edges kids_of)) in
    let all = nodes_out e in
    omega arith)

length_join : {T A : Type 0} (js : List ℕ) (x : Expr-F T A) → length (join_here js x) ≡ leaf_here x
length_join js (layer.Items v) = refl
length_join js x = refl

length_row : {T : Type 0} (js : List ℕ) (es : List (Expr T)) → Each (λ e. length (leaf_joins js e) ≡ leaves e) es → length (in_a_row (map (leaf_joins js) es)) ≡ sum_of (map leaves es)
length_row js [] h = refl
length_row js (e ∷ es) h =
    let rest = length_row js es h.1 in
    let first = h.0 in
    let both = length-append (leaf_joins js e) (in_a_row (map (leaf_joins js) es)) in
    omega arith

-- a join for each leaf
pub length_joins : {T : Type 0} (js : List ℕ) (e : Expr T) → length (leaf_joins js e) ≡ leaves e
length_joins {T} js = by_children (λ e. length (leaf_joins js e) ≡ leaves e) (λ e kids.
    let kids_of = children (out-Expr T e) in
    let below = length_row js kids_of kids in
    let here = length_join js (out-Expr T e) in
    let joins_are = ap length (leaf_joins_out js e) ∙ length-append (join_here js (out-Expr T e)) (in_a_row (map (leaf_joins js) kids_of)) in
    let all = leaves_out e in
    omega arith)
