-- One level of an expression: its line, its nodes and its drawing, by its operator and the expressions that it stands over.
use Rattle.std.proofs.Common.{◌≡◌, ℕ, ◌+◌, List, [], ◌∷◌, ◌++◌, map, refl, sym, ap, ◌∙◌, append_assoc, arith}
use Rattle.std.specs.Prelude.{codes}
use Rattle.std.proofs.lemmas.List.{append-nil}
use Rattle.rsx_demo.specs.declared.val.Val.{Val}
use Rattle.rsx_model.proofs.Unfold.{children-map}
use Rattle.rsx_model.specs.Shape.{children}
use Rattle.rsx_model.specs.declared.expr.Expr.{Expr}
use Rattle.rsx_model.specs.declared.expr.Expr.TheOpen.{Expr-F, Items, Range, Hub, Plain, Concat, Merge, MergeDelay, Zip, Latest, Group, Window, Flat, FlatDelay, On, OnEager}
use Rattle.rsx_model.specs.declared.expr.Expr.TheFolds.{fold_out-Expr, map-Expr}
use Rattle.rsx_model.specs.declared.expr.Expr.TheViews.{out-Expr}
use Rattle.rsx_script.specs.Orders.{Tree, Trees, node_of, tree_of, trees_of}
use Rattle.rsx_drive.specs.Drawn.{all_nodes, all_rows_text, nodes, operator_text, row_text, rows_text}
use Rattle.rsx_drive.specs.Text.{stage_text, tree_text, trees_text}

-- what an expression comes to is what its root does, over what those below come to
tree_out : (e : Expr Val) → tree_of e ≡ node_of (map-Expr Val (Expr Val) Tree tree_of (out-Expr Val e))
tree_out e = fold_out-Expr Val Tree node_of e

-- ---- the line

-- an operator over its inputs, in parentheses
abbrev enclosed : List ℕ → Trees → List ℕ
enclosed operator ts = codes "(" ++ (operator ++ (trees_text ts ++ codes ")"))

-- an input behind a space, as the last of the inputs
alone : (w t : List ℕ) → w ++ (32 ∷ (t ++ 41 ∷ [])) ≡ w ++ ((32 ∷ (t ++ [])) ++ 41 ∷ [])
alone w t = ap (λ l. w ++ (32 ∷ (l ++ 41 ∷ []))) (sym (append-nil t))

line_level : (o : Expr-F Val Tree) → tree_text (node_of o) ≡ enclosed (operator_text (node_of o)) (trees_of (children o))
line_level (Items v) = refl
line_level (Range a n) = ap (λ l. codes "(range " ++ l) (simp append_assoc)
line_level (Hub h) = refl
line_level (Plain g b) = ap (λ l. 40 ∷ l) (alone (stage_text g) (tree_text b.value))
line_level (Concat v) = refl
line_level (Merge p v) = refl
line_level (MergeDelay p v) = refl
line_level (Zip p v) = refl
line_level (Latest p v) = refl
line_level (Group f gs b) = ap (λ l. codes "(groupBy " ++ l) (simp (append_assoc, append-nil))
line_level (Window n gs b) = ap (λ l. codes "(window " ++ l) (simp (append_assoc, append-nil))
line_level (Flat f c gs b) = ap (λ l. codes "(flatMap " ++ l) (simp (append_assoc, append-nil))
line_level (FlatDelay f c gs b) = ap (λ l. codes "(flatMapDelayError " ++ l) (simp (append_assoc, append-nil))
line_level (On k p b) = ap (λ l. codes "(publishOn " ++ l) (simp (append_assoc, append-nil))
line_level (OnEager k p b) = ap (λ l. codes "(publishOnEager " ++ l) (simp (append_assoc, append-nil))

-- those below, where these are they
inputs_are : (e : Expr Val) (es : List (Expr Val)) → es ≡ children (out-Expr Val e) → children (map-Expr Val (Expr Val) Tree tree_of (out-Expr Val e)) ≡ map tree_of es
inputs_are e es is = children-map tree_of (out-Expr Val e) ∙ ap (map tree_of) (sym is)

pub line_out : (e : Expr Val) (es : List (Expr Val)) → es ≡ children (out-Expr Val e) → tree_text (tree_of e) ≡ enclosed (operator_text (tree_of e)) (trees_of (map tree_of es))
line_out e es is =
    ap tree_text (tree_out e)
    ∙ line_level (map-Expr Val (Expr Val) Tree tree_of (out-Expr Val e))
    ∙ ap (λ t. enclosed (operator_text t) (trees_of (children (map-Expr Val (Expr Val) Tree tree_of (out-Expr Val e))))) (sym (tree_out e))
    ∙ ap (λ ts. enclosed (operator_text (tree_of e)) (trees_of ts)) (inputs_are e es is)

-- ---- the drawing

nodes_level : (o : Expr-F Val Tree) → nodes (node_of o) ≡ 1 + all_nodes (trees_of (children o))
nodes_level (Items v) = refl
nodes_level (Range a n) = refl
nodes_level (Hub h) = refl
nodes_level (Plain g b) = omega arith
nodes_level (Concat v) = refl
nodes_level (Merge p v) = refl
nodes_level (MergeDelay p v) = refl
nodes_level (Zip p v) = refl
nodes_level (Latest p v) = refl
nodes_level (Group f gs b) = omega arith
nodes_level (Window n gs b) = omega arith
nodes_level (Flat f c gs b) = omega arith
nodes_level (FlatDelay f c gs b) = omega arith
nodes_level (On k p b) = omega arith
nodes_level (OnEager k p b) = omega arith

pub nodes_out : (e : Expr Val) (es : List (Expr Val)) → es ≡ children (out-Expr Val e) → nodes (tree_of e) ≡ 1 + all_nodes (trees_of (map tree_of es))
nodes_out e es is =
    ap nodes (tree_out e)
    ∙ nodes_level (map-Expr Val (Expr Val) Tree tree_of (out-Expr Val e))
    ∙ ap (λ ts. 1 + all_nodes (trees_of ts)) (inputs_are e es is)

-- the lines of one input are those of the only one
only : (w r : List ℕ) → w ++ r ≡ w ++ (r ++ [])
only w r = ap (λ l. w ++ l) (sym (append-nil r))

rows_level : (d n : ℕ) (o : Expr-F Val Tree) → rows_text d n (node_of o) ≡ row_text d n (node_of o) ++ all_rows_text (d + 1) (n + 1) (trees_of (children o))
rows_level d n (Items v) = sym (append-nil (row_text d n (node_of (Items v))))
rows_level d n (Range a k) = sym (append-nil (row_text d n (node_of (Range a k))))
rows_level d n (Hub h) = sym (append-nil (row_text d n (node_of (Hub h))))
rows_level d n (Plain g b) = only (row_text d n (node_of (Plain g b))) (rows_text (d + 1) (n + 1) b.value)
rows_level d n (Concat v) = refl
rows_level d n (Merge p v) = refl
rows_level d n (MergeDelay p v) = refl
rows_level d n (Zip p v) = refl
rows_level d n (Latest p v) = refl
rows_level d n (Group f gs b) = only (row_text d n (node_of (Group f gs b))) (rows_text (d + 1) (n + 1) b.value)
rows_level d n (Window k gs b) = only (row_text d n (node_of (Window k gs b))) (rows_text (d + 1) (n + 1) b.value)
rows_level d n (Flat f c gs b) = only (row_text d n (node_of (Flat f c gs b))) (rows_text (d + 1) (n + 1) b.value)
rows_level d n (FlatDelay f c gs b) = only (row_text d n (node_of (FlatDelay f c gs b))) (rows_text (d + 1) (n + 1) b.value)
rows_level d n (On k p b) = only (row_text d n (node_of (On k p b))) (rows_text (d + 1) (n + 1) b.value)
rows_level d n (OnEager k p b) = only (row_text d n (node_of (OnEager k p b))) (rows_text (d + 1) (n + 1) b.value)

pub rows_out : (d n : ℕ) (e : Expr Val) (es : List (Expr Val)) → es ≡ children (out-Expr Val e) → rows_text d n (tree_of e) ≡ row_text d n (tree_of e) ++ all_rows_text (d + 1) (n + 1) (trees_of (map tree_of es))
rows_out d n e es is =
    ap (rows_text d n) (tree_out e)
    ∙ rows_level d n (map-Expr Val (Expr Val) Tree tree_of (out-Expr Val e))
    ∙ ap (λ t. row_text d n t ++ all_rows_text (d + 1) (n + 1) (trees_of (children (map-Expr Val (Expr Val) Tree tree_of (out-Expr Val e))))) (sym (tree_out e))
    ∙ ap (λ ts. row_text d n (tree_of e) ++ all_rows_text (d + 1) (n + 1) (trees_of ts)) (inputs_are e es is)
