-- The drawing of an expression: its nodes in pre-order, each on a line of its own.
use Rattle.std.specs.Prelude.{ℕ, zero, suc, ◌+◌, List, [], ◌++◌, codes}
use Rattle.std.specs.Fmt.{decimal, signed_decimal}
use Rattle.rsx_demo.specs.declared.names.Role.TheVariants as for
use Rattle.rsx_script.specs.Answers.{items_text}
use Rattle.rsx_script.specs.Orders.{Tree, Trees, items, range, hub, plain, concat, merge, merge_delay, zip, latest, group, window, flat, flat_delay, on, on_eager, none, first}
use Rattle.rsx_drive.specs.Names.{function_text}
use Rattle.rsx_drive.specs.Text.{chain_text, stage_text}

-- the operator at the root, as its line has it, without the parentheses and the inputs
abbrev pub operator_text : Tree → List ℕ
operator_text (items vs) = codes "items" ++ items_text vs
operator_text (range a n) = codes "range " ++ (signed_decimal a ++ (codes " " ++ decimal n))
operator_text (hub h) = codes "hub " ++ decimal h
operator_text (plain g t) = stage_text g
operator_text (concat ts) = codes "concat"
operator_text (merge p ts) = codes "merge " ++ decimal p
operator_text (merge_delay p ts) = codes "mergeDelayError " ++ decimal p
operator_text (zip p ts) = codes "zip " ++ decimal p
operator_text (latest p ts) = codes "combineLatest " ++ decimal p
operator_text (group f gs t) = codes "groupBy " ++ (function_text for.Key f ++ (codes " " ++ chain_text gs))
operator_text (window n gs t) = codes "window " ++ (decimal n ++ (codes " " ++ chain_text gs))
operator_text (flat f c gs t) = codes "flatMap " ++ (function_text for.Expand f ++ (codes " " ++ (decimal c ++ (codes " " ++ chain_text gs))))
operator_text (flat_delay f c gs t) = codes "flatMapDelayError " ++ (function_text for.Expand f ++ (codes " " ++ (decimal c ++ (codes " " ++ chain_text gs))))
operator_text (on k p t) = codes "publishOn " ++ (decimal k ++ (codes " " ++ decimal p))
operator_text (on_eager k p t) = codes "publishOnEager " ++ (decimal k ++ (codes " " ++ decimal p))

-- two spaces for each level
abbrev pub indent_text : ℕ → List ℕ
indent_text zero = []
indent_text (suc depth) = codes "  " ++ indent_text depth

-- the line of the node at the root, which has this number and stands so many levels below the root of the whole
abbrev pub row_text : ℕ → ℕ → Tree → List ℕ
row_text depth number t = indent_text depth ++ (decimal number ++ (codes " " ++ (operator_text t ++ codes "\n")))

-- how many nodes an expression has, and several
abbrev mutual
  pub nodes : Tree → ℕ
  nodes (items vs) = 1
  nodes (range a n) = 1
  nodes (hub h) = 1
  nodes (plain g t) = 1 + nodes t
  nodes (concat ts) = 1 + all_nodes ts
  nodes (merge p ts) = 1 + all_nodes ts
  nodes (merge_delay p ts) = 1 + all_nodes ts
  nodes (zip p ts) = 1 + all_nodes ts
  nodes (latest p ts) = 1 + all_nodes ts
  nodes (group f gs t) = 1 + nodes t
  nodes (window n gs t) = 1 + nodes t
  nodes (flat f c gs t) = 1 + nodes t
  nodes (flat_delay f c gs t) = 1 + nodes t
  nodes (on k p t) = 1 + nodes t
  nodes (on_eager k p t) = 1 + nodes t

  pub all_nodes : Trees → ℕ
  all_nodes none = 0
  all_nodes (first t ts) = nodes t + all_nodes ts

-- the lines of the nodes of an expression, in pre-order, where its root has this number and stands at this depth; and of several
abbrev mutual
  pub rows_text : ℕ → ℕ → Tree → List ℕ
  rows_text depth number (items vs) = row_text depth number (items vs)
  rows_text depth number (range a n) = row_text depth number (range a n)
  rows_text depth number (hub h) = row_text depth number (hub h)
  rows_text depth number (plain g t) = row_text depth number (plain g t) ++ rows_text (depth + 1) (number + 1) t
  rows_text depth number (concat ts) = row_text depth number (concat ts) ++ all_rows_text (depth + 1) (number + 1) ts
  rows_text depth number (merge p ts) = row_text depth number (merge p ts) ++ all_rows_text (depth + 1) (number + 1) ts
  rows_text depth number (merge_delay p ts) = row_text depth number (merge_delay p ts) ++ all_rows_text (depth + 1) (number + 1) ts
  rows_text depth number (zip p ts) = row_text depth number (zip p ts) ++ all_rows_text (depth + 1) (number + 1) ts
  rows_text depth number (latest p ts) = row_text depth number (latest p ts) ++ all_rows_text (depth + 1) (number + 1) ts
  rows_text depth number (group f gs t) = row_text depth number (group f gs t) ++ rows_text (depth + 1) (number + 1) t
  rows_text depth number (window n gs t) = row_text depth number (window n gs t) ++ rows_text (depth + 1) (number + 1) t
  rows_text depth number (flat f c gs t) = row_text depth number (flat f c gs t) ++ rows_text (depth + 1) (number + 1) t
  rows_text depth number (flat_delay f c gs t) = row_text depth number (flat_delay f c gs t) ++ rows_text (depth + 1) (number + 1) t
  rows_text depth number (on k p t) = row_text depth number (on k p t) ++ rows_text (depth + 1) (number + 1) t
  rows_text depth number (on_eager k p t) = row_text depth number (on_eager k p t) ++ rows_text (depth + 1) (number + 1) t

  pub all_rows_text : ℕ → ℕ → Trees → List ℕ
  all_rows_text depth number none = []
  all_rows_text depth number (first t ts) = rows_text depth number t ++ all_rows_text depth (number + nodes t) ts

-- the drawing of an expression
abbrev pub drawn_text : Tree → List ℕ
drawn_text t = rows_text 0 0 t
