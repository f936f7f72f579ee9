use Rattle.std.proofs.Common.{◌+◌, map, arith}
use Rattle.std.specs.String.{string_bytes}
use Rattle.rsx_script.specs.Orders.{tree_of, trees_of}
use Rattle.rsx_drive.specs.Drawn.{all_nodes, all_rows_text, nodes, row_text, rows_text}
use Rattle.rsx_drive.proofs.Drawings.{count_on, nodes_more, put_on, rows_more}
use Rattle.rsx_drive.proofs.Levels.{nodes_out, rows_out}
use Rattle.rsx_drive.proofs.drawing.+tree.Goals as goal

pub add_tree-returns-clause-added : goal.add_tree-returns-clause-added
add_tree-returns-clause-added t c =
    let d = c.args.depth in
    let n = c.args.number in
    let expr = c.args.expr.now in
    let es = c.inputs_of.result.now in
    put_on c.add_trees.result (string_bytes c.args.text.now) (string_bytes c.add_row.new.text) (string_bytes c.add_trees.new.text) (row_text d n (tree_of expr)) (all_rows_text (d + 1) (n + 1) (trees_of (map tree_of es))) (rows_text d n (tree_of expr))
    c.in_ok-add_row.ensures.added (rows_out d n expr es c.inputs_of.ensures) c.add_trees.ensures.added

pub add_tree-returns-clause-counted : goal.add_tree-returns-clause-counted
add_tree-returns-clause-counted t c =
    count_on c.add_trees.result c.args.number (all_nodes (trees_of (map tree_of c.inputs_of.result.now))) (nodes (tree_of c.args.expr.now)) (nodes_out c.args.expr.now c.inputs_of.result.now c.inputs_of.ensures) c.add_trees.ensures.counted

pub add_trees-loop-expr-preserved : goal.add_trees-loop-expr-preserved
add_trees-loop-expr-preserved t c =
    let inv = c.loop-expr.invariant in
    let one = c.in_ok-next.ensures in
    let xs = c.args.exprs.now in
    let i = c.loop-expr.expr-index in
    let x = c.expr-item.result in
    let more = nodes_more xs i x c.loop-expr-test.true c.expr-item.is in
    let counted = inv.0 in
    let next = one.counted in (
      omega (arith, more, counted, next),
      rows_more c.args.depth c.args.number c.loop-expr.next xs i x (string_bytes c.args.text.now) (string_bytes c.loop-expr.text) (string_bytes c.add_tree.new.text) c.loop-expr-test.true c.expr-item.is counted inv.1 one.added,
      one.small,
    )
