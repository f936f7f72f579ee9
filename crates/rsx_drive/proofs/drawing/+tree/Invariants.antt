use Rattle.std.proofs.Common.{◌≡◌, ◌≤◌, ◌+◌, ◌++◌, length, map, take}
use Rattle.std.specs.String.{string_bytes}
use Rattle.rsx_script.specs.Orders.{tree_of, trees_of}
use Rattle.rsx_drive.specs.Drawn.{all_nodes, all_rows_text}
use Rattle.rsx_drive.proofs.drawing.+tree.Given as goal

abbrev pub invariant-add_trees-loop-expr : goal.invariant-add_trees-loop-expr
invariant-add_trees-loop-expr l =
    (l.next ≡ l.fn.number + all_nodes (trees_of (map tree_of (take l.expr-index l.exprs))))
    × (string_bytes l.text ≡ string_bytes l.fn.text ++ all_rows_text l.depth l.fn.number (trees_of (map tree_of (take l.expr-index l.exprs))))
    × (l.next ≤ length (string_bytes l.text))
