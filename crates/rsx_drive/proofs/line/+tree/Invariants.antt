use Rattle.std.proofs.Common.{take, map}
use Rattle.std.specs.Fmt.{HasWritten, IsPlainFormatter}
use Rattle.rsx_script.specs.Orders.{tree_of, trees_of}
use Rattle.rsx_drive.specs.Text.{trees_text}
use Rattle.rsx_drive.proofs.line.+tree.Given as goal

abbrev pub invariant-write_trees-loop-expr : goal.invariant-write_trees-loop-expr
invariant-write_trees-loop-expr g l =
    IsPlainFormatter l.initial.f → HasWritten g.W.Write.write_str_gives l.initial.f (trees_text (trees_of (map tree_of (take l.expr-index l.exprs)))) l.f
