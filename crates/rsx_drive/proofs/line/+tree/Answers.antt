use Rattle.std.proofs.Common.{refl, sym}
use Rattle.std.proofs.lemmas.Grind.{put_three}
use Rattle.rsx_drive.proofs.Levels.{line_out}
use Rattle.rsx_drive.proofs.Shown.{one_more}
use Rattle.rsx_drive.proofs.line.+tree.Goals as goal

pub write_tree-returns : goal.write_tree-returns
write_tree-returns g t c = λ plain ok.
    let operator = c.in_ok-write.ensures.writes plain refl in
    let below = c.in_ok-write_trees.ensures operator.plain refl in
    let close = c.write_str.ensures.writes below.plain ok in
    put_three g.W.Write.write_str_gives _ _ _ _ _ _ _ _ operator below close (sym (line_out c.args.expr.now c.inputs_of.result.now c.inputs_of.ensures))

pub write_trees-loop-expr-preserved : goal.write_trees-loop-expr-preserved
write_trees-loop-expr-preserved g t c = λ plain.
    let before = c.loop-expr.invariant plain in
    let space = c.in_ok-write_str.ensures.writes before.plain refl in
    let one = c.in_ok-write_tree.ensures space.plain refl in
    put_three g.W.Write.write_str_gives _ _ _ _ _ _ _ _ before space one (one_more c.args.exprs.now c.loop-expr.expr-index c.expr-item.result c.loop-expr-test.true c.expr-item.is)
