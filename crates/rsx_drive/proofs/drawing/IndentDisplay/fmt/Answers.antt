use Rattle.std.proofs.Common.{refl}
use Rattle.std.proofs.lemmas.Grind.{put_two}
use Rattle.rsx_drive.proofs.Drawings.{indent_more}
use Rattle.rsx_drive.proofs.drawing.IndentDisplay.fmt.Goals as goal

pub loop-preserved : goal.loop-preserved
loop-preserved g c = λ plain.
    let before = c.loop.invariant plain in
    put_two g.W.Write.write_str_gives _ _ _ _ _ _ before (c.in_ok-write_str.ensures.writes before.plain refl) (indent_more c.loop.counter)
