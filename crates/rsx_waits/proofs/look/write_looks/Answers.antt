use Rattle.std.proofs.Common.{refl}
use Rattle.std.proofs.lemmas.Grind.{put_two}
use Rattle.std.proofs.lemmas.Option.{slice_get-get_or}
use Rattle.rsx_waits.proofs.Looks.{looks_more}
use Rattle.rsx_waits.proofs.look.write_looks.Goals as goal

pub loop-node-preserved : goal.loop-node-preserved
loop-node-preserved g c = λ plain.
    let before = c.loop-node.invariant plain in
    let looks = c.args.looks.now in
    let node = c.loop-node.node in
    put_two g.W.Write.write_str_gives _ _ _ _ _ _ before (c.in_ok-write_look.ensures before.plain refl) (looks_more node looks _ (slice_get-get_or looks node _ c.loop-node-test.true))
