use denote.Param.Send.{IsSend, sendable}
use Rattle.std.proofs.Crossing.{crosses}
use Rattle.rsx_demo.specs.contracts.val.Val as Val
use Rattle.rsx_demo.proofs.val.Vals.TheLaws.TheKnot as ValKnot
use Rattle.test_live.proofs.serving.serve_and_take.Goals as goal

val : IsSend Val.the_row
val = search (sendable, crosses, ValKnot.crosses) depth 40

pub serve_regions-seats-requires-send-T : goal.serve_regions-seats-requires-send-T
serve_regions-seats-requires-send-T g c κs within = search (sendable, val) depth 6
