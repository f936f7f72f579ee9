use Rattle.std.proofs.Common.{◌≡◌, ◌<◌, false, sym, ◌∙◌, arith}
use Rattle.rsx_delayed.specs.FlatMapDelay.{flat_delay_ended}
use Rattle.rsx_delayed.proofs.FlatTaken.{lane_taken_in}
use Rattle.rsx_delayed.proofs.flat_map_delay_node.FlatMapDelayNodeMachine.pass.Goals as goal

pub returns-in-Ok-add_lane-clause-passed : goal.returns-in-Ok-add_lane-clause-passed
returns-in-Ok-add_lane-clause-passed g c =
    let n = c.args.self.now in
    let few : n.flat.next < 18446744073709551615 = c.in-Ok-add_lane.ensures.number in
    let going : flat_delay_ended n ≡ false = sym c.has_ended.ensures ∙ c.if-has_ended.false in
    lane_taken_in (g.O.Ops.meaning c.args.ops.now) n c.add_lane.new.self c.args.input c.args.item c.in-Ok.value c.if-input-ne0.false c.if-self.false going (omega (arith, few)) c.in-Ok.ensures.ended c.in-Ok.ensures.answer c.in-Ok-add_lane.ensures.ok
