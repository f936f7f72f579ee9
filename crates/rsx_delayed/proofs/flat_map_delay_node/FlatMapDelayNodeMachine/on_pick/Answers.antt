use Rattle.std.proofs.Common.{◌≡◌, true, refl, rules}
use Rattle.rsx_sources.specs.Prelude.{Next, Complete, Error}
use Rattle.rsx_merging.specs.FlatMap.{flat_picks}
use Rattle.rsx_merging.proofs.Picked.{is_pick, gives_some}
use Rattle.rsx_delayed.proofs.FlatPicked.{item_picked, completion_picked, failure_picked, item_counts, ending_counts}
use Rattle.rsx_delayed.proofs.flat_map_delay_node.FlatMapDelayNodeMachine.on_pick.Goals as goal

pub returns-in-Some-Next-clause-ok : goal.returns-in-Some-Next-clause-ok
returns-in-Some-Next-clause-ok g c =
    let n = c.args.self.now in
    let picks : flat_picks n.flat c.args.input c.args.asked c.args.sent ≡ true = search rules in
    let p = is_pick n.flat c.args.input c.args.asked c.args.sent c.take.result c.in-Some-Next.field-0 (Next c.in-Some-Next.item) c.take.new.self picks c.take.ensures c.in-Some-Next.is c.in-Some-Next.field-0-is in
    item_picked (g.O.Ops.meaning c.args.ops.now) n c.args.input c.in-Some-Next.item c.take.new.self c.put.new.self c.push.new.self p c.put.ensures

pub returns-in-Some-Next-clause-counts : goal.returns-in-Some-Next-clause-counts
returns-in-Some-Next-clause-counts g c =
    let n = c.args.self.now in
    let picks : flat_picks n.flat c.args.input c.args.asked c.args.sent ≡ true = search rules in
    let p = is_pick n.flat c.args.input c.args.asked c.args.sent c.take.result c.in-Some-Next.field-0 (Next c.in-Some-Next.item) c.take.new.self picks c.take.ensures c.in-Some-Next.is c.in-Some-Next.field-0-is in
    item_counts n c.args.input c.in-Some-Next.item c.take.new.self c.put.new.self c.push.new.self p c.put.ensures

pub returns-in-Some-Complete-clause-ok : goal.returns-in-Some-Complete-clause-ok
returns-in-Some-Complete-clause-ok g c =
    let n = c.args.self.now in
    let picks : flat_picks n.flat c.args.input c.args.asked c.args.sent ≡ true = search rules in
    let p = is_pick n.flat c.args.input c.args.asked c.args.sent c.take.result c.in-Some-Complete.field-0 Complete c.take.new.self picks c.take.ensures c.in-Some-Complete.is c.in-Some-Complete.field-0-is in
    completion_picked (g.O.Ops.meaning c.args.ops.now) n c.end_lane.new.self c.args.input c.take.new.self c.push.new.self p c.end_lane.ensures.flat c.end_lane.ensures.kept c.end_lane.ensures.output

pub returns-in-Some-Complete-clause-counts : goal.returns-in-Some-Complete-clause-counts
returns-in-Some-Complete-clause-counts g c =
    let n = c.args.self.now in
    let picks : flat_picks n.flat c.args.input c.args.asked c.args.sent ≡ true = search rules in
    let p = is_pick n.flat c.args.input c.args.asked c.args.sent c.take.result c.in-Some-Complete.field-0 Complete c.take.new.self picks c.take.ensures c.in-Some-Complete.is c.in-Some-Complete.field-0-is in
    ending_counts n c.end_lane.new.self c.args.input Complete c.take.new.self n.kept c.push.new.self p refl c.end_lane.ensures.flat c.end_lane.ensures.output

pub returns-in-Some-Error-clause-ok : goal.returns-in-Some-Error-clause-ok
returns-in-Some-Error-clause-ok g c =
    let n = c.args.self.now in
    let picks : flat_picks n.flat c.args.input c.args.asked c.args.sent ≡ true = search rules in
    let p = is_pick n.flat c.args.input c.args.asked c.args.sent c.take.result c.in-Some-Error.field-0 (Error c.in-Some-Error.cause) c.take.new.self picks c.take.ensures c.in-Some-Error.is c.in-Some-Error.field-0-is in
    failure_picked (g.O.Ops.meaning c.args.ops.now) n c.end_lane-in-Some-Error.new.self c.first_cause-self.result c.args.input c.in-Some-Error.cause c.take.new.self c.push.new.self p c.end_lane-in-Some-Error.ensures.flat c.first_cause-self.ensures c.end_lane-in-Some-Error.ensures.kept c.end_lane-in-Some-Error.ensures.output

pub returns-in-Some-Error-clause-counts : goal.returns-in-Some-Error-clause-counts
returns-in-Some-Error-clause-counts g c =
    let n = c.args.self.now in
    let picks : flat_picks n.flat c.args.input c.args.asked c.args.sent ≡ true = search rules in
    let p = is_pick n.flat c.args.input c.args.asked c.args.sent c.take.result c.in-Some-Error.field-0 (Error c.in-Some-Error.cause) c.take.new.self picks c.take.ensures c.in-Some-Error.is c.in-Some-Error.field-0-is in
    ending_counts n c.end_lane-in-Some-Error.new.self c.args.input (Error c.in-Some-Error.cause) c.take.new.self c.first_cause-self.result c.push.new.self p refl c.end_lane-in-Some-Error.ensures.flat c.end_lane-in-Some-Error.ensures.output

pub unreachable-requires : goal.unreachable-requires
unreachable-requires g c =
    let n = c.args.self.now in
    let picks : flat_picks n.flat c.args.input c.args.asked c.args.sent ≡ true = search rules in
    gives_some n.flat c.args.input c.args.asked c.args.sent c.take.result c.take.new.self picks c.take.ensures c.in-None.is
