use Rattle.rsx_kinds.proofs.Dispatch.{passed_plain, passed_several, passed_publish_on, passed_window, passed_flat_map, passed_flat_map_delay, passed_publish_on_eager, passed_group_by}
use Rattle.rsx_kinds.proofs.any_node.AnyNodeMachine.pass.Goals as goal

pub returns-in-Plain-clause-passed : goal.returns-in-Plain-clause-passed
returns-in-Plain-clause-passed g c =
    rw c.in-Plain.is (passed_plain (g.O.Ops.meaning c.args.ops.now) c.in-Plain.node c.pass.new.self c.args.input c.args.item c.pass.result c.pass.ensures.passed)

pub returns-in-Several-clause-passed : goal.returns-in-Several-clause-passed
returns-in-Several-clause-passed g c =
    rw c.in-Several.is (passed_several (g.O.Ops.meaning c.args.ops.now) c.in-Several.node c.pass-in-Several.new.self c.args.input c.args.item c.pass-in-Several.result c.pass-in-Several.ensures.passed)

pub returns-in-PublishOn-clause-passed : goal.returns-in-PublishOn-clause-passed
returns-in-PublishOn-clause-passed g c =
    rw c.in-PublishOn.is (passed_publish_on (g.O.Ops.meaning c.args.ops.now) c.in-PublishOn.node c.pass-in-PublishOn.new.self c.args.input c.args.item c.pass-in-PublishOn.result c.pass-in-PublishOn.ensures.passed)

pub returns-in-Window-clause-passed : goal.returns-in-Window-clause-passed
returns-in-Window-clause-passed g c =
    rw c.in-Window.is (passed_window (g.O.Ops.meaning c.args.ops.now) c.in-Window.node c.pass-in-Window.new.self c.args.input c.args.item c.pass-in-Window.result c.pass-in-Window.ensures.passed)

pub returns-in-FlatMap-clause-passed : goal.returns-in-FlatMap-clause-passed
returns-in-FlatMap-clause-passed g c =
    rw c.in-FlatMap.is (passed_flat_map (g.O.Ops.meaning c.args.ops.now) c.in-FlatMap.node c.pass-in-FlatMap.new.self c.args.input c.args.item c.pass-in-FlatMap.result c.pass-in-FlatMap.ensures.passed)

pub returns-in-FlatMapDelay-clause-passed : goal.returns-in-FlatMapDelay-clause-passed
returns-in-FlatMapDelay-clause-passed g c =
    rw c.in-FlatMapDelay.is (passed_flat_map_delay (g.O.Ops.meaning c.args.ops.now) c.in-FlatMapDelay.node c.pass-in-FlatMapDelay.new.self c.args.input c.args.item c.pass-in-FlatMapDelay.result c.pass-in-FlatMapDelay.ensures.passed)

pub returns-in-PublishOnEager-clause-passed : goal.returns-in-PublishOnEager-clause-passed
returns-in-PublishOnEager-clause-passed g c =
    rw c.in-PublishOnEager.is (passed_publish_on_eager (g.O.Ops.meaning c.args.ops.now) c.in-PublishOnEager.node c.pass-in-PublishOnEager.new.self c.args.input c.args.item c.pass-in-PublishOnEager.result c.pass-in-PublishOnEager.ensures.passed)

pub returns-in-GroupBy-clause-passed : goal.returns-in-GroupBy-clause-passed
returns-in-GroupBy-clause-passed g c =
    rw c.in-GroupBy.is (passed_group_by (g.O.Ops.meaning c.args.ops.now) c.in-GroupBy.node c.pass-in-GroupBy.new.self c.args.input c.args.item c.pass-in-GroupBy.result c.pass-in-GroupBy.ensures.passed)
