use Rattle.std.proofs.lemmas.Result.{IfOk-weaker}
use Rattle.rsx_kinds.specs.Prelude.{eager_popping, eager_waiting}
use Rattle.rsx_kinds.proofs.Dispatch.{popped_source, popped_several, popped_publish_on, popped_window, popped_flat_map, popped_flat_map_delay, popped_publish_on_eager, popped_group_by, counted_source, counted_several, counted_publish_on, counted_window, counted_flat_map, counted_flat_map_delay, counted_publish_on_eager, counted_group_by}
use Rattle.rsx_kinds.proofs.any_node.AnyNodeMachine.pop_front.Goals as goal

pub returns-in-Source-clause-ok : goal.returns-in-Source-clause-ok
returns-in-Source-clause-ok g c =
    rw c.in-Source.is (IfOk-weaker c.pop_front.result _ _ (λ s. popped_source (g.O.Ops.meaning c.args.ops.now) c.in-Source.node c.pop_front.new.self s) c.pop_front.ensures.ok)

pub returns-in-Source-clause-counts : goal.returns-in-Source-clause-counts
returns-in-Source-clause-counts g c =
    rw c.in-Source.is (IfOk-weaker c.pop_front.result _ _ (λ s. counted_source c.in-Source.node c.pop_front.new.self s) c.pop_front.ensures.counts)

pub returns-in-Several-clause-ok : goal.returns-in-Several-clause-ok
returns-in-Several-clause-ok g c =
    rw c.in-Several.is (IfOk-weaker c.pop_front-in-Several.result _ _ (λ s. popped_several (g.O.Ops.meaning c.args.ops.now) c.in-Several.node c.pop_front-in-Several.new.self s) c.pop_front-in-Several.ensures.ok)

pub returns-in-Several-clause-counts : goal.returns-in-Several-clause-counts
returns-in-Several-clause-counts g c =
    rw c.in-Several.is (IfOk-weaker c.pop_front-in-Several.result _ _ (λ s. counted_several c.in-Several.node c.pop_front-in-Several.new.self s) c.pop_front-in-Several.ensures.counts)

pub returns-in-PublishOn-clause-ok : goal.returns-in-PublishOn-clause-ok
returns-in-PublishOn-clause-ok g c =
    rw c.in-PublishOn.is (IfOk-weaker c.pop_front-in-PublishOn.result _ _ (λ s. popped_publish_on (g.O.Ops.meaning c.args.ops.now) c.in-PublishOn.node c.pop_front-in-PublishOn.new.self s) c.pop_front-in-PublishOn.ensures.ok)

pub returns-in-PublishOn-clause-counts : goal.returns-in-PublishOn-clause-counts
returns-in-PublishOn-clause-counts g c =
    rw c.in-PublishOn.is (IfOk-weaker c.pop_front-in-PublishOn.result _ _ (λ s. counted_publish_on c.in-PublishOn.node c.pop_front-in-PublishOn.new.self s) c.pop_front-in-PublishOn.ensures.counts)

pub returns-in-Window-clause-ok : goal.returns-in-Window-clause-ok
returns-in-Window-clause-ok g c =
    rw c.in-Window.is (IfOk-weaker c.pop_front-in-Window.result _ _ (λ s. popped_window (g.O.Ops.meaning c.args.ops.now) c.in-Window.node c.pop_front-in-Window.new.self s) c.pop_front-in-Window.ensures.ok)

pub returns-in-Window-clause-counts : goal.returns-in-Window-clause-counts
returns-in-Window-clause-counts g c =
    rw c.in-Window.is (IfOk-weaker c.pop_front-in-Window.result _ _ (λ s. counted_window c.in-Window.node c.pop_front-in-Window.new.self s) c.pop_front-in-Window.ensures.counts)

pub returns-in-FlatMap-clause-ok : goal.returns-in-FlatMap-clause-ok
returns-in-FlatMap-clause-ok g c =
    rw c.in-FlatMap.is (IfOk-weaker c.pop_front-in-FlatMap.result _ _ (λ s. popped_flat_map (g.O.Ops.meaning c.args.ops.now) c.in-FlatMap.node c.pop_front-in-FlatMap.new.self s) c.pop_front-in-FlatMap.ensures.ok)

pub returns-in-FlatMapDelay-clause-ok : goal.returns-in-FlatMapDelay-clause-ok
returns-in-FlatMapDelay-clause-ok g c =
    rw c.in-FlatMapDelay.is (IfOk-weaker c.pop_front-in-FlatMapDelay.result _ _ (λ s. popped_flat_map_delay (g.O.Ops.meaning c.args.ops.now) c.in-FlatMapDelay.node c.pop_front-in-FlatMapDelay.new.self s) c.pop_front-in-FlatMapDelay.ensures.ok)

pub returns-in-PublishOnEager-clause-ok : goal.returns-in-PublishOnEager-clause-ok
returns-in-PublishOnEager-clause-ok g c =
    let m = g.O.Ops.meaning c.args.ops.now in
    let old = c.in-PublishOnEager.node in
    rw c.in-PublishOnEager.is (popped_publish_on_eager m (eager_popping old) (eager_waiting m old) old c.pop_front-in-PublishOnEager.new.self c.pop_front-in-PublishOnEager.result c.pop_front-in-PublishOnEager.ensures.ok)

pub returns-in-FlatMap-clause-counts : goal.returns-in-FlatMap-clause-counts
returns-in-FlatMap-clause-counts g c =
    rw c.in-FlatMap.is (IfOk-weaker c.pop_front-in-FlatMap.result _ _ (λ s. counted_flat_map c.in-FlatMap.node c.pop_front-in-FlatMap.new.self s) c.pop_front-in-FlatMap.ensures.counts)

pub returns-in-FlatMapDelay-clause-counts : goal.returns-in-FlatMapDelay-clause-counts
returns-in-FlatMapDelay-clause-counts g c =
    rw c.in-FlatMapDelay.is (IfOk-weaker c.pop_front-in-FlatMapDelay.result _ _ (λ s. counted_flat_map_delay c.in-FlatMapDelay.node c.pop_front-in-FlatMapDelay.new.self s) c.pop_front-in-FlatMapDelay.ensures.counts)

pub returns-in-PublishOnEager-clause-counts : goal.returns-in-PublishOnEager-clause-counts
returns-in-PublishOnEager-clause-counts g c =
    rw c.in-PublishOnEager.is (IfOk-weaker c.pop_front-in-PublishOnEager.result _ _ (λ s. counted_publish_on_eager c.in-PublishOnEager.node c.pop_front-in-PublishOnEager.new.self s) c.pop_front-in-PublishOnEager.ensures.counts)

pub returns-in-GroupBy-clause-ok : goal.returns-in-GroupBy-clause-ok
returns-in-GroupBy-clause-ok g c =
    rw c.in-GroupBy.is (IfOk-weaker c.pop_front-in-GroupBy.result _ _ (λ s. popped_group_by (g.O.Ops.meaning c.args.ops.now) c.in-GroupBy.node c.pop_front-in-GroupBy.new.self s) c.pop_front-in-GroupBy.ensures.ok)

pub returns-in-GroupBy-clause-counts : goal.returns-in-GroupBy-clause-counts
returns-in-GroupBy-clause-counts g c =
    rw c.in-GroupBy.is (IfOk-weaker c.pop_front-in-GroupBy.result _ _ (λ s. counted_group_by c.in-GroupBy.node c.pop_front-in-GroupBy.new.self s) c.pop_front-in-GroupBy.ensures.counts)
