use Rattle.std.proofs.lemmas.Result.{IfOk-weaker}
use Rattle.rsx_kinds.proofs.Dispatch.{counted_items, counted_range, counted_hub, popped_items, popped_range, popped_hub}
use Rattle.rsx_kinds.proofs.source_node.SourceNodeMachine.pop_front.Goals as goal

pub returns-in-Items-clause-ok : goal.returns-in-Items-clause-ok
returns-in-Items-clause-ok g c =
    rw c.in-Items.is (IfOk-weaker c.pop_front.result _ _ (λ s. popped_items (g.O.Ops.meaning c.args.ops.now) c.in-Items.node c.pop_front.new.self s) c.pop_front.ensures.ok)

pub returns-in-Range-clause-ok : goal.returns-in-Range-clause-ok
returns-in-Range-clause-ok g c =
    rw c.in-Range.is (IfOk-weaker c.pop_front-in-Range.result _ _ (λ s. popped_range (g.O.Ops.meaning c.args.ops.now) c.in-Range.node c.pop_front-in-Range.new.self s) c.pop_front-in-Range.ensures.ok)

pub returns-in-Hub-clause-ok : goal.returns-in-Hub-clause-ok
returns-in-Hub-clause-ok g c =
    rw c.in-Hub.is (IfOk-weaker c.pop_front-in-Hub.result _ _ (λ s. popped_hub (g.O.Ops.meaning c.args.ops.now) c.in-Hub.node c.pop_front-in-Hub.new.self s) c.pop_front-in-Hub.ensures.ok)

pub returns-in-Items-clause-counts : goal.returns-in-Items-clause-counts
returns-in-Items-clause-counts g c = rw c.in-Items.is (IfOk-weaker c.pop_front.result _ _ (λ s h. counted_items c.in-Items.node c.pop_front.new.self s) c.pop_front.ensures.ok)

pub returns-in-Range-clause-counts : goal.returns-in-Range-clause-counts
returns-in-Range-clause-counts g c = rw c.in-Range.is (IfOk-weaker c.pop_front-in-Range.result _ _ (λ s h. counted_range c.in-Range.node c.pop_front-in-Range.new.self s) c.pop_front-in-Range.ensures.ok)

pub returns-in-Hub-clause-counts : goal.returns-in-Hub-clause-counts
returns-in-Hub-clause-counts g c =
    rw c.in-Hub.is (IfOk-weaker c.pop_front-in-Hub.result _ _ (λ s. counted_hub c.in-Hub.node c.pop_front-in-Hub.new.self s) c.pop_front-in-Hub.ensures.counts)
