use Rattle.std.proofs.Common.{ap, ◌∙◌}
use Rattle.rsx_graph.specs.InGraph.{state_of}
use Rattle.rsx_verify.proofs.Leading.{processing_from}
use Rattle.rsx_verify.proofs.Placed.{processing_region}
use Rattle.rsx_verify.proofs.recording.Recording.begin_processor.Goals as goal

pub returns-clause-begun : goal.returns-clause-begun
returns-clause-begun g c =
    let meaning = g.O.Ops.meaning in
    processing_from (meaning c.args.ops) (meaning c.in_ok-graph.graph.ops) (meaning c.feed_hub.new.self.ops) (meaning c.subscribe.new.self.ops) c.args.expr.now (state_of c.in_ok-graph.graph) (state_of c.feed_hub.new.self) (state_of c.subscribe.new.self) (state_of c.subscribe-2.new.self)
    (ap meaning c.in_ok-graph.ensures.ops) (ap meaning c.feed_hub.ensures.ops) (ap meaning c.subscribe.ensures.ops) c.in_ok-graph.ensures.empty c.in_ok-graph.ensures.stands
    c.in_ok-feed_hub.ensures.stands c.in_ok-feed_hub.ensures.effect c.feed_hub.ensures.subscriptions
    c.in-Ok.ensures.stands c.in-Ok.ensures.effect c.in-Ok.ensures.joined c.subscribe.ensures.feeds
    c.in-Ok-subscribe.ensures.stands c.in-Ok-subscribe.ensures.effect c.in-Ok-subscribe.ensures.joined c.subscribe-2.ensures.feeds

pub returns-clause-region : goal.returns-clause-region
returns-clause-region g c =
    let meaning = g.O.Ops.meaning in
    processing_region (meaning c.args.ops) (meaning c.subscribe-2.new.self.ops) c.args.expr.now (state_of c.subscribe-2.new.self) c.in_ok-region.region
    (ap meaning (c.subscribe-2.ensures.ops ∙ (c.subscribe.ensures.ops ∙ (c.feed_hub.ensures.ops ∙ c.in_ok-graph.ensures.ops)))) (returns-clause-begun g c) c.in_ok-region.ensures.region
