use Rattle.std.proofs.Common.{ap, ◌∙◌}
use Rattle.rsx_graph.specs.InGraph.{state_of}
use Rattle.rsx_verify.proofs.Leading.{begun_from}
use Rattle.rsx_verify.proofs.Placed.{begun_region}
use Rattle.rsx_verify.proofs.recording.Recording.begin.Goals as goal

pub returns-clause-begun : goal.returns-clause-begun
returns-clause-begun g c =
    begun_from (g.O.Ops.meaning c.args.ops) (g.O.Ops.meaning c.in_ok-graph.graph.ops) c.args.expr.now (state_of c.in_ok-graph.graph) (state_of c.subscribe.new.self) (ap g.O.Ops.meaning c.in_ok-graph.ensures.ops) c.in_ok-graph.ensures.empty c.in_ok-subscribe.ensures.effect c.in_ok-graph.ensures.stands c.in_ok-subscribe.ensures.stands

pub returns-clause-region : goal.returns-clause-region
returns-clause-region g c =
    begun_region (g.O.Ops.meaning c.args.ops) (g.O.Ops.meaning c.subscribe.new.self.ops) c.args.expr.now (state_of c.subscribe.new.self) c.in_ok-region.region (ap g.O.Ops.meaning (c.subscribe.ensures.ops ∙ c.in_ok-graph.ensures.ops)) (returns-clause-begun g c) c.in_ok-region.ensures.region
