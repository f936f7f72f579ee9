use Rattle.std.proofs.Common.{ap, refl, ◌∙◌, arith}
use Rattle.rsx_graph.specs.InGraph.{state_of}
use Rattle.rsx_verify.proofs.Leading.{followed_all, followed_more, followed_none}
use Rattle.rsx_verify.proofs.recording.follow.Goals as goal

pub loop-act-init : goal.loop-act-init
loop-act-init g c = record {
  ops = refl;
  region = refl;
  run = followed_none (g.O.Ops.meaning c.args.begun.graph.ops) c.args.begun.region (state_of c.args.begun.graph) c.args.begun.events.items;
}

pub loop-act-preserved : goal.loop-act-preserved
loop-act-preserved g c =
    let i = c.loop-act.invariant in
    record {
      ops = c.in_ok-act.ensures.ops ∙ i.ops;
      region = c.in_ok-act.ensures.region ∙ i.region;
      run = followed_more (g.O.Ops.meaning c.args.begun.graph.ops) (g.O.Ops.meaning c.loop-act.recording.graph.ops) c.args.begun.region c.loop-act.recording.region (state_of c.args.begun.graph) c.args.acts.now c.loop-act.act-index _ c.args.begun.events.items c.loop-act.recording.events.items c.act.new.self.events.items (state_of c.loop-act.recording.graph) (state_of c.act.new.self.graph)
          (ap g.O.Ops.meaning i.ops) i.region (omega (arith, c.loop-act-test.true)) i.run c.in_ok-act.ensures.acted;
    }

pub returns-clause-followed : goal.returns-clause-followed
returns-clause-followed g c = followed_all (g.O.Ops.meaning c.args.begun.graph.ops) c.args.begun.region (state_of c.args.begun.graph) c.args.acts.now c.loop-act.act-index c.args.begun.events.items c.loop-act.recording.events.items (state_of c.loop-act.recording.graph) (omega (arith, c.loop-act-test.false)) c.loop-act.invariant.run
