use Rattle.std.proofs.Common.{ap}
use Rattle.rsx_graph.proofs.Runs.{replayed}
use Rattle.rsx_graph.specs.InGraph.{state_of}
use Rattle.rsx_graph.proofs.replays.replay.Goals as goal

pub returns-in-Ok-run-clause-replayed : goal.returns-in-Ok-run-clause-replayed
returns-in-Ok-run-clause-replayed g c =
    replayed (g.O.Ops.meaning c.args.ops) (g.O.Ops.meaning c.in-Ok.graph.ops) (g.O.Ops.allocates c.args.ops) (g.O.Ops.allocates c.in-Ok.graph.ops) c.args.steps.items c.in-Ok-run.answers.items (state_of c.in-Ok.graph) (state_of c.run.new.self)
    (ap g.O.Ops.meaning c.in-Ok.ensures.ops) (ap g.O.Ops.allocates c.in-Ok.ensures.ops) c.in-Ok.ensures.empty c.in-Ok-run.ensures.ran
