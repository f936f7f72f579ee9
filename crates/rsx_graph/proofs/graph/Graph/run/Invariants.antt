use Rattle.std.proofs.Common.{◌≡◌, ◌++◌, length, vec_capacity}
use Rattle.std.specs.Vec.Iter.{into_iter_items}
use Rattle.rsx_graph.specs.Done.{HasRun}
use Rattle.rsx_graph.specs.InGraph.{state_of}
use Rattle.rsx_graph.proofs.graph.Graph.run.Given as goal

abbrev pub invariant-loop-step : goal.invariant-loop-step
invariant-loop-step g l = record {
  ops : l.self.ops ≡ l.fn.self.ops;
  order : l.yielded ++ into_iter_items l.step-iterator ≡ l.fn.steps.items;
  count : length l.answers.items ≡ length l.yielded;
  room : vec_capacity l.answers ≡ length l.fn.steps.items;
  run : HasRun (g.O.Ops.meaning l.fn.self.ops) (g.O.Ops.allocates l.fn.self.ops) (state_of l.fn.self) l.yielded l.answers.items (state_of l.self);
}
