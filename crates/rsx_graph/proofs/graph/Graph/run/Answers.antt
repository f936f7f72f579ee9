use Rattle.std.proofs.Common.{◌≡◌, ◌∷◌, [], length, ap, refl, ◌∙◌, append_assoc, arith, length-append}
use Rattle.std.specs.Vec.Iter.{into_iter_items}
use Rattle.rsx_graph.proofs.Runs.{run_all, run_more, run_none}
use Rattle.rsx_graph.specs.InGraph.{state_of}
use Rattle.rsx_graph.proofs.graph.Graph.run.Goals as goal

pub loop-step-init : goal.loop-step-init
loop-step-init g c = record {
  ops = refl;
  order = c.into_iter-step-iterator.ensures.into_iter_gives.0;
  count = ap length c.in-Ok.ensures.items;
  room = omega (arith, c.in-Ok.ensures.exact, c.len.ensures, c.args.steps.ok.0);
  run = run_none (g.O.Ops.meaning c.args.self.now.ops) (g.O.Ops.allocates c.args.self.now.ops) (state_of c.args.self.now) c.in-Ok.answers.items c.in-Ok.ensures.items;
}

pub push_reserved-requires : goal.push_reserved-requires
push_reserved-requires g c =
    let i = c.loop-step.invariant in
    let next = ap length c.in-Some.ensures.steps.0 in
    let all = ap length i.order in
    let parts = length-append c.loop-step.yielded (into_iter_items c.loop-step.step-iterator) in
    omega (arith, i.count, i.room, next, all, parts)

pub loop-step-preserved : goal.loop-step-preserved
loop-step-preserved g c =
    let i = c.loop-step.invariant in
    let s = c.in-Some.step in
    let next : into_iter_items c.loop-step.step-iterator ≡ s ∷ into_iter_items c.next.new.self = c.in-Some.ensures.steps.0 in
    let pushed = c.push_reserved.ensures.items in
    let meaning = g.O.Ops.meaning in
    let allocates = g.O.Ops.allocates in
    record {
      ops = c.step-answer.ensures.ops ∙ i.ops;
      order = append_assoc c.loop-step.yielded (s ∷ []) _ ∙ rw (← next) i.order;
      count = omega (arith, i.count, ap length pushed, length-append c.loop-step.answers.items (c.step-answer.result ∷ []), length-append c.loop-step.yielded (s ∷ []));
      room = c.push_reserved.ensures.capacity ∙ i.room;
      run = run_more (meaning c.args.self.now.ops) (meaning c.loop-step.self.ops) (allocates c.args.self.now.ops) (allocates c.loop-step.self.ops) c.loop-step.yielded s (state_of c.args.self.now) (state_of c.loop-step.self) (state_of c.step-answer.new.self) c.loop-step.answers.items c.push_reserved.new.self.items c.step-answer.result
          (ap meaning i.ops) (ap allocates i.ops) pushed i.run c.step-answer.ensures.stands c.step-answer.ensures.belongs c.step-answer.ensures.done;
    }

pub returns-clause-ran : goal.returns-clause-ran
returns-clause-ran g c =
    let i = c.loop-step.invariant in
    let none : length (into_iter_items c.loop-step.step-iterator) ≡ 0 = omega (arith, c.in-None.ensures.steps.0, c.loop-step.step-iterator.rest.ok.0) in
    run_all (g.O.Ops.meaning c.args.self.now.ops) (g.O.Ops.allocates c.args.self.now.ops) c.args.steps.items c.loop-step.yielded (into_iter_items c.loop-step.step-iterator) (state_of c.args.self.now) (state_of c.loop-step.self) c.loop-step.answers.items i.order none i.run
