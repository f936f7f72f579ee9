use Rattle.std.proofs.Common.{refl}
use Rattle.rsx_region.proofs.Serves.{after_then, same_then, served_more, served_none, served_same}
use Rattle.rsx_region.proofs.part_steps.serve.Goals as goal

pub loop-made-init : goal.loop-made-init
loop-made-init g c = record {
  end = (c.requires.end, refl, refl);
  step = c.requires.step;
  after = λ dead. (refl, refl);
  served = served_none g.N.Machine (g.O.Ops.meaning c.args.ops.now) c.args.part.now c.args.up.now;
  stands = λ taken old queued h. h;
  inlets = λ taken i h. h;
}

pub loop-made-preserved : goal.loop-made-preserved
loop-made-preserved g c =
    let i = c.loop-made.invariant in
    let s = c.in-Ok-true.ensures in record {
      end = same_then c.args.link.now c.args.up.now c.loop-made.up c.step.new.up i.end s.end;
      step = s.step;
      after = after_then c.args.part.now c.loop-made.part c.step.new.part c.args.up.now c.loop-made.up c.step.new.up i.after s.after;
      served = served_more g.N.Machine (g.O.Ops.meaning c.args.ops.now) c.loop-made.made c.args.part.now c.args.up.now c.loop-made.part c.step.new.part c.loop-made.up c.step.new.up i.served (s.made c.in-Ok-true.field-0-test);
      stands = λ taken old queued h. s.stands taken old queued (i.stands taken old queued h);
      inlets = λ taken j h. s.inlets taken j (i.inlets taken j h);
    }

pub returns-in-Ok-false-clause-end : goal.returns-in-Ok-false-clause-end
returns-in-Ok-false-clause-end g c = same_then c.args.link.now c.args.up.now c.loop-made.up c.step.new.up c.loop-made.invariant.end c.in-Ok-false.ensures.end

pub returns-in-Ok-false-clause-served : goal.returns-in-Ok-false-clause-served
returns-in-Ok-false-clause-served g c =
    let still = c.in-Ok-false.ensures.still c.in-Ok-false.field-0-test in
    served_same g.N.Machine (g.O.Ops.meaning c.args.ops.now) c.loop-made.made c.args.part.now c.args.up.now c.loop-made.part c.step.new.part c.loop-made.up c.step.new.up still.0 still.1 c.loop-made.invariant.served

pub returns-in-Ok-false-clause-idle : goal.returns-in-Ok-false-clause-idle
returns-in-Ok-false-clause-idle g c _ = (c.in-Ok-false.ensures.still c.in-Ok-false.field-0-test).2

pub returns-in-Ok-false-clause-stands : goal.returns-in-Ok-false-clause-stands
returns-in-Ok-false-clause-stands g c taken old queued h = c.in-Ok-false.ensures.stands taken old queued (c.loop-made.invariant.stands taken old queued h)

pub returns-in-Ok-false-clause-inlets : goal.returns-in-Ok-false-clause-inlets
returns-in-Ok-false-clause-inlets g c taken i h = c.in-Ok-false.ensures.inlets taken i (c.loop-made.invariant.inlets taken i h)

pub returns-in-Err-clause-end : goal.returns-in-Err-clause-end
returns-in-Err-clause-end g c = same_then c.args.link.now c.args.up.now c.loop-made.up c.step.new.up c.loop-made.invariant.end c.in-Err.ensures.end

pub returns-in-Err-clause-stands : goal.returns-in-Err-clause-stands
returns-in-Err-clause-stands g c taken old queued h = c.in-Err.ensures.stands taken old queued (c.loop-made.invariant.stands taken old queued h)

pub returns-in-Err-clause-inlets : goal.returns-in-Err-clause-inlets
returns-in-Err-clause-inlets g c taken i h = c.in-Err.ensures.inlets taken i (c.loop-made.invariant.inlets taken i h)

pub returns-in-Ok-false-clause-after : goal.returns-in-Ok-false-clause-after
returns-in-Ok-false-clause-after g c = after_then c.args.part.now c.loop-made.part c.step.new.part c.args.up.now c.loop-made.up c.step.new.up c.loop-made.invariant.after c.step.ensures.after

pub returns-in-Err-clause-after : goal.returns-in-Err-clause-after
returns-in-Err-clause-after g c = after_then c.args.part.now c.loop-made.part c.step.new.part c.args.up.now c.loop-made.up c.step.new.up c.loop-made.invariant.after c.step.ensures.after

pub returns-clause-after : goal.returns-clause-after
returns-clause-after g c = c.loop-made.invariant.after
