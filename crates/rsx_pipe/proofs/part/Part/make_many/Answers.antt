use Rattle.rsx_pipe.proofs.Times.{times_none, times_on}
use Rattle.rsx_pipe.proofs.part.Part.make_many.Goals as goal

pub loop-made-init : goal.loop-made-init
loop-made-init g c = times_none g.N.Machine g.S.Sink (g.O.Ops.meaning c.args.ops.now) c.args.step c.args.self.now c.args.out.now

pub loop-made-preserved : goal.loop-made-preserved
loop-made-preserved g c =
    times_on g.N.Machine g.S.Sink (g.O.Ops.meaning c.args.ops.now) c.args.step c.loop-made.made c.args.self.now c.loop-made.self c.make.new.self c.args.out.now c.loop-made.out c.make.new.out c.loop-made.invariant c.in-Ok.ensures.enabled c.in-Ok.ensures.made
