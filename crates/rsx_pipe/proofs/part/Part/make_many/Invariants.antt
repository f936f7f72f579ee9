use Rattle.rsx_pipe.specs.Many.{IsMadeTimes}
use Rattle.rsx_pipe.proofs.part.Part.make_many.Given as goal

abbrev pub invariant-loop-made : goal.invariant-loop-made
invariant-loop-made g l = IsMadeTimes g.N.Machine g.S.Sink (g.O.Ops.meaning l.ops) l.fn.step l.made l.fn.self l.fn.out l.self l.out
