use Rattle.std.proofs.Common.{take}
use Rattle.rsx_tck.specs.Passes.{KeepsThrough}
use Rattle.rsx_tck.proofs.pass.first_breach.Given as goal

-- the state tells of the events read, each of which left the sentence kept
abbrev pub invariant-loop-position : goal.invariant-loop-position
invariant-loop-position g l = record {
  knows : g.P.Pass.knows l.pass l.subscriber (take l.position l.trace);
  kept : g.P.Pass.keeps l.subscriber (take l.position l.trace);
  through : KeepsThrough (g.P.Pass.keeps l.subscriber) l.trace l.position;
}
