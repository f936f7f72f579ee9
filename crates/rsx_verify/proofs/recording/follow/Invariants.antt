use Rattle.std.proofs.Common.{◌≡◌, take}
use Rattle.rsx_verify.specs.Prelude.{IsFollowedTo, state_of}
use Rattle.rsx_verify.proofs.recording.follow.Given as goal

-- the first acts were done and are recorded
abbrev pub invariant-loop-act : goal.invariant-loop-act
invariant-loop-act g l = record {
  ops : l.recording.graph.ops ≡ l.fn.begun.graph.ops;
  region : l.recording.region ≡ l.fn.begun.region;
  run : IsFollowedTo (g.O.Ops.meaning l.fn.begun.graph.ops) l.fn.begun.region (state_of l.fn.begun.graph) (take l.act-index l.fn.acts) l.fn.begun.events.items l.recording.events.items (state_of l.recording.graph);
}
