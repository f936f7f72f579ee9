use Rattle.std.proofs.Common.{◌+◌, ◌≤◌, reverse}
use Rattle.std.specs.Vec.{vec_len, vec_capacity}
use Rattle.rsx_plain.specs.declared.state.PlainState.TheVariants.{Buffer as BufferFrom}
use Rattle.rsx_plain.proofs.Batches.{IsOnTheWay}
use Rattle.rsx_plain.proofs.batch.VecAllThrough.buffer_all.Given as goal

abbrev pub invariant-loop-item : goal.invariant-loop-item
invariant-loop-item g l =
    IsOnTheWay (g.O.Ops.meaning l.ops) (BufferFrom l.size l.fn.gathered) l.fn.self.items (BufferFrom l.size l.gathered) (reverse l.self.items) l.spare.items
    × (vec_len l.spare + vec_len l.self ≤ vec_capacity l.spare)

abbrev pub decreases-loop-item : goal.decreases-loop-item
decreases-loop-item g l = vec_len l.self
