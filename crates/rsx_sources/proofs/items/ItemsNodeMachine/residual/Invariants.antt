use Rattle.std.proofs.Common.{◌≡◌, length, reverse, drop, vec_capacity, ◌+◌, vec_len}
use Rattle.rsx_sources.proofs.items.ItemsNodeMachine.residual.Given as goal

abbrev pub invariant-loop-at : goal.invariant-loop-at
invariant-loop-at g l = record {
  copied : l.left.items ≡ reverse (drop l.at l.reversed);
  room : vec_capacity l.left ≡ length l.reversed;
  counted : vec_len l.left + l.at ≡ length l.reversed;
}
