use Rattle.std.proofs.Common.{◌≡◌, length, reverse, drop, vec_capacity, ◌+◌, vec_len}
use Rattle.rsx_sources.proofs.items.ItemsNode.new.Given as goal

abbrev pub invariant-loop-at : goal.invariant-loop-at
invariant-loop-at g l = record {
  copied : l.reversed.items ≡ reverse (drop l.at l.items);
  room : vec_capacity l.reversed ≡ length l.items;
  counted : vec_len l.reversed + l.at ≡ length l.items;
}
