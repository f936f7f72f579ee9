use Rattle.std.proofs.Common.{◌≡◌, ◌+◌, map, pos}
use Rattle.std.specs.List.{range_with_len}
use Rattle.rsx_demo.specs.declared.val.Val.TheVariants as is
use Rattle.rsx_demo.proofs.demo.counting.Given as goal

abbrev pub invariant-loop-k : goal.invariant-loop-k
invariant-loop-k l = l.out.items ≡ map (λ k. is.Int (pos (k + 1))) (range_with_len 0 l.k)
