use Rattle.std.proofs.Common.{◌+◌, pos, arith}
use Rattle.std.proofs.lemmas.Int.{ints}
use Rattle.std.proofs.lemmas.Grind.{common_steps}
use Rattle.std.proofs.lemmas.List.FromFn.{map-range_with_len_more}
use Rattle.rsx_demo.specs.declared.val.Val.TheVariants as is
use Rattle.rsx_demo.proofs.demo.counting.Goals as goal

pub loop-k-preserved : goal.loop-k-preserved
loop-k-preserved c = let more = map-range_with_len_more (λ k. is.Int (pos (k + 1))) 0 c.loop-k.k c.loop-k.k (omega arith) in grind (arith, ints, common_steps, more, c.in_ok-push.ensures.items)
