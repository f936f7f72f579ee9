use Rattle.std.proofs.Common.{◌≡◌, ◌++◌, drop}
use Rattle.test_skip.proofs.skip.SkipProcessor.rest.Given as goal

abbrev pub invariant-loop-item : goal.invariant-loop-item
invariant-loop-item g l = l.out.items ++ drop l.left (drop l.item-index l.items) ≡ l.initial.out.items ++ drop l.initial.left l.items
