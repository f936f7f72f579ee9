use Rattle.std.proofs.Common.{◌≡◌}
use Rattle.std.proofs.Math.ListN.{replicate}
use Rattle.rsx_types.specs.declared.signal.Ending.TheVariants.{Open}
use Rattle.rsx_merging.proofs.concat_node.ConcatNode.new.Given as goal

abbrev pub invariant-loop : goal.invariant-loop
invariant-loop g l = l.endings.items ≡ replicate l.counter Open
