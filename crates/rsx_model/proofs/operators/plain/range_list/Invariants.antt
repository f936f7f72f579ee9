use Rattle.std.proofs.Common.{◌≡◌}
use Rattle.rsx_types.specs.Plain.{range_items}
use Rattle.rsx_model.proofs.operators.plain.range_list.Given as goal

abbrev pub invariant-loop-k : goal.invariant-loop-k
invariant-loop-k g l = l.out.items ≡ range_items (g.O.Ops.meaning l.ops) l.first l.k
