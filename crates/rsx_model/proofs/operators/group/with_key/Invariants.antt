use Rattle.std.proofs.Common.{◌≡◌, ◌++◌, drop}
use Rattle.rsx_values.specs.Group.{items_of_key}
use Rattle.rsx_model.proofs.operators.group.with_key.Given as goal

abbrev pub invariant-loop-pair : goal.invariant-loop-pair
invariant-loop-pair g l = l.items.items ++ items_of_key l.key (drop l.pair-index l.keyed) ≡ items_of_key l.key l.keyed
