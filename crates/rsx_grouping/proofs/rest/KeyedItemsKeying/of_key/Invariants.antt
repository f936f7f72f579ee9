use Rattle.std.proofs.Common.{◌≡◌, ◌++◌, drop}
use Rattle.rsx_values.specs.Group.{items_of_key}
use Rattle.rsx_grouping.proofs.rest.KeyedItemsKeying.of_key.Given as goal

abbrev pub invariant-loop-pair : goal.invariant-loop-pair
invariant-loop-pair g l = l.items.items ++ items_of_key l.key (drop l.pair-index l.self.items.items) ≡ items_of_key l.key l.self.items.items
