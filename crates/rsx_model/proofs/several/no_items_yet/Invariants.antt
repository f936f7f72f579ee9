use Rattle.std.proofs.Common.{◌≡◌, ◌++◌, drop}
use Rattle.rsx_values.specs.Latest.{none_yet}
use Rattle.rsx_model.proofs.several.no_items_yet.Given as goal

abbrev pub invariant-loop-value : goal.invariant-loop-value
invariant-loop-value g l = l.latest.items ++ none_yet (drop l._value-index l.values) ≡ none_yet l.values
