use Rattle.std.proofs.Common.{◌≡◌, drop}
use Rattle.rsx_delayed.proofs.FlatLeft.{behind_items}
use Rattle.rsx_values.specs.Delayed.{merge_delayed_inputs}
use Rattle.rsx_delayed.proofs.flat.merge_delayed_lanes.Given as goal

abbrev pub invariant-loop-choice : goal.invariant-loop-choice
invariant-loop-choice g l = behind_items l.items.items (merge_delayed_inputs l.first (drop l.choice-index l.choices) l.lanes) ≡ merge_delayed_inputs l.fn.kept l.choices l.fn.lanes
