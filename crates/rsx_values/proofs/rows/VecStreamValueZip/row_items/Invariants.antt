use Rattle.std.proofs.Common.{◌≡◌, ◌++◌, drop}
use Rattle.rsx_values.specs.Zip.{items_of}
use Rattle.rsx_values.specs.Rows.{at_each}
use Rattle.rsx_values.proofs.rows.VecStreamValueZip.row_items.Given as goal

abbrev pub invariant-loop-value : goal.invariant-loop-value
invariant-loop-value g l = l.items.items ++ at_each l.at (items_of (drop l.value-index l.self.items)) ≡ at_each l.at (items_of l.self.items)
