use Rattle.std.proofs.Common.{◌≡◌, ◌++◌, ◌-◌}
use Rattle.rsx_values.specs.Zip.{items_of, rows}
use Rattle.rsx_values.proofs.JoiningPlaces.{dropped}
use Rattle.rsx_values.proofs.rows.VecStreamValueZip.rows.Given as goal

abbrev pub invariant-loop-at : goal.invariant-loop-at
invariant-loop-at g l =
    let row = (g.O.Ops.meaning l.ops).row_of in
    l.out.items ++ rows row (l.count - l.at) (dropped l.at (items_of l.self.items)) ≡ rows row l.count (items_of l.self.items)
