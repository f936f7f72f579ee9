use Rattle.std.proofs.Common.{◌≡◌, ◌≤◌}
use Rattle.std.specs.Vec.{vec_len, vec_capacity}
use Rattle.rsx_rooted.proofs.OneByOne.{IsComing}
use Rattle.rsx_kinds.specs.ZipRows.{IsRowOut}
use Rattle.rsx_kinds.proofs.zip_rows.ZipNodeRowsOut.rows_out.Given as goal

abbrev pub invariant-loop-made : goal.invariant-loop-made
invariant-loop-made g l =
    IsComing (IsRowOut (g.O.Ops.meaning l.ops)) l.fn.self l.self l.items.items
    × (vec_len l.items ≡ l.made) × (l.most ≤ vec_capacity l.items)
