use Rattle.rsx_kinds.proofs.Made.{plain_over}
use Rattle.rsx_kinds.proofs.trees.build_plain.Goals as goal

pub returns : goal.returns
returns g c =
    plain_over c.args.stage.now c.args.below c.in_ok-row.row c.plain.result c.over.result c.in_ok-row.ensures c.plain.ensures (rw c.is_over_at_once.ensures at c.over.ensures)
