use Rattle.std.proofs.Common.{◌∙◌, ap, sym}
use Rattle.rsx_grouping.specs.Rows.{is_told}
use Rattle.rsx_grouping.proofs.MayWait.{set_beside, set_quiet}
use Rattle.rsx_grouping.proofs.table.may_wait_beside.Goals as goal
use Rattle.rsx_grouping.proofs.table.may_wait_beside.Goals.{then-is_only-via-then-is_only, then-is_only-via-else-is_only+then-are_told_quiet}

pub returns-then-is_only : goal.returns-then-is_only
returns-then-is_only g c row = elim c.then-is_only.branch [
  | then-is_only-via-then-is_only w ↦ set_beside c.args.rows.now c.args.at row (ap (λ m. is_told m c.args.rows.now) (sym (c.is_only.ensures w.if-is_only.true)) ∙ c.requires)
  | then-is_only-via-else-is_only+then-are_told_quiet w ↦ set_quiet c.args.rows.now c.args.at row (sym w.are_told_quiet.ensures ∙ w.if-are_told_quiet.true)
]
