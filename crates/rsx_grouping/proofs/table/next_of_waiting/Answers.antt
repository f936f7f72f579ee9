use Rattle.std.proofs.Common.{◌∙◌, ap, sym}
use Rattle.rsx_grouping.specs.Rows.{is_told}
use Rattle.rsx_grouping.proofs.MayWait.{none_beside, none_picked}
use Rattle.rsx_grouping.proofs.table.next_of_waiting.Goals as goal

pub returns-in-Nowhere-clause-none : goal.returns-in-Nowhere-clause-none
returns-in-Nowhere-clause-none g c = none_picked c.args.rows.now c.args.asked c.args.sent (ap (λ m. is_told m c.args.rows.now) (sym c.in-Nowhere.is) ∙ c.requires)

pub returns-in-false-clause-none : goal.returns-in-false-clause-none
returns-in-false-clause-none g c = none_beside c.args.rows.now c.in-At.at c.args.asked c.args.sent (ap (λ m. is_told m c.args.rows.now) (sym c.in-At.is) ∙ c.requires) (sym c.can_pick_at.ensures ∙ c.in-false.is)
