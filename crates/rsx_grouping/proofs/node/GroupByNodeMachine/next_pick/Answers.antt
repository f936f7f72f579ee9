use Rattle.std.proofs.Common.{◌≡◌, ◌∙◌, sym, subst, true}
use Rattle.rsx_grouping.specs.Rows.{can_pick_at}
use Rattle.std.specs.Prelude.{slice_get}
use Rattle.rsx_grouping.proofs.Chosen.{lane_picks}
use Rattle.rsx_grouping.proofs.node.GroupByNodeMachine.next_pick.Goals as goal

pub returns-in-Some-clause-some : goal.returns-in-Some-clause-some
returns-in-Some-clause-some g c =
    lane_picks c.args.self.now c.in-Some.at c.args.asked c.args.sent (sym c.is_empty-is_free.ensures ∙ c.if-not-is_free.false) c.len-count.ensures.small
    (subst (λ d. can_pick_at (slice_get c.args.self.now.table c.in-Some.at) d c.args.asked c.args.sent ≡ true) c.is_done.ensures c.in-Some.ensures.some)
