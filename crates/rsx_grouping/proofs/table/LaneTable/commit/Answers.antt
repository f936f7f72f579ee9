use Rattle.std.proofs.Common.{◌∙◌, ap, slice_set, sym}
use Rattle.rsx_grouping.specs.Rows.{is_told}
use Rattle.rsx_grouping.proofs.Tables.{commits, kept_at}
use Rattle.rsx_grouping.specs.declared.table.KeyedLane.{KeyedLane}
use Rattle.rsx_grouping.proofs.table.LaneTable.commit.Goals as goal

pub returns : goal.returns
returns g c = commits c.args.self.now c.self.inside.rows.items c.args.at c.index_mut.result.now c.args.lane c.commit.new.self c.self.view_is c.index_mut.ensures.value c.commit.ensures

pub invariant_of-self : goal.invariant_of-self
invariant_of-self g c =
    let rows = c.self.inside.rows.items in
    let row : KeyedLane g.row.T.Denot = record { key = c.index_mut.result.now.key; lane = c.commit.new.self } in
    let kept = kept_at c.self.inside.keys rows c.args.at c.index_mut.result.now c.commit.new.self (c.self.invariant.0, c.self.invariant.1) c.index_mut.ensures.value in
    (kept.0, kept.1, ap (λ ls. is_told c.may_wait_beside-self-inside.result (slice_set ls c.args.at row)) (sym c.as_slice.ensures.value) ∙ c.may_wait_beside-self-inside.ensures row)
