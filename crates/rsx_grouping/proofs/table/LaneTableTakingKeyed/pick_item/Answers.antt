use Rattle.std.proofs.Common.{◌<◌, ◌^◌, ◌∙◌, ap, sym, length, arith}
use Rattle.rsx_grouping.specs.Rows.{are_quiet_beside, is_told}
use Rattle.rsx_grouping.specs.declared.table.KeyedLane.{KeyedLane}
use Rattle.rsx_grouping.proofs.MayWait.{set_beside}
use Rattle.rsx_grouping.proofs.Tables.{kept_at, picked_there}
use Rattle.rsx_grouping.proofs.table.LaneTableTakingKeyed.pick_item.Goals as goal

pub may_wait_at-self-inside-requires : goal.may_wait_at-self-inside-requires
may_wait_at-self-inside-requires g c =
    let rows = c.self.inside.rows.items in
    let row : KeyedLane g.row.T.Denot = record { key = c.index_mut-row.result.now.key; lane = c.pick_item.new.self } in
    ap (are_quiet_beside c.in-At.at) c.as_slice.ensures.value ∙ set_beside rows c.in-At.at row (ap (λ m. is_told m rows) (sym c.in-At.is) ∙ c.self.invariant.2)

pub invariant_of-self : goal.invariant_of-self
invariant_of-self g c =
    let kept = kept_at c.self.inside.keys c.self.inside.rows.items c.in-At.at c.index_mut-row.result.now c.pick_item.new.self (c.self.invariant.0, c.self.invariant.1) c.index_mut-row.ensures.value in
    (kept.0, kept.1, ap (is_told c.may_wait_at-self-inside.result) (sym c.as_slice.ensures.value) ∙ c.may_wait_at-self-inside.ensures)

pub returns-in-Some-clause-some : goal.returns-in-Some-clause-some
returns-in-Some-clause-some g c =
    let rows = c.self.inside.rows.items in
    let within : c.in-At.at < length rows = omega arith in
    let few : length rows < 2 ^ 64 = omega arith in
    picked_there (g.O.Ops.meaning c.args.ops.now) c.args.self.now rows c.in-At.at c.index_mut-row.result.now c.args.choices.now c.pick_item.new.choices c.in-Some.item c.pick_item.new.self c.self.view_is within few c.index_mut-row.ensures.value c.in-Some.ensures.item c.in-Some.ensures.choice
