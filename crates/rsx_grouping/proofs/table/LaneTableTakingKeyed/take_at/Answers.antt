use Rattle.std.proofs.lemmas.Result.{on_ok_weaker, on_err_weaker}
use Rattle.std.proofs.Common.{◌∙◌, ap}
use Rattle.rsx_grouping.specs.Rows.{are_quiet, keys_of}
use Rattle.rsx_grouping.proofs.MayWait.{set_quiet}
use Rattle.rsx_grouping.proofs.Tables.{kept_at, quiet_at, taken_there, set_keys, set_back, set_goes_on}
use Rattle.rsx_grouping.proofs.table.LaneTableTakingKeyed.take_at.Goals as goal

pub take_item-requires : goal.take_item-requires
take_item-requires g c = quiet_at c.self.inside.rows.items c.args.at c.index_mut.result.now (ap are_quiet c.self.view_is ∙ c.requires.quiet) (rw c.self.view_is c.requires.within) c.index_mut.ensures.value

pub invariant_of-self : goal.invariant_of-self
invariant_of-self g c =
    let rows = c.self.inside.rows.items in
    let kept = kept_at c.self.inside.keys rows c.args.at c.index_mut.result.now c.take_item.new.self (c.self.invariant.0, c.self.invariant.1) c.index_mut.ensures.value in
    (kept.0, kept.1, set_quiet rows c.args.at (record { key = c.index_mut.result.now.key; lane = c.take_item.new.self }) (ap are_quiet c.self.view_is ∙ c.requires.quiet))

pub returns-clause-ok : goal.returns-clause-ok
returns-clause-ok g c gs k at =
    on_ok_weaker c.take_item.result (taken_there (g.O.Ops.meaning c.args.ops.now) gs c.args.self.now c.self.inside.rows.items c.args.at k c.index_mut.result.now c.take_item.new.self c.args.item c.self.invariant.1 c.self.view_is at c.index_mut.ensures.value) c.take_item.ensures.ok

pub returns-clause-keys : goal.returns-clause-keys
returns-clause-keys g c =
    on_ok_weaker c.take_item.result (λ takes. set_keys c.self.inside.rows.items c.args.at c.index_mut.result.now c.take_item.new.self c.index_mut.ensures.value ∙ ap keys_of c.self.view_is) c.take_item.ensures.ok

pub returns-clause-same : goal.returns-clause-same
returns-clause-same g c =
    on_err_weaker c.take_item.result (set_back c.args.self.now c.self.inside.rows.items c.args.at c.index_mut.result.now c.take_item.new.self c.self.view_is c.index_mut.ensures.value) c.take_item.ensures.same

pub returns-clause-goes_on : goal.returns-clause-goes_on
returns-clause-goes_on g c =
    on_ok_weaker c.take_item.result (set_goes_on c.args.self.now c.self.inside.rows.items c.args.at (record { key = c.index_mut.result.now.key; lane = c.take_item.new.self }) c.self.view_is) c.take_item.ensures.goes_on
