use Rattle.std.proofs.Common.{◌≡◌, [], ◌∷◌, ◌++◌, ◌∙◌, ap, arith, sym, true}
use Rattle.rsx_grouping.specs.Rows.{is_told}
use Rattle.rsx_grouping.specs.declared.table.KeyedLane.{KeyedLane}
use Rattle.rsx_grouping.proofs.Tables.{kept, kept_more, removed, opened, opened_goes_on}
use Rattle.rsx_grouping.proofs.table.LaneTableTakingKeyed.open.Goals as goal

pub invariant_of-self-in-Err-add : goal.invariant_of-self-in-Err-add
invariant_of-self-in-Err-add g c =
    let kept = kept c.self.inside.keys c.add.new.self c.self.inside.rows.items c.reserve.new.self.items (c.self.invariant.0, c.self.invariant.1) c.in-Err-add.ensures.same c.reserve.ensures.items in
    (kept.0, kept.1, ap (λ ls. is_told c.self.inside.may_wait ls) c.reserve.ensures.items ∙ c.self.invariant.2)

pub push_reserved-requires : goal.push_reserved-requires
push_reserved-requires g c = let room = c.in-Ok.ensures.ok in omega arith

pub invariant_of-self-in-Ok-begin : goal.invariant_of-self-in-Ok-begin
invariant_of-self-in-Ok-begin g c =
    let row : KeyedLane g.row.T.Denot = record { key = c.args.key; lane = c.in-Ok-begin.lane } in
    let kept = kept_more c.self.inside.keys c.add.new.self c.args.self.now c.self.inside.rows.items c.reserve.new.self.items c.push_reserved.new.self.items c.args.key c.in-Ok-begin.lane (c.self.invariant.0, c.self.invariant.1) c.self.view_is c.requires c.in-Ok-add.ensures.keys c.reserve.ensures.items c.push_reserved.ensures.items in
    let told : is_told c.may_wait_behind-may_wait.result (c.reserve.new.self.items ++ row ∷ []) ≡ true = ap (λ ls. is_told c.may_wait_behind-may_wait.result (ls ++ row ∷ [])) (c.reserve.ensures.items ∙ sym c.as_slice.ensures.value) ∙ c.may_wait_behind-may_wait.ensures row in
    (kept.0, kept.1, ap (λ ls. is_told c.may_wait_behind-may_wait.result ls) c.push_reserved.ensures.items ∙ told)

pub invariant_of-self-in-Err-begin : goal.invariant_of-self-in-Err-begin
invariant_of-self-in-Err-begin g c =
    let kept = removed c.self.inside.keys c.add.new.self c.remove_last.new.self c.args.self.now c.self.inside.rows.items c.reserve.new.self.items c.args.key (c.self.invariant.0, c.self.invariant.1) c.self.view_is c.requires c.in-Ok-add.ensures.keys c.remove_last.ensures c.reserve.ensures.items in
    (kept.0, kept.1, ap (λ ls. is_told c.self.inside.may_wait ls) c.reserve.ensures.items ∙ c.self.invariant.2)

pub returns-in-Ok-begin-clause-ok : goal.returns-in-Ok-begin-clause-ok
returns-in-Ok-begin-clause-ok g c =
    opened (g.O.Ops.meaning c.args.ops.now) c.args.stages.now c.args.self.now c.self.inside.rows.items c.reserve.new.self.items c.push_reserved.new.self.items c.args.key c.args.item c.in-Ok-begin.lane c.self.view_is c.requires c.reserve.ensures.items c.push_reserved.ensures.items c.in-Ok-begin.ensures.ok

pub returns-in-Ok-begin-clause-goes_on : goal.returns-in-Ok-begin-clause-goes_on
returns-in-Ok-begin-clause-goes_on g c =
    opened_goes_on c.args.self.now c.self.inside.rows.items c.reserve.new.self.items c.push_reserved.new.self.items (record { key = c.args.key; lane = c.in-Ok-begin.lane }) c.self.view_is c.reserve.ensures.items c.push_reserved.ensures.items c.in-Ok-begin.ensures.goes_on
