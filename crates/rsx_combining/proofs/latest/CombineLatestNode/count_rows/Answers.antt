use Rattle.std.proofs.Common.{◌≤◌, List, length, sym, ap, ◌∙◌, subst, arith}
use Rattle.rsx_values.specs.Record.{room_of_last}
use Rattle.rsx_values.specs.declared.record.Run.{Run}
use Rattle.rsx_combining.specs.Latest.{LatestState}
use Rattle.rsx_combining.proofs.RowsThrough.{can_go, counted_rows, counted_state, input_there, item_there}
use Rattle.rsx_combining.proofs.latest.CombineLatestNode.count_rows.Goals as goal

pub returns-clause-state : goal.returns-clause-state
returns-clause-state g c =
    let start : LatestState g.row.T.Denot = record { inputs = c.self.inside.inputs.items; latest = c.self.inside.latest; output = c.self.inside.output; choices = c.self.inside.choices } in
    let a = c.index_mut.result.now in
    counted_state start c.args.self.now c.args.input c.args.items c.args.last a (record a { queue = c.count_passed.new.self }) c.keep.new.self c.push_times.new.self c.self.view_is c.requires c.index_mut.ensures.value (ap (λ q. record a { queue = q }) c.count_passed.ensures) c.keep.ensures c.push_times.ensures.runs

pub returns-clause-rows : goal.returns-clause-rows
returns-clause-rows g c = λ xs l e.
    let start : LatestState g.row.T.Denot = record { inputs = c.self.inside.inputs.items; latest = c.self.inside.latest; output = c.self.inside.output; choices = c.self.inside.choices } in
    let a = c.index_mut.result.now in
    counted_state start c.args.self.now c.args.input c.args.items c.args.last a (record a { queue = c.count_passed.new.self }) c.keep.new.self c.push_times.new.self c.self.view_is c.requires c.index_mut.ensures.value (ap (λ q. record a { queue = q }) c.count_passed.ensures) c.keep.ensures c.push_times.ensures.runs
    ∙ counted_rows c.args.self.now c.args.input c.args.items xs c.args.last l e

pub index_mut-requires : goal.index_mut-requires
index_mut-requires g c =
    let lt = input_there c.args.self.now c.args.input c.args.items c.requires in
    let l = ap (λ n. length n.inputs) c.self.view_is in
    let ok = c.self.inside.inputs.ok.0 in
    omega (arith, lt, l, ok)

pub keep-requires : goal.keep-requires
keep-requires g c =
    let lt = item_there c.args.self.now c.args.input c.args.items c.requires in
    let l = ap (λ n. length n.latest) c.self.view_is in
    omega (arith, lt, l)

pub push_times-requires : goal.push_times-requires
push_times-requires g c =
    let fits : List Run → Type 0 = λ l. c.args.items ≤ room_of_last l c.args.input in
    subst fits (sym (ap (λ n. n.choices) c.self.view_is)) (can_go c.args.self.now c.args.input c.args.items c.requires).room
