use Rattle.std.proofs.Common.{◌≡◌, length, slice_set, true, Some, None, refl, sym, ap, ◌∙◌, arith}
use Rattle.rsx_combining.specs.Latest.{LatestState, latest_picks}
use Rattle.rsx_combining.proofs.Comes.{pick_there, none_picked, row_picked, pick_value, pick_steps}
use Rattle.rsx_combining.proofs.latest.CombineLatestNodeMachine.on_pick.Goals as goal

pub returns-in-Ok-clause-ok : goal.returns-in-Ok-clause-ok
returns-in-Ok-clause-ok g c =
    let m = g.O.Ops.meaning c.args.ops.now in
    let start : LatestState g.row.T.Denot = record { inputs = c.self.inside.inputs.items; latest = c.self.inside.latest; output = c.self.inside.output; choices = c.self.inside.choices } in
    let noted : LatestState g.row.T.Denot = record { inputs = c.self.inside.inputs.items; latest = c.self.inside.latest; output = c.self.inside.output; choices = c.row_of_next.new.choices } in
    let i = c.args.input in
    let a = c.index_mut.result.now in
    let same = c.self.view_is in
    let e = c.in-Ok.ensures in
    let new : LatestState g.row.T.Denot = record { inputs = slice_set c.self.inside.inputs.items i c.row_of_next.new.input; latest = c.row_of_next.new.self; output = c.put.new.self; choices = c.row_of_next.new.choices } in
    let enabled : latest_picks c.args.self.now i c.args.asked c.args.sent ≡ true = sym c.can_pick.ensures ∙ c.if-not-can_pick.false in
    let r = row_picked m start c.args.self.now noted i c.args.asked c.args.sent c.in-Ok.row a c.row_of_next.new.input c.row_of_next.new.self c.put.new.self same enabled (refl, refl, refl) c.index_mut.ensures.value e.row e.input e.latest (Some c.in-Ok.row) c.put.ensures in
    pick_value m c.args.self.now noted new i c.args.asked c.args.sent (Some c.in-Ok.row) (record { enabled = enabled; but = (ap (λ n. n.inputs) same, ap (λ n. n.latest) same, ap (λ n. n.output) same); a = a; was = r.0; row = r.1; after = r.2 })

pub returns-in-Ok-clause-counts : goal.returns-in-Ok-clause-counts
returns-in-Ok-clause-counts g c =
    let m = g.O.Ops.meaning c.args.ops.now in
    let start : LatestState g.row.T.Denot = record { inputs = c.self.inside.inputs.items; latest = c.self.inside.latest; output = c.self.inside.output; choices = c.self.inside.choices } in
    let noted : LatestState g.row.T.Denot = record { inputs = c.self.inside.inputs.items; latest = c.self.inside.latest; output = c.self.inside.output; choices = c.row_of_next.new.choices } in
    let i = c.args.input in
    let a = c.index_mut.result.now in
    let same = c.self.view_is in
    let e = c.in-Ok.ensures in
    let new : LatestState g.row.T.Denot = record { inputs = slice_set c.self.inside.inputs.items i c.row_of_next.new.input; latest = c.row_of_next.new.self; output = c.put.new.self; choices = c.row_of_next.new.choices } in
    let enabled : latest_picks c.args.self.now i c.args.asked c.args.sent ≡ true = sym c.can_pick.ensures ∙ c.if-not-can_pick.false in
    let r = row_picked m start c.args.self.now noted i c.args.asked c.args.sent c.in-Ok.row a c.row_of_next.new.input c.row_of_next.new.self c.put.new.self same enabled (refl, refl, refl) c.index_mut.ensures.value e.row e.input e.latest (Some c.in-Ok.row) c.put.ensures in
    pick_steps m c.args.self.now noted new i c.args.asked c.args.sent (Some c.in-Ok.row) (record { enabled = enabled; but = (ap (λ n. n.inputs) same, ap (λ n. n.latest) same, ap (λ n. n.output) same); a = a; was = r.0; row = r.1; after = r.2 })

pub take_picked-requires-clause-there : goal.take_picked-requires-clause-there
take_picked-requires-clause-there g c =
    let lt = pick_there c.args.self.now c.args.input c.args.asked c.args.sent (sym c.can_pick.ensures ∙ c.if-not-can_pick.false) in
    let l = ap (λ n. length n.inputs) c.self.view_is in
    omega (arith, lt, l)

pub returns-clause-ok : goal.returns-clause-ok
returns-clause-ok g c =
    let m = g.O.Ops.meaning c.args.ops.now in
    let start : LatestState g.row.T.Denot = record { inputs = c.self.inside.inputs.items; latest = c.self.inside.latest; output = c.self.inside.output; choices = c.self.inside.choices } in
    let noted : LatestState g.row.T.Denot = record { inputs = c.self.inside.inputs.items; latest = c.self.inside.latest; output = c.self.inside.output; choices = c.push.new.self } in
    pick_value m c.args.self.now noted c.take_picked.new.self c.args.input c.args.asked c.args.sent None
    (none_picked m start c.args.self.now noted c.take_picked.new.self c.args.input c.args.asked c.args.sent c.self.view_is c.self.invariant (sym c.can_pick.ensures ∙ c.if-not-can_pick.false) (refl, refl, refl) (sym c.row_is_next.ensures ∙ c.if-row_is_next.false) c.take_picked.ensures)

pub returns-clause-counts : goal.returns-clause-counts
returns-clause-counts g c =
    let m = g.O.Ops.meaning c.args.ops.now in
    let start : LatestState g.row.T.Denot = record { inputs = c.self.inside.inputs.items; latest = c.self.inside.latest; output = c.self.inside.output; choices = c.self.inside.choices } in
    let noted : LatestState g.row.T.Denot = record { inputs = c.self.inside.inputs.items; latest = c.self.inside.latest; output = c.self.inside.output; choices = c.push.new.self } in
    pick_steps m c.args.self.now noted c.take_picked.new.self c.args.input c.args.asked c.args.sent None
    (none_picked m start c.args.self.now noted c.take_picked.new.self c.args.input c.args.asked c.args.sent c.self.view_is c.self.invariant (sym c.can_pick.ensures ∙ c.if-not-can_pick.false) (refl, refl, refl) (sym c.row_is_next.ensures ∙ c.if-row_is_next.false) c.take_picked.ensures)
