use Rattle.std.proofs.Common.{◌++◌, [], ◌∷◌, slice_set, None, refl, ap, ◌∙◌}
use Rattle.rsx_values.specs.Record.{written}
use Rattle.rsx_combining.specs.Latest.{LatestState}
use Rattle.rsx_combining.proofs.Comes.{row_picked, row_gone}
use Rattle.rsx_combining.proofs.latest.CombineLatestNodeMachine.step_item.Goals as goal

pub returns-in-Ok-clause-out : goal.returns-in-Ok-clause-out
returns-in-Ok-clause-out g c =
    let m = g.O.Ops.meaning c.args.ops.now in
    let start : LatestState g.row.T.Denot = record { inputs = c.self.inside.inputs.items; latest = c.self.inside.latest; output = c.self.inside.output; choices = c.self.inside.choices } in
    let noted : LatestState g.row.T.Denot = record { inputs = c.self.inside.inputs.items; latest = c.self.inside.latest; output = c.self.inside.output; choices = c.row_of_next.new.choices } in
    let new : LatestState g.row.T.Denot = record { inputs = slice_set c.self.inside.inputs.items c.in-Some.input c.row_of_next.new.input; latest = c.row_of_next.new.self; output = c.self.inside.output; choices = c.row_of_next.new.choices } in
    let i = c.in-Some.input in
    let a = c.index_mut.result.now in
    let same = c.self.view_is in
    let e = c.in-Ok.ensures in
    let r = row_picked m start c.args.self.now noted i c.args.asked c.args.sent c.in-Ok.row a c.row_of_next.new.input c.row_of_next.new.self c.self.inside.output same c.in-Some.ensures.some (refl, refl, refl) c.index_mut.ensures.value e.row e.input e.latest None refl in
    row_gone m c.args.self.now noted new i c.args.asked c.args.sent c.in-Ok.row a c.in-Some.ensures.some (ap (λ n. n.inputs) same, ap (λ n. n.latest) same, ap (λ n. n.output) same) r.0 r.1
    (e.choice ∙ ap (λ n. written n.choices ++ i ∷ []) same) r.2
