use Rattle.std.proofs.Common.{◌≡◌, length, sym, ap, ◌∙◌}
use Rattle.std.proofs.lemmas.List.{with_items_is}
use Rattle.std.specs.Vec.{with_items}
use Rattle.rsx_combining.specs.Zip.{ZipState}
use Rattle.rsx_combining.proofs.Steps.{row_or_none}
use Rattle.rsx_combining.proofs.zip.ZipNodeMachine.step_item.Goals as goal

pub returns-clause-out : goal.returns-clause-out
returns-clause-out g c =
    let inputs = c.self.inside.inputs in
    let start : ZipState g.row.T.Denot = record { inputs = inputs.items; output = c.self.inside.output; chosen = c.self.inside.chosen } in
    let new = c.next_row.new.inputs in
    let long : length new ≡ inputs.len = c.next_row.auto.inputs ∙ (ap length c.as_mut_slice.ensures.value ∙ sym inputs.ok.0) in
    row_or_none (g.O.Ops.meaning c.args.ops.now) start c.args.self.now c.args.asked c.args.sent c.next_row.result c.as_mut_slice.result.now new (with_items inputs new).items c.self.view_is
    (sym c.is_empty.ensures ∙ c.if-not-is_empty.false) c.if-sent-asked.false c.as_mut_slice.ensures.value (with_items_is inputs new long) c.next_row.ensures.row c.next_row.ensures.same
