use Rattle.std.proofs.lemmas.Grind.{common_steps}
use Rattle.std.proofs.Common.{◌≡◌, ◌++◌, List, length, sym, ap, ◌∙◌, rules, arith}
use Rattle.std.proofs.lemmas.List.{with_items_is}
use Rattle.std.specs.Vec.{with_items}
use Rattle.rsx_queued.specs.declared.input.QueuedInput.{QueuedInput}
use Rattle.rsx_values.specs.Zip.{heads}
use Rattle.rsx_combining.specs.Inputs.{queued, all_shortened}
use Rattle.rsx_combining.specs.Zip.{ZipState}
use Rattle.rsx_combining.proofs.Zips.{length_shortened}
use Rattle.rsx_combining.proofs.Steps.{IsRowMade, row_keeps, row_rowed, row_steps}
use Rattle.rsx_combining.proofs.zip.ZipNodeMachine.on_row.Goals as goal

start : (g : _) → goal.After-put g → ZipState g.row.T.Denot
start g c = record { inputs = c.self.inside.inputs.items; output = c.self.inside.output; chosen = c.self.inside.chosen }

after : (g : _) → goal.After-put g → List (QueuedInput g.row.T.Denot)
after g c = (with_items c.self.inside.inputs c.row_with.new.inputs).items

made : (g : _) (c : goal.After-put g) → IsRowMade (g.O.Ops.meaning c.args.ops.now) (start g c) c.args.self.now c.args.asked c.args.sent (after g c) c.put.new.self c.in-Ok.row
unfolding start after
made g c =
    let qs = c.self.inside.inputs.items in
    let row_of = (g.O.Ops.meaning c.args.ops.now).row_of in
    let shorter : c.row_with.new.inputs ≡ all_shortened qs = c.in-Ok.ensures.taken ∙ ap all_shortened c.as_mut_slice.ensures.value in
    let long : length c.row_with.new.inputs ≡ c.self.inside.inputs.len = ap length shorter ∙ length_shortened qs ∙ sym c.self.inside.inputs.ok.0 in
    record {
      same = c.self.view_is;
      enabled = sym c.can_row.ensures ∙ c.if-not-can_row.false;
      row = c.in-Ok.ensures.row ∙ ap (λ l. row_of (l ++ heads (queued c.as_mut_slice.result.now))) c.self.invariant.0 ∙ ap (λ l. row_of (heads (queued l))) c.as_mut_slice.ensures.value;
      shorter = with_items_is c.self.inside.inputs c.row_with.new.inputs long ∙ shorter;
      put = c.put.ensures;
    }

pub returns-in-Ok-clause-ok : goal.returns-in-Ok-clause-ok
unfolding start after
returns-in-Ok-clause-ok g c =
    row_keeps (g.O.Ops.meaning c.args.ops.now) (start g c) c.args.self.now c.args.asked c.args.sent (after g c) c.put.new.self c.in-Ok.row (made g c)

pub returns-in-Ok-clause-rowed : goal.returns-in-Ok-clause-rowed
unfolding start after
returns-in-Ok-clause-rowed g c =
    row_rowed (g.O.Ops.meaning c.args.ops.now) (start g c) c.args.self.now c.args.asked c.args.sent (after g c) c.put.new.self c.in-Ok.row (made g c)

pub returns-in-Ok-clause-counts : goal.returns-in-Ok-clause-counts
unfolding start after
returns-in-Ok-clause-counts g c =
    row_steps (g.O.Ops.meaning c.args.ops.now) (start g c) c.args.self.now c.args.asked c.args.sent (after g c) c.put.new.self c.in-Ok.row (made g c)

pub same-self : goal.same-self
same-self g c = search rules

pub returns-then-not-can_row-clause-recorded : goal.returns-then-not-can_row-clause-recorded
returns-then-not-can_row-clause-recorded g c = search rules

pub returns-then-not-can_row-clause-err : goal.returns-then-not-can_row-clause-err
returns-then-not-can_row-clause-err g c = search rules

pub returns-then-not-can_row-clause-memory : goal.returns-then-not-can_row-clause-memory
returns-then-not-can_row-clause-memory g c = search rules

pub returns-then-not-can_row-clause-same : goal.returns-then-not-can_row-clause-same
returns-then-not-can_row-clause-same g c = search rules

pub row_with-requires-clause-items : goal.row_with-requires-clause-items
row_with-requires-clause-items g c = search rules

pub row_with-requires-clause-fits : goal.row_with-requires-clause-fits
row_with-requires-clause-fits g c = search rules

pub put-requires : goal.put-requires
put-requires g c = search rules

pub invariant_of-self : goal.invariant_of-self
invariant_of-self g c = grind (arith, common_steps) steps 1000000

pub invariant_of-self-in-Err : goal.invariant_of-self-in-Err
invariant_of-self-in-Err g c = grind (arith, common_steps) steps 1000000

pub returns-in-Ok-clause-enabled : goal.returns-in-Ok-clause-enabled
returns-in-Ok-clause-enabled g c = search rules

pub returns-in-Ok-clause-recorded : goal.returns-in-Ok-clause-recorded
returns-in-Ok-clause-recorded g c = search rules

pub returns-in-Err-clause-recorded : goal.returns-in-Err-clause-recorded
returns-in-Err-clause-recorded g c = search rules

pub returns-in-Err-clause-err : goal.returns-in-Err-clause-err
returns-in-Err-clause-err g c = search rules

pub returns-in-Err-clause-memory : goal.returns-in-Err-clause-memory
returns-in-Err-clause-memory g c = search rules

pub returns-in-Err-clause-same : goal.returns-in-Err-clause-same
returns-in-Err-clause-same g c = grind (arith, common_steps) steps 1000000
