use Rattle.std.proofs.Common.{◌≡◌, true, sym, ap, ◌∙◌, rules}
use Rattle.rsx_sources.specs.Machine.{front_of}
use Rattle.rsx_combining.specs.Zip.{ZipState, zip_takes}
use Rattle.rsx_combining.proofs.Steps.{signal_in, signal_made, signal_counts}
use Rattle.rsx_combining.proofs.zip.ZipNodeMachine.on_signal.Goals as goal

pub returns-clause-ok : goal.returns-clause-ok
returns-clause-ok g c =
    let start : ZipState g.row.T.Denot = record { inputs = c.self.inside.inputs.items; output = c.self.inside.output; chosen = c.self.inside.chosen } in
    let takes : zip_takes c.args.self.now c.args.input (front_of c.args.signal) ≡ true = ap (zip_takes c.args.self.now c.args.input) (sym c.front_of.ensures) ∙ sym c.can_take.ensures ∙ c.if-not-can_take.false in
    signal_in (g.O.Ops.meaning c.args.ops.now) start c.args.self.now c.args.input c.args.signal c.index_mut.result.now c.put.new.self c.self.view_is takes c.index_mut.ensures.value c.put.ensures.state

pub returns-clause-made : goal.returns-clause-made
returns-clause-made g c =
    let start : ZipState g.row.T.Denot = record { inputs = c.self.inside.inputs.items; output = c.self.inside.output; chosen = c.self.inside.chosen } in
    signal_made start c.args.self.now c.args.input c.args.signal c.index_mut.result.now c.put.new.self c.self.view_is c.index_mut.ensures.value c.put.ensures.state

pub returns-clause-counts : goal.returns-clause-counts
returns-clause-counts g c =
    let start : ZipState g.row.T.Denot = record { inputs = c.self.inside.inputs.items; output = c.self.inside.output; chosen = c.self.inside.chosen } in
    let takes : zip_takes c.args.self.now c.args.input (front_of c.args.signal) ≡ true = ap (zip_takes c.args.self.now c.args.input) (sym c.front_of.ensures) ∙ sym c.can_take.ensures ∙ c.if-not-can_take.false in
    signal_counts start c.args.self.now c.args.input c.args.signal c.index_mut.result.now c.put.new.self c.self.view_is takes c.index_mut.ensures.value c.put.ensures.state

pub same-self : goal.same-self
same-self g c = search rules

pub returns-then-not-can_take-clause-recorded : goal.returns-then-not-can_take-clause-recorded
returns-then-not-can_take-clause-recorded g c = search rules

pub returns-then-not-can_take-clause-err : goal.returns-then-not-can_take-clause-err
returns-then-not-can_take-clause-err g c = search rules

pub returns-then-not-can_take-clause-memory : goal.returns-then-not-can_take-clause-memory
returns-then-not-can_take-clause-memory g c = search rules

pub returns-then-not-can_take-clause-same : goal.returns-then-not-can_take-clause-same
returns-then-not-can_take-clause-same g c = search rules

pub invariant_of-self : goal.invariant_of-self
invariant_of-self g c = search rules

pub returns-clause-enabled : goal.returns-clause-enabled
returns-clause-enabled g c = search rules

pub returns-clause-recorded : goal.returns-clause-recorded
returns-clause-recorded g c = search rules
