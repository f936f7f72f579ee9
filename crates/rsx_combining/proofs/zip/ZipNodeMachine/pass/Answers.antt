use Rattle.std.proofs.Common.{◌≡◌, true, false, refl, sym, ◌∙◌, rules}
use Rattle.rsx_types.specs.declared.signal.Signal.TheVariants.{Next}
use Rattle.rsx_sources.specs.declared.machine.Front.TheVariants.{Item}
use Rattle.rsx_combining.specs.Zip.{ZipState, zip_takes, zip_ended}
use Rattle.rsx_combining.proofs.Steps.{signal_in, signal_made, signal_counts}
use Rattle.rsx_combining.proofs.zip.ZipNodeMachine.pass.Goals as goal

pub returns-clause-passed : goal.returns-clause-passed
returns-clause-passed g c =
    let start : ZipState g.row.T.Denot = record { inputs = c.self.inside.inputs.items; output = c.self.inside.output; chosen = c.self.inside.chosen } in
    let takes : zip_takes c.args.self.now c.args.input Item ≡ true = sym c.has_room_at.ensures ∙ c.if-not-has_room_at.false in
    let going : zip_ended c.args.self.now ≡ false = sym c.has_ended.ensures ∙ c.if-has_ended.false in
    record {
      enabled = takes;
      value = signal_in (g.O.Ops.meaning c.args.ops.now) start c.args.self.now c.args.input (Next c.args.item) c.index_mut.result.now c.put.new.self c.self.view_is takes c.index_mut.ensures.value c.put.ensures.state;
      notes = search rules;
      counts = signal_counts start c.args.self.now c.args.input (Next c.args.item) c.index_mut.result.now c.put.new.self c.self.view_is takes c.index_mut.ensures.value c.put.ensures.state;
      goes_on = rw (← c.self.view_is) at going;
    }

pub returns-clause-made : goal.returns-clause-made
returns-clause-made g c =
    let start : ZipState g.row.T.Denot = record { inputs = c.self.inside.inputs.items; output = c.self.inside.output; chosen = c.self.inside.chosen } in
    let takes : zip_takes c.args.self.now c.args.input Item ≡ true = sym c.has_room_at.ensures ∙ c.if-not-has_room_at.false in
    let going : zip_ended c.args.self.now ≡ false = sym c.has_ended.ensures ∙ c.if-has_ended.false in (
      rw (going, takes) refl,
      signal_made start c.args.self.now c.args.input (Next c.args.item) c.index_mut.result.now c.put.new.self c.self.view_is c.index_mut.ensures.value c.put.ensures.state,
    )
