use Rattle.std.proofs.Common.{◌≡◌, true, false, refl, sym, ◌∙◌, rules}
use Rattle.rsx_types.specs.declared.signal.Signal.TheVariants.{Next}
use Rattle.rsx_sources.specs.declared.machine.Front.TheVariants.{Item}
use Rattle.rsx_combining.specs.Latest.{LatestState, latest_takes, latest_ended}
use Rattle.rsx_combining.proofs.Comes.{signal_in, signal_made, signal_counts}
use Rattle.rsx_combining.proofs.latest.CombineLatestNodeMachine.pass.Goals as goal

pub returns-clause-passed : goal.returns-clause-passed
returns-clause-passed g c =
    let start : LatestState g.row.T.Denot = record { inputs = c.self.inside.inputs.items; latest = c.self.inside.latest; output = c.self.inside.output; choices = c.self.inside.choices } in
    let takes : latest_takes c.args.self.now c.args.input Item ≡ true = sym c.can_take.ensures ∙ c.if-not-can_take.false in
    let going : latest_ended c.args.self.now ≡ false = sym c.has_ended.ensures ∙ c.if-has_ended.false in
    record {
      enabled = takes;
      value = signal_in (g.O.Ops.meaning c.args.ops.now) start c.args.self.now c.args.input (Next c.args.item) c.index_mut.result.now c.put.new.self c.self.view_is takes c.index_mut.ensures.value c.put.ensures.state c.put.ensures.value;
      notes = search rules;
      counts = signal_counts start c.args.self.now c.args.input (Next c.args.item) c.index_mut.result.now c.put.new.self c.self.view_is takes c.index_mut.ensures.value c.put.ensures.state;
      goes_on = rw (← c.self.view_is) at going;
    }

pub returns-clause-made : goal.returns-clause-made
returns-clause-made g c =
    let start : LatestState g.row.T.Denot = record { inputs = c.self.inside.inputs.items; latest = c.self.inside.latest; output = c.self.inside.output; choices = c.self.inside.choices } in
    let takes : latest_takes c.args.self.now c.args.input Item ≡ true = sym c.can_take.ensures ∙ c.if-not-can_take.false in
    let going : latest_ended c.args.self.now ≡ false = sym c.has_ended.ensures ∙ c.if-has_ended.false in (
      rw (going, takes) refl,
      signal_made start c.args.self.now c.args.input (Next c.args.item) c.index_mut.result.now c.put.new.self c.self.view_is c.index_mut.ensures.value c.put.ensures.state,
    )
