use Rattle.std.proofs.Common.{◌≡◌, true, refl, sym, ◌∙◌}
use Rattle.rsx_types.specs.declared.signal.Signal.TheVariants.{Next}
use Rattle.rsx_sources.specs.declared.machine.Front.TheVariants.{Item}
use Rattle.rsx_queued.proofs.Changed.{is_put}
use Rattle.rsx_delayed.specs.MergeDelay.{delayed_takes}
use Rattle.rsx_delayed.proofs.Taken.{took, counts_in}
use Rattle.rsx_delayed.proofs.merge_delay_node.MergeDelayNodeMachine.pass.Goals as goal

pub returns-clause-passed : goal.returns-clause-passed
returns-clause-passed g c =
    let n = c.args.self.now in
    let takes : delayed_takes n c.args.input Item ≡ true = sym c.can_take.ensures ∙ c.if-not-can_take.false in
    let put = is_put n.inputs.items c.args.input (Next c.args.item) c.index_mut.result.now c.put.new.self takes c.index_mut.ensures.value c.put.ensures.state in
    record {
      enabled = takes;
      value = took n.output n.kept n.inputs.items c.args.input c.index_mut.result.now c.put.new.self (Next c.args.item) put c.put.ensures.value;
      notes = refl;
      counts = counts_in n _ c.args.input c.index_mut.result.now c.put.new.self (Next c.args.item) put refl refl;
      goes_on = sym c.has_ended.ensures ∙ c.if-has_ended.false;
    }
