use Rattle.std.proofs.Common.{◌≡◌, true, refl, rules}
use Rattle.rsx_sources.specs.Machine.{front_of}
use Rattle.rsx_queued.proofs.Changed.{is_put}
use Rattle.rsx_delayed.specs.MergeDelay.{delayed_takes}
use Rattle.rsx_delayed.proofs.Taken.{took, counts_in}
use Rattle.rsx_delayed.proofs.merge_delay_node.MergeDelayNodeMachine.on_signal.Goals as goal

pub returns-clause-ok : goal.returns-clause-ok
returns-clause-ok g c =
    let n = c.args.self.now in
    let takes : delayed_takes n c.args.input (front_of c.args.signal) ≡ true = search rules in
    took n.output n.kept n.inputs.items c.args.input c.index_mut.result.now c.put.new.self c.args.signal (is_put n.inputs.items c.args.input c.args.signal c.index_mut.result.now c.put.new.self takes c.index_mut.ensures.value c.put.ensures.state) c.put.ensures.value

pub returns-clause-counts : goal.returns-clause-counts
returns-clause-counts g c =
    let n = c.args.self.now in
    let takes : delayed_takes n c.args.input (front_of c.args.signal) ≡ true = search rules in
    counts_in n _ c.args.input c.index_mut.result.now c.put.new.self c.args.signal (is_put n.inputs.items c.args.input c.args.signal c.index_mut.result.now c.put.new.self takes c.index_mut.ensures.value c.put.ensures.state) refl refl
