use Rattle.std.proofs.Common.{◌≡◌, true, refl, rules}
use Rattle.rsx_sources.specs.Machine.{front_of}
use Rattle.rsx_queued.proofs.Changed.{is_put}
use Rattle.rsx_merging.specs.Merge.{merge_takes}
use Rattle.rsx_merging.proofs.Takes.{took, counts_in}
use Rattle.rsx_merging.proofs.merge_node.MergeNodeMachine.on_signal.Goals as goal

pub returns-clause-ok : goal.returns-clause-ok
returns-clause-ok g c =
    let n = c.args.self.now in
    let takes : merge_takes n c.args.input (front_of c.args.signal) ≡ true = search rules in
    took n.output n.inputs.items c.args.input c.index_mut.result.now c.put.new.self c.args.signal (is_put n.inputs.items c.args.input c.args.signal c.index_mut.result.now c.put.new.self takes c.index_mut.ensures.value c.put.ensures.state) c.put.ensures.value

pub returns-clause-counts : goal.returns-clause-counts
returns-clause-counts g c =
    let n = c.args.self.now in
    let takes : merge_takes n c.args.input (front_of c.args.signal) ≡ true = search rules in
    counts_in n _ c.args.input c.index_mut.result.now c.put.new.self c.args.signal (is_put n.inputs.items c.args.input c.args.signal c.index_mut.result.now c.put.new.self takes c.index_mut.ensures.value c.put.ensures.state) refl refl

pub returns-then-not-can_take-clause-recorded : goal.returns-then-not-can_take-clause-recorded
returns-then-not-can_take-clause-recorded g c = search rules

pub returns-then-not-can_take-clause-err : goal.returns-then-not-can_take-clause-err
returns-then-not-can_take-clause-err g c = search rules

pub returns-then-not-can_take-clause-memory : goal.returns-then-not-can_take-clause-memory
returns-then-not-can_take-clause-memory g c = search rules

pub returns-then-not-can_take-clause-same : goal.returns-then-not-can_take-clause-same
returns-then-not-can_take-clause-same g c = search rules

pub returns-clause-enabled : goal.returns-clause-enabled
returns-clause-enabled g c = search rules

pub returns-clause-recorded : goal.returns-clause-recorded
returns-clause-recorded g c = search rules
