use Rattle.std.proofs.Common.{ap}
use Rattle.rsx_values.specs.Prelude.{written, Picks, Ended}
use Rattle.rsx_queued.specs.Output.{has_ending}
use Rattle.rsx_kinds.proofs.Fresh.{asks, goes_on_first}
use Rattle.rsx_kinds.proofs.several_node.SeveralNode.new.Goals as goal

pub returns-in_ok-new-in-Concat-clause-fresh : goal.returns-in_ok-new-in-Concat-clause-fresh
returns-in_ok-new-in-Concat-clause-fresh g c = λ m inc further. rw c.in-Concat.is (c.in_ok-new-in-Concat.ensures.fresh m inc further)

pub returns-in_ok-node-in-Merge : goal.returns-in_ok-node-in-Merge
returns-in_ok-node-in-Merge g c =
    let within = rw c.in-Merge.is at c.requires in
    let n = c.in_ok-node-in-Merge.node in
    let w = c.in_ok-node-in-Merge.ensures in
    rw c.in-Merge.is (record {
      fresh = λ m inc further. w.fresh m inc further;
      recorded = ap (λ l. Picks (written l)) w.choices;
      ended = λ some. goes_on_first n.output c.args.inputs w.output some;
      counted = w.counted;
      wanted = λ i asked lt. asks n.inputs.items c.args.inputs c.in-Merge.prefetch within.1 w.inputs i lt;
    })

pub returns-in_ok-node-in-MergeDelay : goal.returns-in_ok-node-in-MergeDelay
returns-in_ok-node-in-MergeDelay g c =
    let within = rw c.in-MergeDelay.is at c.requires in
    let n = c.in_ok-node-in-MergeDelay.node in
    let w = c.in_ok-node-in-MergeDelay.ensures in
    rw c.in-MergeDelay.is (record {
      fresh = λ m inc further. w.fresh m inc further;
      recorded = ap (λ l. Picks (written l)) w.choices;
      ended = λ some. goes_on_first n.output c.args.inputs w.output some;
      counted = w.counted;
      wanted = λ i asked lt. asks n.inputs.items c.args.inputs c.in-MergeDelay.prefetch within.1 w.inputs i lt;
    })

pub returns-in_ok-node-in-Zip : goal.returns-in_ok-node-in-Zip
returns-in_ok-node-in-Zip g c =
    let within = rw c.in-Zip.is at c.requires in
    let n = c.in_ok-node-in-Zip.node in
    let w = c.in_ok-node-in-Zip.ensures in
    rw c.in-Zip.is (record {
      fresh = λ m inc further. w.fresh m inc further;
      recorded = ap Ended w.chosen;
      ended = λ some. ap has_ending w.output;
      counted = w.counted;
      wanted = λ i asked lt. asks n.inputs c.args.inputs c.in-Zip.prefetch within.1 w.inputs i lt;
    })

pub returns-in_ok-node-in-Latest : goal.returns-in_ok-node-in-Latest
returns-in_ok-node-in-Latest g c =
    let within = rw c.in-Latest.is at c.requires in
    let n = c.in_ok-node-in-Latest.node in
    let w = c.in_ok-node-in-Latest.ensures in
    rw c.in-Latest.is (record {
      fresh = λ m inc further. w.fresh m inc further;
      recorded = ap (λ l. Picks (written l)) w.choices;
      ended = λ some. goes_on_first n.output c.args.inputs w.output some;
      counted = w.counted;
      wanted = λ i asked lt. asks n.inputs c.args.inputs c.in-Latest.prefetch within.1 w.inputs i lt;
    })
