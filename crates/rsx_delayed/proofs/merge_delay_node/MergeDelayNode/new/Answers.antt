use Rattle.std.proofs.Common.{◌≡◌, rules}
use Rattle.std.proofs.Math.ListN.{replicate}
use Rattle.rsx_queued.specs.Input.{fresh_input}
use Rattle.rsx_merging.proofs.Fresh.{fresh_going}
use Rattle.rsx_delayed.proofs.Fresh.{fresh_merge}
use Rattle.rsx_delayed.proofs.merge_delay_node.MergeDelayNode.new.Goals as goal

pub returns-clause-fresh : goal.returns-clause-fresh
returns-clause-fresh g c m =
    let all : c.loop.row.items ≡ replicate c.args.inputs (fresh_input c.args.capacity) = search rules in
    fresh_merge c.first_output.result c.loop.row.items c.args.inputs c.args.capacity c.first_output.ensures all

pub returns-clause-counted : goal.returns-clause-counted
returns-clause-counted g c some =
    let all : c.loop.row.items ≡ replicate c.args.inputs (fresh_input c.args.capacity) = search rules in
    fresh_going c.first_output.result c.loop.row.items c.args.inputs c.args.capacity c.first_output.ensures all some c.ranges.inputs.fits c.requires.positive
