use Rattle.std.proofs.lemmas.Grind.{common_steps}
use Rattle.std.proofs.Common.{◌≡◌, rules, arith}
use Rattle.std.proofs.Math.ListN.{replicate}
use Rattle.rsx_queued.specs.Input.{fresh_input}
use Rattle.rsx_merging.proofs.Fresh.{fresh_merge, fresh_going}
use Rattle.rsx_merging.proofs.merge_node.MergeNode.new.Goals as goal

pub returns-clause-fresh : goal.returns-clause-fresh
returns-clause-fresh g c m =
    let all : c.loop.row.items ≡ replicate c.args.inputs (fresh_input c.args.capacity) = search rules in
    fresh_merge c.first_output.result c.loop.row.items c.args.inputs c.args.capacity c.first_output.ensures all

pub returns-clause-counted : goal.returns-clause-counted
returns-clause-counted g c some =
    let all : c.loop.row.items ≡ replicate c.args.inputs (fresh_input c.args.capacity) = search rules in
    fresh_going c.first_output.result c.loop.row.items c.args.inputs c.args.capacity c.first_output.ensures all some c.ranges.inputs.fits c.requires.positive

pub loop-init : goal.loop-init
loop-init g c = search rules

pub new-requires-clause-positive : goal.new-requires-clause-positive
new-requires-clause-positive g c = search rules

pub new-requires-clause-within : goal.new-requires-clause-within
new-requires-clause-within g c = search rules

pub returns-in_err-new-clause-fresh : goal.returns-in_err-new-clause-fresh
returns-in_err-new-clause-fresh g c = search rules

pub returns-in_err-new-clause-counted : goal.returns-in_err-new-clause-counted
returns-in_err-new-clause-counted g c = search rules

pub returns-in_err-new-clause-inputs : goal.returns-in_err-new-clause-inputs
returns-in_err-new-clause-inputs g c = search rules

pub returns-in_err-new-clause-output : goal.returns-in_err-new-clause-output
returns-in_err-new-clause-output g c = search rules

pub returns-in_err-new-clause-choices : goal.returns-in_err-new-clause-choices
returns-in_err-new-clause-choices g c = search rules

pub returns-in_err-push-clause-fresh : goal.returns-in_err-push-clause-fresh
returns-in_err-push-clause-fresh g c = search rules

pub returns-in_err-push-clause-counted : goal.returns-in_err-push-clause-counted
returns-in_err-push-clause-counted g c = search rules

pub returns-in_err-push-clause-inputs : goal.returns-in_err-push-clause-inputs
returns-in_err-push-clause-inputs g c = search rules

pub returns-in_err-push-clause-output : goal.returns-in_err-push-clause-output
returns-in_err-push-clause-output g c = search rules

pub returns-in_err-push-clause-choices : goal.returns-in_err-push-clause-choices
returns-in_err-push-clause-choices g c = search rules

pub loop-preserved : goal.loop-preserved
loop-preserved g c = grind (arith, common_steps)

pub returns-clause-inputs : goal.returns-clause-inputs
returns-clause-inputs g c = search rules

pub returns-clause-output : goal.returns-clause-output
returns-clause-output g c = search rules

pub returns-clause-choices : goal.returns-clause-choices
returns-clause-choices g c = search rules
