use Rattle.std.proofs.lemmas.Grind.{common_steps}
use Rattle.std.proofs.Common.{◌≡◌, None, refl, rules, arith}
use Rattle.std.proofs.Math.ListN.{replicate}
use Rattle.rsx_queued.specs.Input.{fresh_input}
use Rattle.rsx_queued.specs.declared.output.Output.TheVariants.{Empty}
use Rattle.rsx_combining.specs.Zip.{ZipState}
use Rattle.rsx_combining.proofs.Filled.{fresh_zip}
use Rattle.rsx_combining.proofs.zip.ZipNode.new.Goals as goal

pub returns-clause-counted : goal.returns-clause-counted
returns-clause-counted g c some =
    let s : ZipState g.row.T.Denot = record { inputs = c.loop.queues.items; output = Empty; chosen = None } in
    let qs : c.loop.queues.items ≡ replicate c.args.inputs (fresh_input c.args.capacity) = search rules in
    fresh_zip s c.args.inputs c.args.capacity qs refl refl c.requires.positive c.ranges.inputs.fits some

pub loop-init : goal.loop-init
loop-init g c = search rules

pub new-requires-clause-positive : goal.new-requires-clause-positive
new-requires-clause-positive g c = search rules

pub new-requires-clause-within : goal.new-requires-clause-within
new-requires-clause-within g c = search rules

pub returns-in_err-new-clause-inputs : goal.returns-in_err-new-clause-inputs
returns-in_err-new-clause-inputs g c = search rules

pub returns-in_err-new-clause-output : goal.returns-in_err-new-clause-output
returns-in_err-new-clause-output g c = search rules

pub returns-in_err-new-clause-chosen : goal.returns-in_err-new-clause-chosen
returns-in_err-new-clause-chosen g c = search rules

pub returns-in_err-new-clause-fresh : goal.returns-in_err-new-clause-fresh
returns-in_err-new-clause-fresh g c = search rules

pub returns-in_err-new-clause-counted : goal.returns-in_err-new-clause-counted
returns-in_err-new-clause-counted g c = search rules

pub returns-in_err-push-clause-inputs : goal.returns-in_err-push-clause-inputs
returns-in_err-push-clause-inputs g c = search rules

pub returns-in_err-push-clause-output : goal.returns-in_err-push-clause-output
returns-in_err-push-clause-output g c = search rules

pub returns-in_err-push-clause-chosen : goal.returns-in_err-push-clause-chosen
returns-in_err-push-clause-chosen g c = search rules

pub returns-in_err-push-clause-fresh : goal.returns-in_err-push-clause-fresh
returns-in_err-push-clause-fresh g c = search rules

pub returns-in_err-push-clause-counted : goal.returns-in_err-push-clause-counted
returns-in_err-push-clause-counted g c = search rules

pub loop-preserved : goal.loop-preserved
loop-preserved g c = grind (arith, common_steps)

pub returns-in_err-row-clause-inputs : goal.returns-in_err-row-clause-inputs
returns-in_err-row-clause-inputs g c = search rules

pub returns-in_err-row-clause-output : goal.returns-in_err-row-clause-output
returns-in_err-row-clause-output g c = search rules

pub returns-in_err-row-clause-chosen : goal.returns-in_err-row-clause-chosen
returns-in_err-row-clause-chosen g c = search rules

pub returns-in_err-row-clause-fresh : goal.returns-in_err-row-clause-fresh
returns-in_err-row-clause-fresh g c = search rules

pub returns-in_err-row-clause-counted : goal.returns-in_err-row-clause-counted
returns-in_err-row-clause-counted g c = search rules

pub invariant_of-result : goal.invariant_of-result
invariant_of-result g c = search rules

pub returns-clause-inputs : goal.returns-clause-inputs
returns-clause-inputs g c = search rules

pub returns-clause-output : goal.returns-clause-output
returns-clause-output g c = search rules

pub returns-clause-chosen : goal.returns-clause-chosen
returns-clause-chosen g c = search rules
