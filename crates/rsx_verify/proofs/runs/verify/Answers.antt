use Rattle.rsx_verify.proofs.Kept.{verified_unbroken}
use Rattle.rsx_verify.proofs.Leading.{verified_from}
use Rattle.rsx_verify.proofs.runs.verify.Goals as goal

pub returns-clause-verified : goal.returns-clause-verified
returns-clause-verified g c =
    verified_from (g.O.Ops.meaning c.args.ops) c.args.expr.now c.in_ok-publisher.publisher.items c.in_ok-cancel.cancel.items c.in_ok-bad_request.bad_request.items c.in_ok-processor.processor.items c.deref.result.now c.deref-2.result.now c.deref-3.result.now c.deref-4.result.now c.judge_runs.result
    c.in_ok-publisher.ensures.recorded c.in_ok-cancel.ensures.recorded c.in_ok-bad_request.ensures.recorded c.in_ok-processor.ensures.recorded c.deref.ensures.value c.deref-2.ensures.value c.deref-3.ensures.value c.deref-4.ensures.value c.judge_runs.ensures

pub returns-clause-unbroken : goal.returns-clause-unbroken
returns-clause-unbroken g c = verified_unbroken (g.O.Ops.meaning c.args.ops) c.args.expr.now c.judge_runs.result (returns-clause-verified g c)
