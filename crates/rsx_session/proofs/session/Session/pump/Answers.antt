use Rattle.std.proofs.Common.{◌≡◌, ◌≤◌, ◌+◌, ◌*◌, ◌%◌, arith}
use Rattle.rsx_graph_state.specs.declared.step.Pumped.TheVariants.{Idle, Budget}
use Rattle.rsx_session.proofs.Calls.{passed_memory}
use Rattle.rsx_session.proofs.Pumps.{last_idle, last_spent, none_run, pump_leads, run_spent}
use Rattle.rsx_session.proofs.session.Session.pump.Goals as goal

pub loop-init : goal.loop-init
loop-init c = none_run c.args.self.now

pub loop-preserved : goal.loop-preserved
loop-preserved c =
    let all : c.loop.counter * 65536 + 65536 ≡ (c.loop.counter + 1) * 65536 = omega arith in
    run_spent (c.loop.counter * 65536) 65536 ((c.loop.counter + 1) * 65536) c.args.self.now c.loop.self c.pump_slice.new.self all c.loop.invariant (rw c.in_default.is at c.in_ok-pump_slice.ensures.pumped)

pub returns-in-Idle-clause-leads : goal.returns-in-Idle-clause-leads
returns-in-Idle-clause-leads c =
    let within : c.loop.counter * 65536 + 65536 ≤ c.args.budget = omega arith in
    pump_leads c.args.budget c.args.self.now c.pump_slice.new.self Idle (last_idle (c.loop.counter * 65536) 65536 c.args.budget c.args.self.now c.loop.self c.pump_slice.new.self within c.loop.invariant (rw c.in-Idle.is at c.in_ok-pump_slice.ensures.pumped))

pub returns-in_err-pump_slice-clause-leads : goal.returns-in_err-pump_slice-clause-leads
returns-in_err-pump_slice-clause-leads c = passed_memory c.in_err-pump_slice.field-0.0 c.from_residual.result _ c.in_err-pump_slice.ensures.err c.from_residual.ensures

pub returns-in-Idle-2-clause-leads : goal.returns-in-Idle-2-clause-leads
returns-in-Idle-2-clause-leads c =
    let within : c.loop.counter * 65536 + c.args.budget % 65536 ≤ c.args.budget = omega arith in
    pump_leads c.args.budget c.args.self.now c.pump_slice-2.new.self Idle (last_idle (c.loop.counter * 65536) (c.args.budget % 65536) c.args.budget c.args.self.now c.loop.self c.pump_slice-2.new.self within c.loop.invariant (rw c.in-Idle-2.is at c.in_ok-pump_slice-2.ensures.pumped))

pub returns-in-Budget-clause-leads : goal.returns-in-Budget-clause-leads
returns-in-Budget-clause-leads c =
    let all : c.loop.counter * 65536 + c.args.budget % 65536 ≡ c.args.budget = omega arith in
    pump_leads c.args.budget c.args.self.now c.pump_slice-2.new.self Budget (last_spent (c.loop.counter * 65536) (c.args.budget % 65536) c.args.budget c.args.self.now c.loop.self c.pump_slice-2.new.self all c.loop.invariant (rw c.in-Budget.is at c.in_ok-pump_slice-2.ensures.pumped))

pub returns-in_err-pump_slice-2-clause-leads : goal.returns-in_err-pump_slice-2-clause-leads
returns-in_err-pump_slice-2-clause-leads c = passed_memory c.in_err-pump_slice-2.field-0.0 c.from_residual-in_err-pump_slice-2.result _ c.in_err-pump_slice-2.ensures.err c.from_residual-in_err-pump_slice-2.ensures
