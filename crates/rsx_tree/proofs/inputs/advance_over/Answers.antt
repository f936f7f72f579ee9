use Rattle.std.proofs.Common.{◌≡◌, sym, ◌∙◌, true, false, rules}
use Rattle.rsx_sources.specs.declared.machine.NotMade.{NotMade}
use Rattle.rsx_sources.specs.declared.machine.NotMade.TheVariants.{NotEnabled, NoMemory}
use Rattle.rsx_tree.proofs.Alike.{send_free, step_free}
use Rattle.rsx_tree.proofs.Drives.{sent_here, asked_here, step_here, made_after}
use Rattle.rsx_tree.proofs.inputs.advance_over.Goals as goal

pub returns-then-has_ended-clause-ended : goal.returns-then-has_ended-clause-ended
returns-then-has_ended-clause-ended g c = λ _.
    sent_here g.M.Machine (g.O.Ops.meaning c.args.ops.now) true true c.args.input c.args.asked c.args.sent c.args.receiver.now c.send_over.new.receiver c.args.edge.now c.send_over.new.edge c.args.sender.now c.send_over.new.sender c.args.below.now c.in-Ok.ensures.made (sym c.has_ended.ensures ∙ c.if-has_ended.true)

pub returns-in-Ok-clause-made : goal.returns-in-Ok-clause-made
returns-in-Ok-clause-made g c = λ _.
    sent_here g.M.Machine (g.O.Ops.meaning c.args.ops.now) true false c.args.input c.args.asked c.args.sent c.args.receiver.now c.send_over.new.receiver c.args.edge.now c.send_over.new.edge c.args.sender.now c.send_over.new.sender c.args.below.now c.in-Ok.ensures.made (sym c.has_ended.ensures ∙ c.if-has_ended.false)

pub returns-in-Ok-ask_over-clause-made : goal.returns-in-Ok-ask_over-clause-made
returns-in-Ok-ask_over-clause-made g c = λ _.
    let same = c.in-Err-NotEnabled.ensures.same in
    made_after g.M.Machine (g.O.Ops.meaning c.args.ops.now) true false c.args.input c.args.asked c.args.sent c.args.receiver.now c.send_over.new.receiver c.send_over.new.receiver c.args.edge.now c.send_over.new.edge c.ask_over.new.edge c.args.sender.now c.send_over.new.sender c.send_over.new.sender c.args.below.now c.args.below.now
    same.0 same.1 same.2
    (asked_here g.M.Machine (g.O.Ops.meaning c.args.ops.now) true c.args.input c.args.asked c.args.sent c.send_over.new.receiver c.send_over.new.receiver c.send_over.new.edge c.ask_over.new.edge c.send_over.new.sender c.send_over.new.sender c.args.below.now c.in-Ok-ask_over.ensures.made)

pub returns-in-Ok-true-clause-made : goal.returns-in-Ok-true-clause-made
returns-in-Ok-true-clause-made g c = λ _.
    let same = c.in-Err-NotEnabled.ensures.same in
    made_after g.M.Machine (g.O.Ops.meaning c.args.ops.now) true false c.args.input c.args.asked c.args.sent c.args.receiver.now c.send_over.new.receiver c.send_over.new.receiver c.args.edge.now c.ask_over.new.edge c.ask_over.new.edge c.args.sender.now c.send_over.new.sender c.step_over.new.node c.args.below.now c.step_over.new.below
    same.0 (c.in-Err.ensures.same ∙ same.1) same.2
    (step_here g.M.Machine (g.O.Ops.meaning c.args.ops.now) c.args.input c.args.asked c.args.sent c.send_over.new.receiver c.ask_over.new.edge c.send_over.new.sender c.step_over.new.node c.args.below.now c.step_over.new.below (c.in-Ok-true.ensures.made c.in-Ok-true.field-0-test))

pub returns-in-Err-NoMemory-clause-memory : goal.returns-in-Err-NoMemory-clause-memory
returns-in-Err-NoMemory-clause-memory g c = λ free. absurd (never c.in-Err-NoMemory.field-0 c.in-Err-NoMemory.field-0-is (c.in-Err-NoMemory.ensures.memory (send_free g.M.Machine (g.O.Ops.allocates c.args.ops.now) c.args.receiver.now c.args.sender.now free)))
  where
    never : (e : NotMade) → e ≡ NoMemory → e ≡ NotEnabled → ⊥
    never e h k = cc

pub returns-in-Err-step_over-clause-memory : goal.returns-in-Err-step_over-clause-memory
returns-in-Err-step_over-clause-memory g c = λ free.
    c.in-Err-step_over.ensures.memory (step_free g.M.Machine (g.O.Ops.allocates c.args.ops.now) c.args.receiver.now c.args.sender.now c.send_over.new.sender free c.in-Err-NotEnabled.ensures.same.2)

pub returns-in-Ok-true-clause-neither : goal.returns-in-Ok-true-clause-neither
returns-in-Ok-true-clause-neither g c = search rules

pub returns-in-Ok-true-clause-same : goal.returns-in-Ok-true-clause-same
returns-in-Ok-true-clause-same g c = search rules
