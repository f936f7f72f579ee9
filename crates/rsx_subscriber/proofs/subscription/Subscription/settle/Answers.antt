use Rattle.std.proofs.Common.{◌≡◌, ◌+◌, ◌∙◌, arith, true, false}
use Rattle.std.proofs.lemmas.Bool.{false≢true}
use Rattle.rsx_types.specs.declared.fault.NoMemory.{NoMemory}
use Rattle.rsx_subscriber.specs.Delivered.{IsFull}
use Rattle.rsx_subscriber.proofs.Moves.{pumped_more, pumped_none, rest_ended, awake_part, rest_quiet}
use Rattle.rsx_subscriber.proofs.subscription.Subscription.settle.Goals as goal

pub returns-in-Ok-Budget-clause-pumped : goal.returns-in-Ok-Budget-clause-pumped
returns-in-Ok-Budget-clause-pumped g c =
    let m = g.O.Ops.meaning c.args.ops.now in
    let done = c.loop-round.invariant.1 in
    let p = rw c.in-Ok-Budget.field-0-is at c.in-Ok-Budget.ensures.pumped in
    let e = done.1 in
    let k = p.1.0 in
    (done.0 + p.0, (omega (arith, e, k), awake_part g.N.Machine m c.pump_part.new.self p.1.1), pumped_more g.N.Machine g.N.Nodes m c.args.id done.0 p.0 c.args.self.now c.loop-round.self c.pump_part.new.self c.args.out.now.signals c.loop-round.out.signals c.loop-round.out.signals done.2 (p.2 c.loop-round.out.signals))

pub returns-in-Err-clause-pumped : goal.returns-in-Err-clause-pumped
returns-in-Err-clause-pumped g c =
    let m = g.O.Ops.meaning c.args.ops.now in
    let done = c.loop-round.invariant.1 in
    let p = c.in-Err.ensures.pumped in
    let e = done.1 in
    let k = p.1 in
    (done.0 + p.0, omega (arith, e, k), pumped_more g.N.Machine g.N.Nodes m c.args.id done.0 p.0 c.args.self.now c.loop-round.self c.pump_part.new.self c.args.out.now.signals c.loop-round.out.signals c.loop-round.out.signals done.2 (p.2 c.loop-round.out.signals))

pub returns-in-Err-deliver-clause-pumped : goal.returns-in-Err-deliver-clause-pumped
returns-in-Err-deliver-clause-pumped g c =
    let m = g.O.Ops.meaning c.args.ops.now in
    let done = c.loop-round.invariant.1 in
    let p = rw c.in-Ok-Idle.field-0-is at c.in-Ok-Idle.ensures.pumped in
    let d = c.in-Err-deliver.ensures.pumped m in
    let e = done.1 in
    let k = p.1.0 in
    let j = d.1 in
    let first = pumped_more g.N.Machine g.N.Nodes m c.args.id done.0 p.0 c.args.self.now c.loop-round.self c.pump_part.new.self c.args.out.now.signals c.loop-round.out.signals c.loop-round.out.signals done.2 (p.2 c.loop-round.out.signals) in
    ((done.0 + p.0) + d.0, omega (arith, e, k, j), pumped_more g.N.Machine g.N.Nodes m c.args.id (done.0 + p.0) d.0 c.args.self.now c.pump_part.new.self c.deliver.new.self c.args.out.now.signals c.loop-round.out.signals c.deliver.new.out.signals first d.2)

pub returns-in-Err-fetch-clause-pumped : goal.returns-in-Err-fetch-clause-pumped
returns-in-Err-fetch-clause-pumped g c =
    let m = g.O.Ops.meaning c.args.ops.now in
    let done = c.loop-round.invariant.1 in
    let p = rw c.in-Ok-Idle.field-0-is at c.in-Ok-Idle.ensures.pumped in
    let d = c.in-Ok.ensures.pumped m in
    let f = c.in-Err-fetch.ensures.pumped in
    let e = done.1 in
    let k = p.1.0 in
    let j = d.1 in
    let i = f.1 in
    let first = pumped_more g.N.Machine g.N.Nodes m c.args.id done.0 p.0 c.args.self.now c.loop-round.self c.pump_part.new.self c.args.out.now.signals c.loop-round.out.signals c.loop-round.out.signals done.2 (p.2 c.loop-round.out.signals) in
    let second = pumped_more g.N.Machine g.N.Nodes m c.args.id (done.0 + p.0) d.0 c.args.self.now c.pump_part.new.self c.deliver.new.self c.args.out.now.signals c.loop-round.out.signals c.deliver.new.out.signals first d.2 in
    (((done.0 + p.0) + d.0) + f.0, omega (arith, e, k, j, i), pumped_more g.N.Machine g.N.Nodes m c.args.id ((done.0 + p.0) + d.0) f.0 c.args.self.now c.deliver.new.self c.fetch.new.self c.args.out.now.signals c.deliver.new.out.signals c.fetch.new.out.signals second f.2)

pub returns-then-behind-before-clause-pumped : goal.returns-then-behind-before-clause-pumped
returns-then-behind-before-clause-pumped g c =
    let m = g.O.Ops.meaning c.args.ops.now in
    let done = c.loop-round.invariant.1 in
    let p = rw c.in-Ok-Idle.field-0-is at c.in-Ok-Idle.ensures.pumped in
    let d = c.in-Ok.ensures.pumped m in
    let e = done.1 in
    let k = p.1.0 in
    let j = d.1 in
    let all : ((done.0 + p.0) + d.0) + c.in-Ok.left ≡ c.args.budget = omega (arith, e, k, j) in
    let same = c.in-Ok.ensures.none c.if-behind-before.true in
    let first = pumped_more g.N.Machine g.N.Nodes m c.args.id done.0 p.0 c.args.self.now c.loop-round.self c.pump_part.new.self c.args.out.now.signals c.loop-round.out.signals c.loop-round.out.signals done.2 (p.2 c.loop-round.out.signals) in (
      (done.0 + p.0) + d.0,
      rest_ended g.N.Machine NoMemory m c.args.budget ((done.0 + p.0) + d.0) c.in-Ok.left c.deliver.new.self c.rest.result all (c.rest.ensures m (λ some. rest_quiet g.N.Machine m c.pump_part.new.self c.deliver.new.self same (c.in-Ok.ensures.rest some) p.1.1)),
      pumped_more g.N.Machine g.N.Nodes m c.args.id (done.0 + p.0) d.0 c.args.self.now c.pump_part.new.self c.deliver.new.self c.args.out.now.signals c.loop-round.out.signals c.deliver.new.out.signals first d.2,
    )

pub loop-round-preserved : goal.loop-round-preserved
loop-round-preserved g c =
    let m = g.O.Ops.meaning c.args.ops.now in
    let within = c.loop-round.invariant.0 in
    let done = c.loop-round.invariant.1 in
    let p = rw c.in-Ok-Idle.field-0-is at c.in-Ok-Idle.ensures.pumped in
    let d = c.in-Ok.ensures.pumped m in
    let f = c.in-Ok-fetch.ensures.pumped in
    let e = done.1 in
    let k = p.1.0 in
    let j = d.1 in
    let i = f.1 in
    let n = c.if-behind-before.false in
    let first = pumped_more g.N.Machine g.N.Nodes m c.args.id done.0 p.0 c.args.self.now c.loop-round.self c.pump_part.new.self c.args.out.now.signals c.loop-round.out.signals c.loop-round.out.signals done.2 (p.2 c.loop-round.out.signals) in
    let second = pumped_more g.N.Machine g.N.Nodes m c.args.id (done.0 + p.0) d.0 c.args.self.now c.pump_part.new.self c.deliver.new.self c.args.out.now.signals c.loop-round.out.signals c.deliver.new.out.signals first d.2 in (
      omega (arith, within, k, j, i, n),
      (((done.0 + p.0) + d.0) + f.0, omega (arith, e, k, j, i), pumped_more g.N.Machine g.N.Nodes m c.args.id ((done.0 + p.0) + d.0) f.0 c.args.self.now c.deliver.new.self c.fetch.new.self c.args.out.now.signals c.deliver.new.out.signals c.fetch.new.out.signals second f.2),
    )

pub returns-clause-pumped : goal.returns-clause-pumped
returns-clause-pumped g c =
    let m = g.O.Ops.meaning c.args.ops.now in
    let within = c.loop-round.invariant.0 in
    let done = c.loop-round.invariant.1 in
    let t = c.loop-round-test.false in
    (done.0, rest_ended g.N.Machine NoMemory m c.args.budget done.0 c.loop-round.left c.loop-round.self c.rest-2.result done.1 (c.rest-2.ensures m (λ some. absurd (omega (arith, within, t, some)))), done.2)

pub returns-in-Err-clause-memory : goal.returns-in-Err-clause-memory
returns-in-Err-clause-memory g c = λ free.
    let done = c.loop-round.invariant.1 in
    absurd {A = IsFull c.loop-round.out} (false≢true (c.in-Err.ensures.memory (done.2.alike.0 (g.O.Ops.allocates c.args.ops.now) ∙ free)))

pub returns-in-Err-fetch-clause-memory : goal.returns-in-Err-fetch-clause-memory
returns-in-Err-fetch-clause-memory g c = λ _. c.in-Err-fetch.ensures.full

pub returns-in-Err-deliver-clause-memory : goal.returns-in-Err-deliver-clause-memory
returns-in-Err-deliver-clause-memory g c = λ _. c.in-Err-deliver.ensures.full

pub loop-round-init : goal.loop-round-init
loop-round-init g c = (omega arith, (0, omega arith, pumped_none g.N.Machine g.N.Nodes (g.O.Ops.meaning c.args.ops.now) c.args.id c.args.self.now c.args.out.now.signals))
