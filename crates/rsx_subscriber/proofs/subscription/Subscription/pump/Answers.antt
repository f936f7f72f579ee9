use Rattle.std.proofs.Common.{◌∙◌, ◌≡◌, ◌+◌, arith, Ok}
use Rattle.rsx_types.specs.declared.fault.NoMemory.{NoMemory}
use Rattle.rsx_subscriber.proofs.Fetches.{rested_after}
use Rattle.rsx_subscriber.proofs.Moves.{pumped_more}
use Rattle.rsx_subscriber.proofs.subscription.Subscription.pump.Goals as goal

pub returns-in-Err-clause-pumped : goal.returns-in-Err-clause-pumped
returns-in-Err-clause-pumped g c = c.in-Err.ensures.pumped (g.O.Ops.meaning c.args.ops.now)

pub returns-in-Err-fetch-clause-pumped : goal.returns-in-Err-fetch-clause-pumped
returns-in-Err-fetch-clause-pumped g c =
    let m = g.O.Ops.meaning c.args.ops.now in
    let d = c.in-Ok.ensures.pumped m in
    let f = c.in-Err-fetch.ensures.pumped in
    let e = d.1 in
    let k = f.1 in
    (d.0 + f.0, omega (arith, e, k), pumped_more g.N.Machine g.N.Nodes m c.args.id d.0 f.0 c.args.self.now c.deliver.new.self c.fetch.new.self c.args.out.now.signals c.deliver.new.out.signals c.fetch.new.out.signals d.2 f.2)

pub returns-then-rests-clause-pumped : goal.returns-then-rests-clause-pumped
returns-then-rests-clause-pumped g c =
    let m = g.O.Ops.meaning c.args.ops.now in
    let d = c.in-Ok.ensures.pumped m in
    let f = c.in-Ok-fetch.ensures.pumped in
    let e = d.1 in
    let k = f.1 in
    (d.0 + f.0, (omega (arith, e, k), c.rests.ensures m c.if-rests.true), pumped_more g.N.Machine g.N.Nodes m c.args.id d.0 f.0 c.args.self.now c.deliver.new.self c.fetch.new.self c.args.out.now.signals c.deliver.new.out.signals c.fetch.new.out.signals d.2 f.2)

pub returns-in-Ok-settle-clause-pumped : goal.returns-in-Ok-settle-clause-pumped
returns-in-Ok-settle-clause-pumped g c =
    let m = g.O.Ops.meaning c.args.ops.now in
    let d = c.in-Ok.ensures.pumped m in
    let f = c.in-Ok-fetch.ensures.pumped in
    let s = c.in-Ok-settle.ensures.pumped in
    let e = d.1 in
    let k = f.1 in
    let all : (d.0 + f.0) + c.in-Ok-fetch.left ≡ c.args.budget = omega (arith, e, k) in
    let first = pumped_more g.N.Machine g.N.Nodes m c.args.id d.0 f.0 c.args.self.now c.deliver.new.self c.fetch.new.self c.args.out.now.signals c.deliver.new.out.signals c.fetch.new.out.signals d.2 f.2 in (
      (d.0 + f.0) + s.0,
      rested_after {E = NoMemory} g.N.Machine m c.args.budget c.in-Ok-fetch.left (d.0 + f.0) s.0 c.settle.new.self (Ok c.in-Ok-settle.ended) all s.1,
      pumped_more g.N.Machine g.N.Nodes m c.args.id (d.0 + f.0) s.0 c.args.self.now c.fetch.new.self c.settle.new.self c.args.out.now.signals c.fetch.new.out.signals c.settle.new.out.signals first s.2,
    )

pub returns-in-Err-settle-clause-pumped : goal.returns-in-Err-settle-clause-pumped
returns-in-Err-settle-clause-pumped g c =
    let m = g.O.Ops.meaning c.args.ops.now in
    let d = c.in-Ok.ensures.pumped m in
    let f = c.in-Ok-fetch.ensures.pumped in
    let s = c.in-Err-settle.ensures.pumped in
    let e = d.1 in
    let k = f.1 in
    let j = s.1 in
    let first = pumped_more g.N.Machine g.N.Nodes m c.args.id d.0 f.0 c.args.self.now c.deliver.new.self c.fetch.new.self c.args.out.now.signals c.deliver.new.out.signals c.fetch.new.out.signals d.2 f.2 in (
      (d.0 + f.0) + s.0,
      omega (arith, e, k, j),
      pumped_more g.N.Machine g.N.Nodes m c.args.id (d.0 + f.0) s.0 c.args.self.now c.fetch.new.self c.settle.new.self c.args.out.now.signals c.fetch.new.out.signals c.settle.new.out.signals first s.2,
    )

pub returns-in-Err-clause-memory : goal.returns-in-Err-clause-memory
returns-in-Err-clause-memory g c = λ _. c.in-Err.ensures.full

pub returns-in-Err-fetch-clause-memory : goal.returns-in-Err-fetch-clause-memory
returns-in-Err-fetch-clause-memory g c = λ _. c.in-Err-fetch.ensures.full

pub returns-in-Err-settle-clause-memory : goal.returns-in-Err-settle-clause-memory
returns-in-Err-settle-clause-memory g c = λ free.
    let a = g.O.Ops.allocates c.args.ops.now in
    let d = c.in-Ok.ensures.pumped (g.O.Ops.meaning c.args.ops.now) in
    let f = c.in-Ok-fetch.ensures.pumped in
    c.in-Err-settle.ensures.memory (f.2.alike.0 a ∙ (d.2.alike.0 a ∙ free))
