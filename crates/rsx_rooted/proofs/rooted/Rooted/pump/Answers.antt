use Rattle.std.proofs.Common.{arith, ◌≡◌, ◌≤◌, ◌+◌, ◌∙◌}
use Rattle.rsx_types.specs.declared.fault.NoMemory.{NoMemory}
use Rattle.rsx_rooted.proofs.Parts.{pumped_none, pumped_on, spent_ended}
use Rattle.rsx_rooted.proofs.rooted.Rooted.pump.Goals as goal

pub loop-round-init : goal.loop-round-init
loop-round-init g c = (omega arith, (0, omega arith, pumped_none g.M.Machine g.S.Sink (g.O.Ops.meaning c.args.ops.now) c.args.self.now c.args.out.now))

pub returns-then-left-before-clause-pumped : goal.returns-then-left-before-clause-pumped
returns-then-left-before-clause-pumped g c =
    let m = g.O.Ops.meaning c.args.ops.now in
    let done = c.loop-round.invariant.1 in
    let more = c.in-Ok.ensures.pumped in
    let e = done.1 in
    let k = more.1 in (
      done.0 + more.0,
      (omega (arith, e, k), c.in-Ok.ensures.idle c.if-left-before.true),
      pumped_on g.M.Machine g.S.Sink m done.0 more.0 c.args.self.now c.loop-round.self c.round.new.self c.args.out.now c.loop-round.out c.round.new.out done.2 more.2,
    )

pub returns-then-left-eq0-clause-pumped : goal.returns-then-left-eq0-clause-pumped
returns-then-left-eq0-clause-pumped g c =
    let m = g.O.Ops.meaning c.args.ops.now in
    let done = c.loop-round.invariant.1 in
    let all : done.0 ≡ c.args.budget = let e = done.1 in let z = c.if-left-eq0.true in omega (arith, e, z) in
    (done.0, spent_ended g.M.Machine NoMemory m c.args.budget done.0 c.loop-round.self (g.S.Sink.room c.loop-round.out) c.spent.result all (c.spent.ensures m), done.2)

pub returns-in-Err-clause-pumped : goal.returns-in-Err-clause-pumped
returns-in-Err-clause-pumped g c =
    let m = g.O.Ops.meaning c.args.ops.now in
    let done = c.loop-round.invariant.1 in
    let more = c.in-Err.ensures.pumped in
    let within : done.0 + more.0 ≤ c.args.budget = let e = done.1 in let k = more.1 in omega (arith, e, k) in
    (done.0 + more.0, within, pumped_on g.M.Machine g.S.Sink m done.0 more.0 c.args.self.now c.loop-round.self c.round.new.self c.args.out.now c.loop-round.out c.round.new.out done.2 more.2)

pub loop-round-preserved : goal.loop-round-preserved
loop-round-preserved g c =
    let m = g.O.Ops.meaning c.args.ops.now in
    let done = c.loop-round.invariant.1 in
    let within = c.loop-round.invariant.0 in
    let more = c.in-Ok.ensures.pumped in
    let e = done.1 in
    let k = more.1 in
    let n = c.if-left-before.false in (
      omega (arith, within, k, n),
      (done.0 + more.0, omega (arith, e, k), pumped_on g.M.Machine g.S.Sink m done.0 more.0 c.args.self.now c.loop-round.self c.round.new.self c.args.out.now c.loop-round.out c.round.new.out done.2 more.2),
    )

pub returns-clause-pumped : goal.returns-clause-pumped
returns-clause-pumped g c =
    let m = g.O.Ops.meaning c.args.ops.now in
    let done = c.loop-round.invariant.1 in
    let within = c.loop-round.invariant.0 in
    let all : done.0 ≡ c.args.budget = let e = done.1 in let z = c.loop-round-test.false in omega (arith, e, within, z) in
    (done.0, spent_ended g.M.Machine NoMemory m c.args.budget done.0 c.loop-round.self (g.S.Sink.room c.loop-round.out) c.spent-2.result all (c.spent-2.ensures m), done.2)

pub returns-in-Err-clause-memory : goal.returns-in-Err-clause-memory
returns-in-Err-clause-memory g c = λ free.
    let done = c.loop-round.invariant.1 in
    c.in-Err.ensures.memory (done.2.alike.0 (g.O.Ops.allocates c.args.ops.now) ∙ free)
