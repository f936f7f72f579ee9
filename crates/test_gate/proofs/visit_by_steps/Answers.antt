use Rattle.std.proofs.Common.{rules, ◌≡◌, arith}
use Rattle.test_gate.proofs.visit_by_steps.Goals as goal

-- the loop has ended, so all rounds were made
pub returns-clause-steps : goal.returns-clause-steps
returns-clause-steps c =
    let all : c.loop-round.round ≡ 8 = omega (arith, c.loop-round.auto.round-end, c.loop-round-test.false) in
    (c.loop-round.round, c.release.ensures.0.0, c.loop-round.seat.me.0.steps, search rules, search rules, all, search rules)
