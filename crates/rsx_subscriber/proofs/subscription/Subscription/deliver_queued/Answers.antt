use Rattle.std.proofs.Common.{◌+◌, ◌≤◌, arith, refl}
use Rattle.rsx_subscriber.specs.Pumped.{IsPumped}
use Rattle.rsx_subscriber.proofs.Moves.{pumped_more, pumped_none}
use Rattle.rsx_subscriber.proofs.subscription.Subscription.deliver_queued.Goals as goal

pub loop-made-init : goal.loop-made-init
loop-made-init g c = (λ m. pumped_none g.N.Machine g.N.Nodes m c.args.id c.args.self.now c.args.out.now.signals, λ z. refl)

pub returns-in-Err-clause-pumped : goal.returns-in-Err-clause-pumped
returns-in-Err-clause-pumped g c = λ m.
    let t = c.loop-made-test.true in
    let within : c.loop-made.made + 0 ≤ c.args.budget = omega (arith, t) in
    (c.loop-made.made + 0, within, pumped_more g.N.Machine g.N.Nodes m c.args.id c.loop-made.made 0 c.args.self.now c.loop-made.self c.advance_queue.new.self c.args.out.now.signals c.loop-made.out.signals c.advance_queue.new.out.signals (c.loop-made.invariant.0 m) (c.in-Err.ensures.pumped m))

pub loop-made-preserved : goal.loop-made-preserved
loop-made-preserved g c = (
  λ m.
      let one : IsPumped g.N.Machine g.N.Nodes m c.args.id 1 c.loop-made.self c.loop-made.out.signals c.advance_queue.new.self c.advance_queue.new.out.signals = rw c.in-Ok-true.field-0-test at (c.in-Ok-true.ensures.pumped m) in
      pumped_more g.N.Machine g.N.Nodes m c.args.id c.loop-made.made 1 c.args.self.now c.loop-made.self c.advance_queue.new.self c.args.out.now.signals c.loop-made.out.signals c.advance_queue.new.out.signals (c.loop-made.invariant.0 m) one,
  λ z. absurd (omega (arith, z)),
)
