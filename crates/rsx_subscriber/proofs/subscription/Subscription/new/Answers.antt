use Rattle.std.proofs.Common.{ap, false, refl, subst, sym, ◌∙◌}
use Rattle.rsx_pipe.specs.Tree.{edges}
use Rattle.rsx_pipe.specs.Crossings.{IsPlaced}
use Rattle.rsx_subscriber.proofs.Begun.{begun, fresh_sub, stands_fresh}
use Rattle.rsx_subscriber.proofs.subscription.Subscription.new.Goals as goal

pub returns-clause-stands : goal.returns-clause-stands
returns-clause-stands g c = λ m hubs e published fine built taken.
    let t = c.step.ensures in
    let d = c.new-demand.ensures in
    let part = c.new-part.ensures in
    stands_fresh g.N.Machine m hubs published e _ fine taken (part.stands m hubs e published built taken) part.root (ap edges part.tree ∙ built.edges) c.in_ok-queue.ensures (begun _ c.new-demand.result d.asked d.sent t.state refl t.asked t.sent)

pub returns-clause-fresh : goal.returns-clause-fresh
returns-clause-fresh g c = λ m hubs e built placed.
    let t = c.step.ensures in
    let d = c.new-demand.ensures in
    let part = c.new-part.ensures in
    fresh_sub g.N.Machine m e _ part.root (ap edges part.tree ∙ built.edges) (subst (λ t. IsPlaced g.N.Machine.crosses e false t) (sym part.tree) placed) c.in_ok-queue.ensures (begun _ c.new-demand.result d.asked d.sent t.state refl t.asked t.sent)
