use Rattle.std.proofs.Common.{◌≡◌, true, rules}
use Rattle.rsx_tree.specs.Stepped.{over}
use Rattle.rsx_tree.proofs.Resting.{rests}
use Rattle.rsx_tree.proofs.look.first_step.Goals as goal

pub returns-then-never_steps-clause-none : goal.returns-then-never_steps-clause-none
returns-then-never_steps-clause-none g c =
    let yes : c.never_steps.result ≡ true = search rules in
    rests g.M.Machine (over c.args.edge.now c.args.node.now) (c.never_steps.ensures yes)
