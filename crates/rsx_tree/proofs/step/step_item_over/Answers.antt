use Rattle.std.proofs.Common.{rules}
use Rattle.rsx_types.specs.declared.signal.Signal.TheVariants.{Next}
use Rattle.rsx_tree.proofs.Popped.{stepped_out}
use Rattle.rsx_tree.proofs.step.step_item_over.Goals as goal

pub returns-in-Some-clause-out : goal.returns-in-Some-clause-out
returns-in-Some-clause-out g c =
    stepped_out g.M.Machine (g.O.Ops.meaning c.args.ops.now) c.args.edge.now c.args.node.now c.step_item.new.self c.args.below.now c.close_if.new.self c.in-Some.item
    (λ mid gone. g.met.M.Machine.popped_alike mid (Next c.in-Some.item) c.step_item.new.self gone) (search rules) c.in-Some.ensures.out c.in-Some.ensures.alike (search rules)
