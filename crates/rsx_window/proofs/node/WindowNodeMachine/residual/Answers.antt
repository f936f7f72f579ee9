use Rattle.std.proofs.Common.{rules}
use Rattle.std.proofs.lemmas.Result.{IfOk-weaker}
use Rattle.rsx_window.proofs.Rests.{owed}
use Rattle.rsx_window.proofs.node.WindowNodeMachine.residual.Goals as goal

pub returns : goal.returns
returns g c =
    let n = c.args.self.now in
    IfOk-weaker c.in_front.result _ _
    (λ v h. owed (g.O.Ops.meaning c.args.ops.now) n.size n.stages.items n.pending.left n.current c.args.incoming.now c.first_items-items.result.now c.new-out.result.items c.left_behind.new.self.items c.first_ending-ending.result c.in_ok-last.last c.new.result v
    c.first_items-items.ensures c.first_ending-ending.ensures c.new-out.ensures.items (search rules) c.new.ensures.items c.new.ensures.ending h)
    c.in_front.ensures
