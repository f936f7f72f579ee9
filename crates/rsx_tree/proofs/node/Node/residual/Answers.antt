use Rattle.std.proofs.lemmas.Result.{IfOk-weaker}
use Rattle.rsx_tree.proofs.Residuals.{tree_residual}
use Rattle.rsx_tree.proofs.node.Node.residual.Goals as goal

pub returns : goal.returns
returns g c =
    let m = g.O.Ops.meaning c.args.ops.now in
    IfOk-weaker c.residual-2.result _ _ (λ v h. tree_residual g.M.Machine m (g.met.M.Machine.drops m) (g.met.M.Machine.done_drops m) (g.met.M.Machine.settles m) c.args.inboxes.now c.args.self.now c.new-incoming.result.items c.residual.new.values.items c.as_slice.result.now v c.new-incoming.ensures.items c.in_ok-residual.ensures c.as_slice.ensures.value h) c.residual-2.ensures
