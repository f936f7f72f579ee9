use Rattle.std.proofs.Common.{◌≡◌, false, true, rules}
use Rattle.rsx_tree.specs.Edges.{is_live}
use Rattle.rsx_tree.proofs.Residuals.{residual_end, residual_past, residual_over}
use Rattle.rsx_tree.proofs.inputs.Inputs.+residual.Goals as goal

pub returns-in-End : goal.returns-in-End
returns-in-End g t c = residual_end g.M.Machine (g.O.Ops.meaning c.args.ops.now) c.args.inboxes.now c.args.self.now c.args.values.now.items c.in-End.is

pub returns-in-Ok : goal.returns-in-Ok
returns-in-Ok g t c =
    let m = g.O.Ops.meaning c.args.ops.now in
    let dead : is_live c.in-More.edge.state ≡ false = search rules in
    residual_past g.M.Machine m (g.met.M.Machine.settles m) c.args.inboxes.now c.args.self.now c.in-More.edge c.in-More.machine c.in-More.below c.in-More.beside c.deref.result.now c.args.values.now.items c.push.new.self.items c.residual.new.values.items c.new-then-not-is_live.result
    c.in-More.is c.deref.ensures dead c.in_ok-push-in-More.ensures.items c.in-Ok.ensures

pub returns-in-Ok-residual-2 : goal.returns-in-Ok-residual-2
returns-in-Ok-residual-2 g t c =
    let m = g.O.Ops.meaning c.args.ops.now in
    let live : is_live c.in-More.edge.state ≡ true = search rules in
    residual_over g.M.Machine m (g.met.M.Machine.drops m) (g.met.M.Machine.done_drops m) (g.met.M.Machine.settles m) c.args.inboxes.now c.args.self.now c.in-More.edge c.in-More.machine c.in-More.below c.in-More.beside c.deref-in-More.result.now c.deref-in-More-2.result.now c.args.values.now.items c.push-in-More.new.self.items c.residual-in-More-3.new.values.items
    c.new-incoming.result.items c.residual-in-More.new.values.items c.as_slice.result.now c.in_ok-value-in-More.value
    c.in-More.is c.deref-in-More.ensures c.deref-in-More-2.ensures live c.new-incoming.ensures.items c.in-Ok-residual.ensures c.as_slice.ensures.value c.in_ok-value-in-More.ensures c.in_ok-push-in-More-2.ensures.items c.in-Ok-residual-2.ensures
