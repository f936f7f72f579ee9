use Rattle.std.proofs.Common.{◌∙◌, ap, arith, [], ◌∷◌, ◌++◌}
use Rattle.rsx_graph_moves.proofs.Pictures.{row_looked}
use Rattle.rsx_graph_moves.proofs.picturing.+add_row.Goals as goal

pub returns-in-Ok : goal.returns-in-Ok
returns-in-Ok g t c =
    let ok = c.args.looks.now.ok in
    let count = c.len-node.ensures in
    row_looked g.N.Machine g.N.Nodes c.args.machine.now c.args.row.now c.in-More.edge c.in-More.sender c.in-More.below c.in-More.beside _ _ c.args.looks.now.items c.push.new.self.items c.add_row.new.looks.items c.add_row-in-Ok.new.looks.items c.args.receiver c.args.input c.len-node.result c.queued_at-queued.result c.add_row-in-Ok.result c.in-More.is c.deref.ensures c.deref-in-Ok.ensures c.queued_at-queued.ensures (c.in_ok-push-in-More.ensures.items ∙ ap (λ x. c.args.looks.now.items ++ x ∷ []) c.in_ok-look-in-More.ensures) (omega (arith, ok, count)) c.in-Ok.ensures c.add_row-in-Ok.ensures
