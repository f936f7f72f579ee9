use Rattle.std.proofs.Common.{arith, length, subst, Some}
use Rattle.rsx_graph_state.specs.Prelude.{IsSubMoveRefusal, IsMadeAt, enabled_at}
use Rattle.rsx_types.specs.declared.names.Move.{Move}
use Rattle.rsx_types.specs.declared.names.Tree.TheVariants.{Sub}
use Rattle.rsx_graph_state.proofs.Alone.{alone_delivered}
use Rattle.rsx_graph_moves.proofs.Named.{root_take}
use Rattle.rsx_graph_moves.proofs.moves.take_in_tree.Goals as goal

pub returns-in-Ok-take-clause-effect : goal.returns-in-Ok-take-clause-effect
returns-in-Ok-take-clause-effect g c =
    let m = g.O.Ops.meaning c.args.ops.now in
    let P : Move → Type 0 = λ mv. IsMadeAt g.N.Machine g.N.Nodes m mv c.args.sub.0 c.args.subscriptions.now.items c.take.new.subscriptions.items (Some (c.args.sub, c.in-Ok-take.signal)) in
    subst P (root_take c.args.sub c.args.node (omega (arith, c.if-node-gt0.false))) (c.in-Ok-take.ensures.effect m)

pub returns-in-Err-take-clause-err : goal.returns-in-Err-take-clause-err
returns-in-Err-take-clause-err g c =
    let m = g.O.Ops.meaning c.args.ops.now in
    let subs = c.args.subscriptions.now.items in
    let P : Move → Type 0 = λ mv. IsSubMoveRefusal (length subs) (enabled_at g.N.Machine g.N.Nodes m subs c.args.sub.0 mv) c.args.sub c.in-Err-take.why in
    subst P (root_take c.args.sub c.args.node (omega (arith, c.if-node-gt0.false))) (c.in-Err-take.ensures.err m)

pub returns-in-Ok-take-clause-alone : goal.returns-in-Ok-take-clause-alone
returns-in-Ok-take-clause-alone g c = λ old new was now.
    alone_delivered g.N.Machine g.N.Nodes (g.O.Ops.meaning c.args.ops.now) (Sub c.args.sub) c.args.node old new (omega (arith, c.if-node-gt0.false))
