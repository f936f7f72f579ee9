use Rattle.std.proofs.Common.{arith, ap, subst, sym, ◌≡◌, ◌∙◌}
use Rattle.rsx_tree.specs.declared.look.NodeMove.{NodeMove}
use Rattle.rsx_tree.specs.declared.look.NodeMove.TheVariants.{Ask, Send, Pick, Row}
use Rattle.rsx_rooted.specs.Rooted.{IsMadeInto}
use Rattle.rsx_rooted.proofs.Parts.{alone_as, alone_root, made_into}
use Rattle.rsx_rooted.proofs.rooted.Rooted.make.Goals as goal

pub returns-in-Ok-clause-made : goal.returns-in-Ok-clause-made
returns-in-Ok-clause-made g c =
    let m = g.O.Ops.meaning c.args.ops.now in
    made_into g.M.Machine g.S.Sink m c.args.step (Ask c.in-Ask.node) c.args.self.now c.ask.new.self c.args.out.now c.in-Ask.is (c.in-Ok.ensures.made m)

pub returns-in-Ok-send_below-clause-made : goal.returns-in-Ok-send_below-clause-made
returns-in-Ok-send_below-clause-made g c =
    made_into g.M.Machine g.S.Sink (g.O.Ops.meaning c.args.ops.now) c.args.step (Send c.in-Send.node) c.args.self.now c.send_below.new.self c.args.out.now c.in-Send.is c.in-Ok-send_below.ensures.made

pub returns-in-Ok-send_root-clause-made : goal.returns-in-Ok-send_root-clause-made
returns-in-Ok-send_root-clause-made g c =
    let m = g.O.Ops.meaning c.args.ops.now in
    let zero : c.in-Send.node ≡ 0 = let z = c.if-node-gt0.false in omega (arith, z) in
    let P : NodeMove → Type 0 = λ step. IsMadeInto g.M.Machine g.S.Sink m step c.args.self.now c.args.out.now c.send_root.new.self c.send_root.new.out in
    subst P (sym (c.in-Send.is ∙ ap Send zero)) c.in-Ok-send_root.ensures.made

pub returns-in-Ok-pick-clause-made : goal.returns-in-Ok-pick-clause-made
returns-in-Ok-pick-clause-made g c =
    made_into g.M.Machine g.S.Sink (g.O.Ops.meaning c.args.ops.now) c.args.step (Pick c.in-Pick.node c.in-Pick.input) c.args.self.now c.pick.new.self c.args.out.now c.in-Pick.is c.in-Ok-pick.ensures.made

pub returns-in-Ok-make_row-clause-made : goal.returns-in-Ok-make_row-clause-made
returns-in-Ok-make_row-clause-made g c =
    made_into g.M.Machine g.S.Sink (g.O.Ops.meaning c.args.ops.now) c.args.step (Row c.in-Row.node) c.args.self.now c.make_row.new.self c.args.out.now c.in-Row.is c.in-Ok-make_row.ensures.made

pub returns-in-Ok-clause-alone : goal.returns-in-Ok-clause-alone
returns-in-Ok-clause-alone g c =
    alone_as g.M.Machine (g.O.Ops.meaning c.args.ops.now) c.args.step (Ask c.in-Ask.node) c.args.self.now c.ask.new.self c.in-Ask.is tt

pub returns-in-Ok-send_below-clause-alone : goal.returns-in-Ok-send_below-clause-alone
returns-in-Ok-send_below-clause-alone g c =
    alone_as g.M.Machine (g.O.Ops.meaning c.args.ops.now) c.args.step (Send c.in-Send.node) c.args.self.now c.send_below.new.self c.in-Send.is (λ some. c.in-Ok-send_below.ensures.received)

pub returns-in-Ok-send_root-clause-alone : goal.returns-in-Ok-send_root-clause-alone
returns-in-Ok-send_root-clause-alone g c =
    let m = g.O.Ops.meaning c.args.ops.now in
    alone_as g.M.Machine m c.args.step (Send c.in-Send.node) c.args.self.now c.send_root.new.self c.in-Send.is
    (alone_root g.M.Machine m c.in-Send.node c.args.self.now c.send_root.new.self c.if-node-gt0.false)

pub returns-in-Ok-pick-clause-alone : goal.returns-in-Ok-pick-clause-alone
returns-in-Ok-pick-clause-alone g c =
    alone_as g.M.Machine (g.O.Ops.meaning c.args.ops.now) c.args.step (Pick c.in-Pick.node c.in-Pick.input) c.args.self.now c.pick.new.self c.in-Pick.is c.in-Ok-pick.ensures.after

pub returns-in-Ok-make_row-clause-alone : goal.returns-in-Ok-make_row-clause-alone
returns-in-Ok-make_row-clause-alone g c =
    alone_as g.M.Machine (g.O.Ops.meaning c.args.ops.now) c.args.step (Row c.in-Row.node) c.args.self.now c.make_row.new.self c.in-Row.is tt
