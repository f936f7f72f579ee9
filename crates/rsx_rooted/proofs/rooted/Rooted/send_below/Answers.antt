use Rattle.std.proofs.Common.{refl}
use Rattle.rsx_tree.specs.declared.look.NodeMove.TheVariants.{Send}
use Rattle.rsx_rooted.proofs.Parts.{made_inside, sent_below_root}
use Rattle.rsx_rooted.proofs.Trees.{send_not_closed}
use Rattle.rsx_rooted.proofs.rooted.Rooted.send_below.Goals as goal

pub returns-in-Ok-clause-made : goal.returns-in-Ok-clause-made
returns-in-Ok-clause-made g c =
    let m = g.O.Ops.meaning c.args.ops.now in
    let old = c.args.self.now in
    made_inside g.M.Machine m (Send c.args.at) old (record { tree = c.send.new.self; root = old.root }) (sent_below_root g.M.Machine m old c.send.new.self c.args.at c.requires c.in-Ok.ensures.effect)
    c.in-Ok.ensures.chosen c.in-Ok.ensures.balance
    (λ closed _. send_not_closed g.M.Machine m old.tree _ c.in-Ok.ensures.ok closed)
    refl c.send.ensures.alike
