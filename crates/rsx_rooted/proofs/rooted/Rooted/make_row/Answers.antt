use Rattle.std.proofs.Common.{refl}
use Rattle.rsx_tree.specs.Edges.{edge_view}
use Rattle.rsx_tree.specs.declared.look.NodeMove.TheVariants.{Row}
use Rattle.rsx_tree.proofs.Shut.{row_alive}
use Rattle.rsx_rooted.proofs.Parts.{made_inside}
use Rattle.rsx_rooted.proofs.rooted.Rooted.make_row.Goals as goal

pub returns-in-Ok-clause-made : goal.returns-in-Ok-clause-made
returns-in-Ok-clause-made g c =
    let m = g.O.Ops.meaning c.args.ops.now in
    let old = c.args.self.now in
    let e = c.in-Ok.ensures in
    made_inside g.M.Machine m (Row c.args.at) old (record { tree = c.make_row.new.self; root = old.root }) (refl, record { tree = e.effect; root = refl })
    e.chosen e.balance (λ closed dead. row_alive g.M.Machine old.tree (edge_view old.root) c.args.at e.enabled closed dead)
    refl c.make_row.ensures.alike
