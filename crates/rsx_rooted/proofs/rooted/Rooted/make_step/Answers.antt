use Rattle.std.proofs.Common.{refl}
use Rattle.rsx_tree.specs.declared.look.NodeMove.TheVariants.{Pick, Row}
use Rattle.rsx_rooted.specs.Rooted.{no_room}
use Rattle.rsx_rooted.proofs.Parts.{made_into, pumped_made}
use Rattle.rsx_rooted.proofs.rooted.Rooted.make_step.Goals as goal

pub returns-in-Ok-clause-made : goal.returns-in-Ok-clause-made
returns-in-Ok-clause-made g c = λ _.
    let m = g.O.Ops.meaning c.args.ops.now in
    let step = Pick c.in-Pick.node c.in-Pick.input in
    pumped_made g.M.Machine no_room m step c.args.self.now c.pick.new.self tt tt c.in-Ok.ensures.enabled (made_into g.M.Machine no_room m step step c.args.self.now c.pick.new.self tt refl c.in-Ok.ensures.made)

pub returns-in-Ok-make_row-clause-made : goal.returns-in-Ok-make_row-clause-made
returns-in-Ok-make_row-clause-made g c = λ _.
    let m = g.O.Ops.meaning c.args.ops.now in
    let step = Row c.in-Row.node in
    pumped_made g.M.Machine no_room m step c.args.self.now c.make_row.new.self tt tt c.in-Ok-make_row.ensures.enabled (made_into g.M.Machine no_room m step step c.args.self.now c.make_row.new.self tt refl c.in-Ok-make_row.ensures.made)
