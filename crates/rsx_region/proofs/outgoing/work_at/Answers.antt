use Rattle.std.proofs.Common.{ap, ◌∙◌}
use Rattle.rsx_tree.specs.Edges.{is_live}
use Rattle.rsx_region.proofs.Growth.{link_worked}
use Rattle.rsx_region.proofs.Pieces.{live_from, stands_made_into}
use Rattle.rsx_region.proofs.outgoing.work_at.Goals as goal

pub returns-in-Ok-clause-stands : goal.returns-in-Ok-clause-stands
returns-in-Ok-clause-stands g c taken old queued up h =
    let live = live_from c.args.part.now.root.state c.is_live.result (c.is_live.ensures ∙ ap (λ e. is_live e.state) c.root_edge.ensures) c.if-not-is_live.false in
    let made = c.in-Ok.ensures.made in
    stands_made_into g.N.Machine (g.O.Ops.meaning c.args.ops.now) taken old queued c.args.step c.args.part.now c.make.new.self up made.0 live h made.1 made.2

pub returns-in-Ok-clause-inlets : goal.returns-in-Ok-clause-inlets
returns-in-Ok-clause-inlets g c taken i h =
    let made = c.in-Ok.ensures.made in
    link_worked g.N.Machine (g.O.Ops.meaning c.args.ops.now) taken c.args.step c.args.part.now c.make.new.self i.hub i.down i.closer made.0 c.in-Ok.ensures.enabled made.1 made.2 h

pub returns-in-Ok-clause-live : goal.returns-in-Ok-clause-live
returns-in-Ok-clause-live g c _ = live_from c.args.part.now.root.state c.is_live.result (c.is_live.ensures ∙ ap (λ e. is_live e.state) c.root_edge.ensures) c.if-not-is_live.false
