use Rattle.std.proofs.Common.{refl, sym, ap, ◌∙◌}
use Rattle.rsx_tree.specs.Edges.{is_live}
use Rattle.rsx_tree.specs.declared.edge.Edge.{Edge}
use Rattle.rsx_region.proofs.Ends.{ends_root}
use Rattle.rsx_region.proofs.Runs.{goes_none}
use Rattle.rsx_region.proofs.Singles.{dead_stays, live_is, stepped_goes, stepped_stayed}
use Rattle.rsx_region.proofs.Stands.{stands_root}
use Rattle.rsx_region.proofs.piece.Piece.step.Goals as goal

pub returns-clause-ends : goal.returns-clause-ends
returns-clause-ends g c = ends_root c.args.links.now c.args.self.now _ c.link_at-link.result.now c.link_at-link.ensures (refl, refl) c.step.ensures.end.0 c.step.ensures.step c.requires

pub returns-clause-run : goal.returns-clause-run
returns-clause-run g c =
    let of = λ (e : Edge). is_live e.state in
    let live = live_is c.args.self.now.part.root.state (sym (ap of c.root_edge.ensures) ∙ (sym c.is_live.ensures ∙ c.if-not-is_live.false)) in
    stepped_goes g.N.Machine (g.O.Ops.meaning c.args.ops.now) c.args.links.now c.args.self.now _ c.link_at-link.result.now c.step.result live (refl, refl) c.step.ensures.end c.step.ensures.made c.step.ensures.still c.step.ensures.same

pub returns-clause-still : goal.returns-clause-still
returns-clause-still g c = stepped_stayed g.N.Machine (g.O.Ops.meaning c.args.ops.now) c.args.self.now _ c.link_at-link.result.now c.step.result (refl, refl) c.step.ensures.end c.step.ensures.still

pub returns-clause-stands : goal.returns-clause-stands
returns-clause-stands g c hubs opening h = stands_root g.N.Machine (g.O.Ops.meaning c.args.ops.now) hubs opening c.args.self.now _ (refl, refl) c.step.ensures.end.2 (λ taken old queued k. c.step.ensures.stands taken old queued k) (λ taken i k. c.step.ensures.inlets taken i k) h

pub returns-then-not-is_live-clause-run : goal.returns-then-not-is_live-clause-run
returns-then-not-is_live-clause-run g c = goes_none g.N.Machine (g.O.Ops.meaning c.args.ops.now) c.args.links.now c.args.self.now

pub returns-then-not-is_live-clause-still : goal.returns-then-not-is_live-clause-still
returns-then-not-is_live-clause-still g c _ =
    let of = λ (e : Edge). is_live e.state in
    dead_stays g.N.Machine (g.O.Ops.meaning c.args.ops.now) c.args.self.now (sym (ap of c.root_edge.ensures) ∙ (sym c.is_live.ensures ∙ c.if-not-is_live.true))
