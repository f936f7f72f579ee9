use Rattle.std.proofs.Common.{refl}
use Rattle.rsx_region.proofs.Singles.{pulled_goes}
use Rattle.rsx_region.proofs.Stands.{stands_root}
use Rattle.rsx_region.proofs.piece.Piece.pull.Goals as goal

pub returns-clause-run : goal.returns-clause-run
returns-clause-run g c = pulled_goes g.N.Machine (g.O.Ops.meaning c.args.ops.now) c.args.links.now c.args.self.now _ c.link_at-link.result.now c.pull.result (refl, refl) c.pull.ensures.end c.pull.ensures.pulled c.pull.ensures.after

pub returns-clause-stands : goal.returns-clause-stands
returns-clause-stands g c hubs opening h = stands_root g.N.Machine (g.O.Ops.meaning c.args.ops.now) hubs opening c.args.self.now _ (refl, refl) c.pull.ensures.end.2 (λ taken old queued k. c.pull.ensures.stands taken old queued k) (λ taken i k. c.pull.ensures.inlets taken i k) h
