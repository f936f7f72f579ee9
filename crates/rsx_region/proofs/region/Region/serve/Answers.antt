use Rattle.std.proofs.Common.{sym, subst}
use Rattle.rsx_region.specs.Regions.{AreAtRest, ArePiecesOf, RegionStands}
use Rattle.rsx_region.proofs.region.Region.serve.Goals as goal

-- The pieces are those that were served: what is known of their ends stands beside them.
pub returns-clause-ends : goal.returns-clause-ends
returns-clause-ends g c = subst (λ pieces. ArePiecesOf c.args.links.now pieces.items) (sym c.touched.ensures.0) c.serve_pieces-answer.ensures.ends

pub returns-clause-idle : goal.returns-clause-idle
returns-clause-idle g c h =
    subst (λ pieces. AreAtRest g.N.Machine (g.O.Ops.meaning c.args.ops.now) pieces.items) (sym c.touched.ensures.0) (c.serve_pieces-answer.ensures.idle h)

pub returns-clause-stands : goal.returns-clause-stands
returns-clause-stands g c hubs opening s =
    subst (λ pieces. RegionStands g.N.Machine (g.O.Ops.meaning c.args.ops.now) hubs opening pieces.items) (sym c.touched.ensures.0)
    (c.serve_pieces-answer.ensures.stands hubs opening s)
