use Rattle.std.proofs.Common.{◌∙◌, refl}
use Rattle.rsx_hub.proofs.Leaves.{residual_is, published_in, published_past}
use Rattle.rsx_hub.proofs.leaf.HubLeafMachine.residual.Goals as goal

pub returns-in-Some : goal.returns-in-Some
returns-in-Some g c =
    rw (← c.self.view_is)
    (residual_is (g.O.Ops.meaning c.args.ops.now) c.self.inside.hub c.self.inside.missed c.self.inside.before c.self.inside.member c.args.inboxes.now c.args.incoming.now _ c.rest.result c.self.invariant
    (published_in c.args.inboxes.now c.self.inside.hub c.in-Some.value.now c.in-Some.ensures.lookup.3.0 c.in-Some.ensures.lookup.1 ∙ rw (c.items.ensures, c.ending.ensures) refl) c.rest.ensures)

pub returns-in-None : goal.returns-in-None
returns-in-None g c =
    rw (← c.self.view_is)
    (residual_is (g.O.Ops.meaning c.args.ops.now) c.self.inside.hub c.self.inside.missed c.self.inside.before c.self.inside.member c.args.inboxes.now c.args.incoming.now _ c.rest-in-None.result c.self.invariant
    (published_past c.args.inboxes.now c.self.inside.hub c.in-None.ensures.lookup.3) c.rest-in-None.ensures)
