use Rattle.std.proofs.Common.{refl}
use Rattle.rsx_link.specs.Ends.{IsUpOf}
use Rattle.rsx_region.proofs.Ends.{ends_root, link_is}
use Rattle.rsx_region.proofs.Seen.{looked_seen}
use Rattle.rsx_region.proofs.Singles.{looked_carried, looked_goes}
use Rattle.rsx_region.proofs.Stands.{stands_root}
use Rattle.rsx_region.proofs.piece.Piece.look.Goals as goal

pub look-requires-clause-end : goal.look-requires-clause-end
look-requires-clause-end g c = link_is c.args.links.now c.args.self.now.link (λ l. IsUpOf l c.args.self.now.up) c.link_at-link.result.now c.link_at-link.ensures c.requires.sends

pub returns-clause-ends : goal.returns-clause-ends
returns-clause-ends g c = ends_root c.args.links.now c.args.self.now _ c.link_at-link.result.now c.link_at-link.ensures (refl, refl) c.look.ensures.end c.look.ensures.step c.requires

pub returns-clause-run : goal.returns-clause-run
returns-clause-run g c m = looked_goes g.N.Machine m c.args.links.now c.args.self.now _ c.link_at-link.result.now c.look.result c.link_at-link.ensures (refl, refl) (c.look.ensures.looked m) c.look.ensures.live c.look.ensures.none

pub returns-clause-stands : goal.returns-clause-stands
returns-clause-stands g c m hubs opening h = stands_root g.N.Machine m hubs opening c.args.self.now _ (refl, refl) (looked_carried g.N.Machine m c.link_at-link.result.now c.args.self.now.part c.look.new.part c.args.self.now.up c.look.new.up c.look.result (c.look.ensures.looked m) c.look.ensures.none) (λ taken old queued k. c.look.ensures.stands m taken old queued k) (λ taken i k. c.look.ensures.inlets taken i k) h

pub returns-clause-seen : goal.returns-clause-seen
returns-clause-seen g c m live = looked_seen g.N.Machine m c.link_at-link.result.now c.args.self.now _ c.look.result (c.look.ensures.looked m) c.look.ensures.none live
