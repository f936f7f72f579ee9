use Rattle.rsx_region.proofs.Cuts.{opened_for, reader_made}
use Rattle.rsx_region.specs.declared.halves.TheConstants.{LINK_PLACES, READER_PLACES}
use Rattle.rsx_region.proofs.cutting.make_link.Goals as goal

pub returns : goal.returns
returns g c =
    let made = c.in_ok-inlet.ensures in
    let reader = c.in_ok-reader.ensures in
    record {
      reads = reader_made g.N.Machine g.N.CrossingNodes c.in_ok-member.member READER_PLACES c.args.hub c.args.edge.demand.sent c.in_ok-reader.reader c.in_ok-member.ensures reader.held reader.reads reader.goes_on reader.counted;
      opened = opened_for LINK_PLACES c.args.edge.demand.asked c.args.edge.demand.sent c.in_ok-link.link c.in_ok-link.up c.in_ok-link.down c.in_ok-inlet.inlet.down c.in_ok-link.closer c.in_ok-inlet.inlet.closer made.1 made.2 c.in_ok-link.ensures;
      hub = made.0;
    }
