use Rattle.std.proofs.Common.{◌<◌, length, sym, arith}
use Rattle.rsx_graph_state.proofs.Graphs.{found}
use Rattle.rsx_graph_calls.specs.Regions.{regions_of}
use Rattle.rsx_graph.proofs.Kept.{region_there}
use Rattle.rsx_graph.proofs.graph.Graph.region.Goals as goal

pub returns-clause-region : goal.returns-clause-region
returns-clause-region g c = λ h s.
    let l = c.len.ensures in
    let within : c.args.sub.0 < length c.args.self.now.regions.roots.items = omega (arith, l, c.if-at-len.false) in
    region_there c.args.self.now.feeds.items (regions_of c.args.self.now.regions) h c.args.sub.0 c.index-region.result.now (found c.args.self.now.regions.roots.items c.args.sub.0 c.index-region.result.now within (sym c.index-region.ensures)) s.placed
