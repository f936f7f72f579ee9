use Rattle.std.proofs.Common.{w64}
use Rattle.std.proofs.lemmas.Int.{to_z-of_z}
use Rattle.rsx_live_parts.proofs.Taps.{asked_so}
use Rattle.rsx_live.proofs.graph.LiveGraph.request.Goals as goal

pub returns-clause-requested : goal.returns-clause-requested
returns-clause-requested g c = asked_so _ c.args.n c.request.result c.args.sub c.args.taps.now.items c.request.new.taps.items (to_z-of_z w64 c.args.n c.ranges.n) c.request.ensures.requested
