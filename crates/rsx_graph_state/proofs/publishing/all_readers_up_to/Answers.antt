use Rattle.std.proofs.Common.{arith}
use Rattle.rsx_graph_state.proofs.publishing.all_readers_up_to.Goals as goal

pub returns : goal.returns
returns g c =
    let fed = c.feed_readers_up_to-found.ensures in
    let rest = c.readers_up_to.ensures in
    omega (arith, fed, rest)
