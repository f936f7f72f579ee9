use Rattle.std.proofs.Common.{◌<◌, length, refl, rules}
use Rattle.rsx_graph_moves.specs.IdleSet.{IsApart, IsIn}
use Rattle.rsx_graph_moves.proofs.IdleSets.{found_there}
use Rattle.rsx_graph_moves.proofs.idle_set.IdleSet.apart_from.Goals as goal

pub returns-then-at-ge-MOST_HUBS : goal.returns-then-at-ge-MOST_HUBS
returns-then-at-ge-MOST_HUBS c = λ i has. absurd (c.new.ensures i has)

pub returns-then-hub-self : goal.returns-then-hub-self
returns-then-hub-self c = λ i has. absurd (c.new-then-hub-self.ensures i has)

pub returns : goal.returns
unfolding IsApart IsIn
returns c = λ i has.
    let k = (c.without.ensures i).0 has in
    let both = (c.common.ensures i).0 k.0 in
    let within : c.args.hub.0 < length c.args.self.now.apart = search rules in
    (both.0, (c.if-hub-self.false, k.1, found_there c.args.self.now.apart c.args.hub.0 c.args.hub.0 i _ within refl both.1))
