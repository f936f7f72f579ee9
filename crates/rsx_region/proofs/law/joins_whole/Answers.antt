use Rattle.rsx_pipe.proofs.Cuts.{after_moves}
use Rattle.rsx_pipe.proofs.Rejoins.{after_ending, at_end}
use Rattle.rsx_region.proofs.Wholes.{joins_whole, joins_whole_at_end, joins_whole_ended}
use Rattle.rsx_region.proofs.law.joins_whole.Goals as goal

pub returns-clause-going_on : goal.returns-clause-going_on
returns-clause-going_on g c =
    let n = g.met.N.CrossingNodes in
    joins_whole g.N.Machine g.N.CrossingNodes n.holds n.reads_counted (after_moves g.N.Machine g.N.CrossingNodes g.met.N.Nodes.local n.holds n.reads_on)

pub returns-clause-ended : goal.returns-clause-ended
returns-clause-ended g c =
    let n = g.met.N.CrossingNodes in
    joins_whole_ended g.N.Machine g.N.CrossingNodes n.holds n.reads_counted (after_ending g.N.Machine g.N.CrossingNodes g.met.N.Nodes.local n.holds n.reads_on)

pub returns-clause-at_end : goal.returns-clause-at_end
returns-clause-at_end g c =
    let n = g.met.N.CrossingNodes in
    joins_whole_at_end g.N.Machine g.N.CrossingNodes n.holds n.holds_ending (at_end g.N.Machine g.N.CrossingNodes g.met.N.Nodes.local n.holds n.holds_ending n.reads_on n.reads_ended)
