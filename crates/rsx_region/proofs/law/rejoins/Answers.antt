use Rattle.rsx_region.proofs.Counted.{joins_balanced}
use Rattle.rsx_region.proofs.Rejoining.{joins_reading}
use Rattle.rsx_region.proofs.law.rejoins.Goals as goal

pub returns-clause-balance : goal.returns-clause-balance
returns-clause-balance g c = joins_balanced g.N.Machine g.N.CrossingNodes g.met.N.CrossingNodes.holds g.met.N.CrossingNodes.reads_counted

pub returns-clause-reading : goal.returns-clause-reading
returns-clause-reading g c = joins_reading g.N.Machine g.N.CrossingNodes g.met.N.CrossingNodes.holds
