use Rattle.rsx_region.proofs.CutParts.{cuts_balanced, cuts_reading}
use Rattle.rsx_region.proofs.law.cuts.Goals as goal

pub returns-clause-balance : goal.returns-clause-balance
returns-clause-balance g c = cuts_balanced g.N.Machine g.N.CrossingNodes g.met.N.CrossingNodes.holds

pub returns-clause-reading : goal.returns-clause-reading
returns-clause-reading g c = cuts_reading g.N.Machine g.N.CrossingNodes g.met.N.CrossingNodes.holds
