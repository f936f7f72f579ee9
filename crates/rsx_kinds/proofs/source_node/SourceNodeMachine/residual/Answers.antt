use Rattle.rsx_kinds.proofs.source_node.SourceNodeMachine.residual.Goals as goal

pub returns-in-Items : goal.returns-in-Items
returns-in-Items g c = rw c.in-Items.is c.residual.ensures

pub returns-in-Range : goal.returns-in-Range
returns-in-Range g c = rw c.in-Range.is c.residual-in-Range.ensures

pub returns-in-Hub : goal.returns-in-Hub
returns-in-Hub g c = rw c.in-Hub.is c.residual-in-Hub.ensures
