use Rattle.rsx_kinds.proofs.source_node.SourceNodeMachine.front.Goals as goal

pub returns-in-Items : goal.returns-in-Items
returns-in-Items g c = record { shown = rw c.in-Items.is c.front.ensures.shown; first = λ m. rw c.in-Items.is (c.front.ensures.first m) }

pub returns-in-Hub : goal.returns-in-Hub
returns-in-Hub g c = record { shown = rw c.in-Hub.is c.front-in-Hub.ensures.shown; first = λ m. rw c.in-Hub.is (c.front-in-Hub.ensures.first m) }
