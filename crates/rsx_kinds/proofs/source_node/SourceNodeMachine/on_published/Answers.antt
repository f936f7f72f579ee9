use Rattle.std.proofs.lemmas.Result.{on_ok_weaker}
use Rattle.rsx_kinds.proofs.Dispatch.{read_on_hub, stepped_hub}
use Rattle.rsx_kinds.proofs.source_node.SourceNodeMachine.on_published.Goals as goal

pub returns-in-Hub-clause-ok : goal.returns-in-Hub-clause-ok
returns-in-Hub-clause-ok g c = rw c.in-Hub.is (on_ok_weaker c.on_published.result (read_on_hub c.in-Hub.node c.args.signal c.on_published.new.self) c.on_published.ensures.ok)

pub returns-in-Hub-clause-counts : goal.returns-in-Hub-clause-counts
returns-in-Hub-clause-counts g c = rw c.in-Hub.is (on_ok_weaker c.on_published.result (stepped_hub c.in-Hub.node c.on_published.new.self) c.on_published.ensures.counts)
