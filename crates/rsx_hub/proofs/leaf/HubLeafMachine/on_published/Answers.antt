use Rattle.rsx_hub.proofs.Leaves.{counts_on, read_on, refused_is}
use Rattle.rsx_hub.proofs.Spaces.{took_on}
use Rattle.rsx_hub.proofs.leaf.HubLeafMachine.on_published.Goals as goal

pub returns-clause-ok : goal.returns-clause-ok
returns-clause-ok g c = rw (← c.self.view_is) (read_on c.self.inside.hub c.self.inside.missed c.self.inside.before c.self.inside.member c.take_in.new.self c.args.signal c.take_in.result c.self.invariant c.take_in.ensures.enabled c.take_in.ensures.ok c.take_in.ensures.value)

pub returns-clause-refused : goal.returns-clause-refused
returns-clause-refused g c = rw (← c.self.view_is) (refused_is c.self.inside.hub c.self.inside.missed c.self.inside.before c.self.inside.member c.args.signal c.take_in.result c.self.invariant c.take_in.ensures.positive c.take_in.ensures.refused)

pub returns-clause-counts : goal.returns-clause-counts
returns-clause-counts g c = rw (← c.self.view_is) (counts_on c.self.inside.hub c.self.inside.missed c.self.inside.before c.self.inside.member c.take_in.new.self c.args.signal c.take_in.result c.take_in.ensures.ok)

pub returns-clause-state : goal.returns-clause-state
returns-clause-state g c = rw (← c.self.view_is) (took_on c.self.inside.hub c.self.inside.missed c.self.inside.before c.self.inside.member c.take_in.new.self c.args.signal c.take_in.result c.take_in.ensures.ok)
