use Rattle.std.proofs.Common.{sym}
use Rattle.rsx_region.proofs.Cuts.{unread}
use Rattle.rsx_region.proofs.Refusals.{read_somewhere}
use Rattle.rsx_region.proofs.cutting.is_read_by_none.Goals as goal

pub returns-in-None-clause-free : goal.returns-in-None-clause-free
returns-in-None-clause-free g c = λ _. unread g.N.Machine c.args.hub c.from.result c.args.part.now c.from.ensures (sym c.in-None.ensures)

pub returns-in-Some-clause-used : goal.returns-in-Some-clause-used
returns-in-Some-clause-used g c = λ _ free. read_somewhere g.N.Machine c.args.hub c.from.result c.args.part.now _ c.from.ensures (sym c.in-Some.ensures) free
