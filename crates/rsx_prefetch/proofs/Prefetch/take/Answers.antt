use Rattle.std.proofs.Common.{◌≤◌, arith, rules}
use Rattle.rsx_demand.specs.Demand.{saturating_total}
use Rattle.rsx_prefetch.proofs.Batches.{credits-mono}
use Rattle.rsx_prefetch.proofs.Prefetch.take.Goals as goal

pub returns-clause-credited : goal.returns-clause-credited
returns-clause-credited g c =
    let counted : c.self.inside.taken ≤ saturating_total c.self.inside.taken 1
    = omega (arith, c.self.invariant.counted)
    in rw (c.count_taken.ensures, c.pop_front.ensures.items, ← c.self.view_is) (credits-mono _ _ _ c.self.invariant.positive counted)

pub returns-clause-front : goal.returns-clause-front
returns-clause-front g c = search rules

pub returns-clause-taken : goal.returns-clause-taken
returns-clause-taken g c = search rules
