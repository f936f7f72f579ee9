use Rattle.std.proofs.Common.{◌≤◌, ℕ, inr, subst, sym}
use Rattle.rsx_sources.specs.Prelude.{CAPACITY}
use Rattle.rsx_pipe.proofs.Cuts.{at_once}
use Rattle.rsx_region.proofs.Cuts.{joined_again}
use Rattle.rsx_region.specs.Cuts.{FitsBelow}
use Rattle.rsx_region.proofs.cutting.cut_part.Goals as goal
use Rattle.rsx_region.proofs.cutting.cut_part.Goals.{else-asks_as_much-via-then-asks_as_much+else-fits_below, else-asks_as_much-via-else-asks_as_much}

pub returns-clause-none : goal.returns-clause-none
returns-clause-none g c =
    let F : ℕ → Type 0 = λ k. k ≤ CAPACITY in
    joined_again g.N.Machine g.N.CrossingNodes (at_once g.N.Machine g.N.CrossingNodes) c.args.part.now c.cut.new.self c.rejoin.new.self c.in-Ok.below.part c.args.at c.args.hub c.args.edge.demand.sent c.args.reader c.in-Ok.below.queue c.rejoin.result
    c.in-Ok.ensures.ok c.requires (subst F c.len-count.ensures.len c.len-count.ensures.within) c.rejoin.ensures.ok c.rejoin.ensures.refused

pub returns-clause-whole : goal.returns-clause-whole
returns-clause-whole g c =
    let below = c.in-Ok.below in
    let F : ℕ → Type 0 = λ k. FitsBelow g.N.Machine c.args.edge c.args.inlets.now below.part k in
    inr (
      below.part,
      below.queue,
      c.cut.new.self,
      c.in-Ok.ensures.ok,
      λ asks fits. elim c.else-asks_as_much.branch [
        | else-asks_as_much-via-then-asks_as_much+else-fits_below w ↦ w.fits_below.ensures.other w.if-fits_below.false (subst F (sym c.len-count.ensures.len) fits)
        | else-asks_as_much-via-else-asks_as_much w ↦ c.asks_as_much.ensures.less w.if-asks_as_much.false asks
      ],
    )
