use Rattle.std.proofs.Common.{ℕ, ◌<◌, List, subst, sym}
use Rattle.rsx_region.specs.Pieces.{Each}
use Rattle.rsx_live.proofs.Graphs.{each_parts}
use Rattle.rsx_live.proofs.workers.+all_below.Goals as goal

pub returns-then-are_below-clause-no : goal.returns-then-are_below-clause-no
returns-then-are_below-clause-no g c = λ is all. c.all_below.ensures.no is (each_parts _ c.args.lists.now c.in-Some.others.now c.in-Some.first.now c.in-Some.ensures.cases.0 all).1

pub returns-else-are_below-clause-no : goal.returns-else-are_below-clause-no
returns-else-are_below-clause-no g c = λ is all.
    let first = (each_parts _ c.args.lists.now c.in-Some.others.now c.in-Some.first.now c.in-Some.ensures.cases.0 all).0 in
    let E : List ℕ → Type 0 = λ l. Each (λ (r : ℕ). r < c.args.workers) l in
    c.are_below.ensures.no is (subst E (sym c.deref.ensures.value) first)
