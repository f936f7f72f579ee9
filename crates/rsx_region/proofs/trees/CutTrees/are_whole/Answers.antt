use Rattle.std.proofs.Common.{List, subst, sym, ◌∙◌}
use Rattle.rsx_region.specs.Cuts.{AreWhole}
use Rattle.rsx_region.specs.declared.piece.Piece.{Piece}
use Rattle.rsx_region.proofs.Beside.{eq_true}
use Rattle.rsx_region.proofs.Stages.{none_counted, whole_from}
use Rattle.rsx_region.proofs.trees.CutTrees.are_whole.Goals as goal

pub returns-then-is_empty-clause-yes : goal.returns-then-is_empty-clause-yes
returns-then-is_empty-clause-yes g c = λ is.
    let W : List (Piece _ _) → Type 0 = λ ps. AreWhole ps in
    let edges = c.args.self.now.edges in
    (none_counted edges.items edges.len edges.ok.0 (eq_true edges.len 0 (sym c.is_empty.ensures ∙ c.if-is_empty.true)), subst W c.deref.ensures.value (c.are_whole.ensures.yes is))

pub returns-then-is_empty-clause-from : goal.returns-then-is_empty-clause-from
unfolding returns-then-is_empty-clause-yes
returns-then-is_empty-clause-from g c = λ is m first hubs whole opening h.
    let both = returns-then-is_empty-clause-yes g c is in
    whole_from g.N.Machine g.N.CrossingNodes m first hubs whole opening c.args.self.now both.0 both.1 h

pub returns-then-is_empty-clause-no : goal.returns-then-is_empty-clause-no
returns-then-is_empty-clause-no g c = λ is edges all.
    let W : List (Piece _ _) → Type 0 = λ ps. AreWhole ps in
    c.are_whole.ensures.no is (subst W (sym c.deref.ensures.value) all)
