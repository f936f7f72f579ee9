use Rattle.std.proofs.Common.{sym, ◌∙◌}
use Rattle.rsx_region.proofs.Beside.{eq_true}
use Rattle.rsx_region.proofs.Stages.{none_counted, none_left}
use Rattle.rsx_live_parts.proofs.Counts.{on_err_also, some_left}
use Rattle.rsx_live_parts.proofs.lives.join_trees.Goals as goal

pub returns-then-is_empty-clause-whole : goal.returns-then-is_empty-clause-whole
returns-then-is_empty-clause-whole g c = λ m first hubs whole opening since.
    let trees = c.join_all-joined.new.self in
    let none = none_counted trees.edges.items trees.edges.len trees.edges.ok.0 (eq_true trees.edges.len 0 (sym c.is_empty.ensures ∙ c.if-is_empty.true)) in
    none_left g.N.Machine g.N.CrossingNodes m first hubs whole trees none (c.join_all-joined.ensures.since m first hubs whole opening since)

pub returns-clause-refused : goal.returns-clause-refused
returns-clause-refused g c =
    let edges = c.join_all-joined.new.self.edges in
    on_err_also c.join_all-joined.result _ _ (some_left edges.items edges.len edges.ok.0 (sym c.is_empty.ensures ∙ c.if-is_empty.false)) c.join_all-joined.ensures.refused
