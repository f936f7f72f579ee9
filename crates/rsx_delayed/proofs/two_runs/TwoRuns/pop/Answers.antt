use Rattle.std.proofs.Common.{◌-◌, ap, sym, subst, ◌∙◌, arith}
use Rattle.rsx_delayed.specs.TwoRuns.{AreFilled, without_choice}
use Rattle.rsx_delayed.proofs.LastChoice.{filled_before, filled_with, lowered_last, without_last}
use Rattle.rsx_delayed.proofs.two_runs.TwoRuns.pop.Goals as goal

pub invariant_of-self : goal.invariant_of-self
invariant_of-self c =
    let rest = c.pop.new.self.items in
    let filled = filled_before rest c.in-Some.run' (subst AreFilled c.in-Some.ensures.items c.self.invariant.1) in
    (search arith, subst AreFilled (sym c.push_reserved.ensures.items) (filled_with rest (record { input = c.in-Some.run'.input; count = c.in-Some.run'.count - 1 }) (omega (arith, c.if-run-gt1.true)) filled))

pub invariant_of-self-else-run-gt1 : goal.invariant_of-self-else-run-gt1
invariant_of-self-else-run-gt1 c = (search arith, filled_before c.pop.new.self.items c.in-Some.run' (subst AreFilled c.in-Some.ensures.items c.self.invariant.1))

pub returns-then-run-gt1 : goal.returns-then-run-gt1
returns-then-run-gt1 c = c.push_reserved.ensures.items ∙ lowered_last c.pop.new.self.items c.in-Some.run' c.if-run-gt1.true ∙ ap without_choice (sym c.in-Some.ensures.items ∙ c.self.view_is)

pub returns-else-run-gt1 : goal.returns-else-run-gt1
returns-else-run-gt1 c = without_last c.pop.new.self.items c.in-Some.run' c.if-run-gt1.false ∙ ap without_choice (sym c.in-Some.ensures.items ∙ c.self.view_is)
