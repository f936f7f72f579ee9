use Rattle.std.proofs.Common.{sym, ◌∙◌}
use Rattle.rsx_grouping.proofs.Still.{none_steps}
use Rattle.rsx_grouping.proofs.node.GroupByNodeMachine.never_steps.Goals as goal

pub returns-then-is_coming : goal.returns-then-is_coming
returns-then-is_coming g c = λ yes. none_steps c.args.self.now (sym c.is_coming.ensures ∙ c.if-is_coming.true) (c.is_known_quiet.ensures yes)
