use Rattle.std.proofs.Common.{sym, ◌∙◌, rules}
use Rattle.rsx_plain.proofs.Drained.{over_at_once}
use Rattle.rsx_plain.proofs.state.PlainStateOperator.rest.Goals as goal

pub returns-then-is_over : goal.returns-then-is_over
returns-then-is_over g c = over_at_once (g.O.Ops.meaning c.args.ops.now) c.args.self.now _ c.args.out.items c.new.result (sym c.is_over.ensures ∙ c.if-is_over.true) c.new.ensures.items c.new.ensures.ending

pub returns-in_err-state : goal.returns-in_err-state
returns-in_err-state g c = search rules

pub returns-in_err-last : goal.returns-in_err-last
returns-in_err-last g c = search rules

pub returns : goal.returns
returns g c = search rules
