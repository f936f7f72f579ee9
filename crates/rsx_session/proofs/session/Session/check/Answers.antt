use Rattle.std.proofs.Common.{true, false}
use Rattle.rsx_session.proofs.Compared.{checked, checked_err, right_err}
use Rattle.rsx_session.proofs.session.Session.check.Goals as goal

pub returns-in_err-value-clause-says : goal.returns-in_err-value-clause-says
returns-in_err-value-clause-says c = checked_err c.args.self.now c.args.sub c.in_ok-record.record.now c.in_err-value.field-0.0 c.from_residual-in_err-value.result c.in_ok-record.ensures.found c.in_err-value.ensures.says c.from_residual-in_err-value.ensures

pub returns-in_err-is_right-clause-says : goal.returns-in_err-is_right-clause-says
returns-in_err-is_right-clause-says c = right_err c.args.self.now c.args.sub c.in_err-is_right.field-0.0 c.from_residual-in_err-is_right.result c.in_err-is_right.ensures.refused c.from_residual-in_err-is_right.ensures

pub returns-then-branch-clause-says : goal.returns-then-branch-clause-says
returns-then-branch-clause-says c = λ h s. checked c.args.self.now h s c.args.sub c.in_ok-record.record.now c.in_ok-value.value c.in_ok-is_right.field-0 true c.in_ok-record.ensures.found (c.in_ok-value.ensures.says h s) (c.in_ok-is_right.ensures.says h s) c.if-branch.true

pub returns-clause-says : goal.returns-clause-says
returns-clause-says c = λ h s. checked c.args.self.now h s c.args.sub c.in_ok-record.record.now c.in_ok-value.value c.in_ok-is_right.field-0 false c.in_ok-record.ensures.found (c.in_ok-value.ensures.says h s) (c.in_ok-is_right.ensures.says h s) c.if-branch.false
