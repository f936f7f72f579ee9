use Rattle.rsx_session.proofs.Looks.{valued, valued_err}
use Rattle.rsx_session.proofs.session.Session.show_value.Goals as goal

pub returns-in_err-value-clause-says : goal.returns-in_err-value-clause-says
returns-in_err-value-clause-says c = valued_err c.args.self.now c.args.sub c.in_ok-record.record.now c.in_err-value.field-0.0 c.from_residual-in_err-value.result c.in_ok-record.ensures.found c.in_err-value.ensures.says c.from_residual-in_err-value.ensures

pub returns-clause-says : goal.returns-clause-says
returns-clause-says c = λ h s. valued c.args.self.now h s c.args.sub c.in_ok-record.record.now c.in_ok-value.field-0 c.in_ok-record.ensures.found (c.in_ok-value.ensures.says h s)
