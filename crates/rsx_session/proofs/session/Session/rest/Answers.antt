use Rattle.std.proofs.Common.{◌∙◌, length, ap, Some}
use Rattle.rsx_session.proofs.Looks.{rest_cancelled, rest_closed, rest_owed, trouble_of_look, trouble_unknown}
use Rattle.rsx_session.proofs.session.Session.rest.Goals as goal

pub returns-in_err-standing-clause-refused : goal.returns-in_err-standing-clause-refused
returns-in_err-standing-clause-refused c = let err = c.in_err-standing.ensures.err in trouble_unknown (length c.args.self.now.graph.subscriptions.items) c.args.sub c.in_err-standing.field-0.0 c.from_residual.result err.0 err.1 c.from_residual.ensures

pub returns-in_err-owed-in-Open-clause-refused : goal.returns-in_err-owed-in-Open-clause-refused
returns-in_err-owed-in-Open-clause-refused c = trouble_of_look (length c.args.self.now.graph.subscriptions.items) c.args.sub c.in_err-owed-in-Open.field-0.0 c.from_residual-in_err-owed-in-Open.result c.in_err-owed-in-Open.ensures.err c.from_residual-in_err-owed-in-Open.ensures

pub returns-in_ok-owed-in-Open-clause-says : goal.returns-in_ok-owed-in-Open-clause-says
returns-in_ok-owed-in-Open-clause-says c = λ h s. let o = c.in_ok-owed-in-Open.ensures.owes h s.graph in rest_owed c.args.self.now h s c.args.sub c.in_ok-standing.field-0 c.in_ok-owed-in-Open.field-0 c.in-Open.is (c.in_ok-standing.ensures.standing h s.graph) o

pub returns-in-Cancelled-clause-says : goal.returns-in-Cancelled-clause-says
returns-in-Cancelled-clause-says c = λ h s. rest_cancelled c.args.self.now h c.args.sub (c.in_ok-standing.ensures.standing h s.graph ∙ ap Some c.in-Cancelled.is)

pub returns-in-Refused-clause-says : goal.returns-in-Refused-clause-says
returns-in-Refused-clause-says c = λ h s. rest_closed c.args.self.now h c.args.sub (c.in_ok-standing.ensures.standing h s.graph ∙ ap Some c.in-Refused.is)
