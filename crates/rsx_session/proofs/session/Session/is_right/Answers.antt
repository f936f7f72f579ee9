use Rattle.rsx_session.proofs.Compared.{right_begun, right_owed}
use Rattle.rsx_session.proofs.session.Session.is_right.Goals as goal

pub returns-in_ok-owed-in-Open-clause-says : goal.returns-in_ok-owed-in-Open-clause-says
returns-in_ok-owed-in-Open-clause-says c = λ h s. right_owed c.args.self.now h c.args.sub c.in_ok-standing.field-0 c.args.kept.now c.args.value.now c.in_ok-owed-in-Open.owed c.is_whole.result c.in-Open.is (c.in_ok-standing.ensures.standing h s.graph) (c.in_ok-owed-in-Open.ensures.owes h s.graph) c.is_whole.ensures

pub returns-in-Cancelled-clause-says : goal.returns-in-Cancelled-clause-says
returns-in-Cancelled-clause-says c = λ h s. right_begun c.args.self.now h c.args.sub c.in_ok-standing.field-0 c.args.kept.now c.args.value.now c.as_slice.result.now c.items.result.now c.begins.result c.in-Cancelled.is (c.in_ok-standing.ensures.standing h s.graph) c.as_slice.ensures.value c.items.ensures c.begins.ensures
