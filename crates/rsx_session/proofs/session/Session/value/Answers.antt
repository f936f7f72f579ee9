use Rattle.std.proofs.Common.{length, Ok, Err, inl}
use Rattle.rsx_session.proofs.Looks.{evaluated, hubs_err, joins_count, scratch_err, scratch_same, subs_count, value_err}
use Rattle.rsx_session.specs.Sessions.{place_of}
use Rattle.rsx_session.proofs.session.Session.value.Goals as goal

pub returns-in_err-notes-clause-says : goal.returns-in_err-notes-clause-says
returns-in_err-notes-clause-says c = λ h s past there same. value_err (place_of c.args.self.now h) (length c.args.self.now.graph.subscriptions.items) c.args.sub past c.in_err-notes.field-0.0 c.from_residual.result there (subs_count c.args.self.now h s) c.in_err-notes.ensures.err c.from_residual.ensures

pub returns-in_err-joins-clause-says : goal.returns-in_err-joins-clause-says
returns-in_err-joins-clause-says c = λ h s past there same. value_err (place_of c.args.self.now h) (length c.args.self.now.graph.joins.items) c.args.sub past c.in_err-joins.field-0.0 c.from_residual-in_err-joins.result there (joins_count c.args.self.now h s) c.in_err-joins.ensures.err c.from_residual-in_err-joins.ensures

pub returns-in_err-published-clause-says : goal.returns-in_err-published-clause-says
returns-in_err-published-clause-says c = λ h s past there same. hubs_err (place_of c.args.self.now h) c.args.sub past c.in_err-published.field-0.0 c.from_residual-in_err-published.result (c.in_err-published.ensures.refused h s) c.from_residual-in_err-published.ensures

pub returns-in_err-scratch-clause-says : goal.returns-in_err-scratch-clause-says
returns-in_err-scratch-clause-says c = λ h s past there same.
    let was = scratch_same c.args.expr.now (Err c.in_err-scratch.field-0.0) c.deref.result.now c.in_ok-published.published.items c.deref-2.result.now c.in_ok-joins.joins.items c.deref-3.result.now c.in_ok-notes.notes.items c.deref.ensures.value c.deref-2.ensures.value c.deref-3.ensures.value c.in_err-scratch.ensures in
    scratch_err (place_of c.args.self.now h) c.args.sub past c.in_err-scratch.field-0.0 c.from_residual-in_err-scratch.result (inl (evaluated c.args.self.now h c.args.sub past c.args.expr.now (Err c.in_err-scratch.field-0.0) c.in_ok-published.published.items c.in_ok-joins.joins.items c.in_ok-notes.notes.items (c.in_ok-published.ensures.says h s) there same c.in_ok-notes.ensures.notes (c.in_ok-joins.ensures.joins h s.graph) was)) c.from_residual-in_err-scratch.ensures

pub returns-clause-says : goal.returns-clause-says
returns-clause-says c = λ h s past there same.
    let was = scratch_same c.args.expr.now (Ok c.in_ok-scratch.field-0) c.deref.result.now c.in_ok-published.published.items c.deref-2.result.now c.in_ok-joins.joins.items c.deref-3.result.now c.in_ok-notes.notes.items c.deref.ensures.value c.deref-2.ensures.value c.deref-3.ensures.value c.in_ok-scratch.ensures in
    evaluated c.args.self.now h c.args.sub past c.args.expr.now (Ok c.in_ok-scratch.field-0) c.in_ok-published.published.items c.in_ok-joins.joins.items c.in_ok-notes.notes.items (c.in_ok-published.ensures.says h s) there same c.in_ok-notes.ensures.notes (c.in_ok-joins.ensures.joins h s.graph) was
