use Rattle.std.proofs.Common.{refl, Ok, Err}
use Rattle.rsx_session.proofs.Hubs.{fed_next, fed_refused, feed_refused}
use Rattle.rsx_session.proofs.Looks.{scratch_same}
use Rattle.rsx_session.proofs.session.Session.value_after.Goals as goal

pub returns-in_err-notes-clause-refused : goal.returns-in_err-notes-clause-refused
returns-in_err-notes-clause-refused c =
    let number = c.in-Ok.ensures.1 in
    feed_refused c.args.self.now c.args.before.now c.args.source.now c.in-Fed.expr c.in_err-notes.field-0.0 c.in-Ok.number c.from_residual-in_err-notes.result number c.in-Fed.is c.in_err-notes.ensures.err c.from_residual-in_err-notes.ensures

pub returns-in_err-joins-clause-refused : goal.returns-in_err-joins-clause-refused
returns-in_err-joins-clause-refused c =
    let number = c.in-Ok.ensures.1 in
    feed_refused c.args.self.now c.args.before.now c.args.source.now c.in-Fed.expr c.in_err-joins.field-0.0 c.in-Ok.number c.from_residual-in_err-joins.result number c.in-Fed.is c.in_err-joins.ensures.err c.from_residual-in_err-joins.ensures

pub returns-in_err-scratch-clause-refused : goal.returns-in_err-scratch-clause-refused
returns-in_err-scratch-clause-refused c =
    let number = c.in-Ok.ensures.1 in
    let before = c.args.before.now in
    let joins = c.in_ok-joins.joins.items in
    let notes = c.in_ok-notes.notes.items in
    let was = scratch_same c.in-Fed.expr (Err c.in_err-scratch.field-0.0) before before c.deref.result.now joins c.deref-2.result.now notes refl c.deref.ensures.value c.deref-2.ensures.value c.in_err-scratch.ensures in
    fed_refused c.args.self.now before c.args.source.now c.in-Fed.expr c.in_err-scratch.field-0.0 c.in-Ok.number joins notes c.from_residual-in_err-scratch.result number c.in-Fed.is c.in_ok-notes.ensures.notes (λ h k. c.in_ok-joins.ensures.joins h k.graph) was c.from_residual-in_err-scratch.ensures

pub returns-clause-says : goal.returns-clause-says
returns-clause-says c = λ h k.
    let number = c.in-Ok.ensures.1 in
    let before = c.args.before.now in
    let joins = c.in_ok-joins.joins.items in
    let notes = c.in_ok-notes.notes.items in
    let was = scratch_same c.in-Fed.expr (Ok c.in_ok-scratch.field-0) before before c.deref.result.now joins c.deref-2.result.now notes refl c.deref.ensures.value c.deref-2.ensures.value c.in_ok-scratch.ensures in
    fed_next c.args.self.now h before c.args.source.now c.in-Fed.expr c.in_ok-scratch.field-0 c.in-Ok.number joins notes number c.in-Fed.is c.in_ok-notes.ensures.notes (c.in_ok-joins.ensures.joins h k.graph) was
