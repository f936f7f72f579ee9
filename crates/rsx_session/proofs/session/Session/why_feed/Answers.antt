use Rattle.std.proofs.Common.{inl, refl}
use Rattle.rsx_session.proofs.Looks.{feed_err}
use Rattle.rsx_session.proofs.session.Session.why_feed.Goals as goal

pub returns-in_err-explain_feed-clause-says : goal.returns-in_err-explain_feed-clause-says
returns-in_err-explain_feed-clause-says c =
    let err = c.in_err-explain_feed.ensures.err in
    feed_err c.args.self.now c.args.hub c.in_err-explain_feed.field-0.0 c.from_residual.result err.0 err.1 c.from_residual.ensures

pub returns-clause-says : goal.returns-clause-says
returns-clause-says c = λ h s. inl (c.in_ok-explain_feed.field-0, c.in_ok-explain_feed.ensures.waits, refl)
