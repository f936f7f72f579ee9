use Rattle.std.proofs.Common.{◌≡◌, ◌++◌, ap, codes, length, inl}
use Rattle.std.specs.Fmt.{decimal}
use Rattle.rsx_session.proofs.Looks.{asked_at, subs_count, unknown_err}
use Rattle.rsx_session.proofs.session.Session.asked.Goals as goal

pub returns-in_err-asked-clause-says : goal.returns-in_err-asked-clause-says
returns-in_err-asked-clause-says c =
    let s = c.args.self.now in
    let err = c.in_err-asked.ensures.err in
    unknown_err s (length s.graph.subscriptions.items) c.args.sub c.in_err-asked.field-0.0 c.from_residual.result (λ place text past. text ≡ codes "asked " ++ decimal past.asked) (subs_count s) err.0 err.1 c.from_residual.ensures

pub returns-clause-says : goal.returns-clause-says
returns-clause-says c = λ h s.
    let there = asked_at h.pasts c.args.sub.0 c.in_ok-asked.field-0 (c.in_ok-asked.ensures.asked h s.graph) in
    inl (there.0, there.1, ap (λ n. codes "asked " ++ decimal n) there.2)
