use Rattle.rsx_session.specs.Prelude.{IsWait, demo_meaning}
use Rattle.rsx_waits.specs.Texts.{wait_text}
use Rattle.rsx_waits.specs.declared.wait.Wait.{Wait}
use Rattle.std.proofs.Common.{◌≡◌, ◌++◌, codes, length, inl, refl, arith}
use Rattle.std.proofs.lemmas.Option.{slice_get_within}
use Rattle.rsx_session.proofs.Looks.{past_at, subs_count, unknown_err}
use Rattle.rsx_session.proofs.session.Session.why.Goals as goal

pub returns-in_err-explain-clause-says : goal.returns-in_err-explain-clause-says
returns-in_err-explain-clause-says c =
    let s = c.args.self.now in
    let err = c.in_err-explain.ensures.err in
    unknown_err s (length s.graph.subscriptions.items) c.args.sub c.in_err-explain.field-0.0 c.from_residual.result (λ place text past. (wait : Wait) × IsWait demo_meaning place.graph.rows c.args.sub wait × (text ≡ codes "waits: " ++ wait_text wait)) (subs_count s) err.0 err.1 c.from_residual.ensures

pub returns-clause-says : goal.returns-clause-says
returns-clause-says c = λ h s.
    let waits = c.in_ok-explain.ensures.waits in
    let within = slice_get_within c.args.self.now.graph.subscriptions.items c.args.sub.0 waits.sub waits.there in
    let same = subs_count c.args.self.now h s in
    let there = past_at h.pasts c.args.sub.0 (omega (arith, within, same)) in
    inl (there.0, there.1, (c.in_ok-explain.field-0, waits, refl))
