use Rattle.rsx_session.specs.Prelude.{HasLooks}
use Rattle.rsx_waits.specs.Looks.{looks_text}
use Rattle.rsx_waits.specs.declared.look.NodeLook.{NodeLook}
use Rattle.std.proofs.Common.{◌≡◌, ◌++◌, List, codes, length, inl, refl, arith}
use Rattle.std.proofs.lemmas.Option.{slice_get_within}
use Rattle.rsx_session.proofs.Looks.{look_err, past_at, subs_count}
use Rattle.rsx_session.proofs.session.Session.draw.Goals as goal

pub returns-in_err-picture-clause-says : goal.returns-in_err-picture-clause-says
returns-in_err-picture-clause-says c =
    let s = c.args.self.now in
    look_err s (length s.graph.subscriptions.items) c.args.sub c.in_err-picture.field-0.0 c.from_residual.result (λ place text past. (looks : List NodeLook) × HasLooks place.graph.rows.subs c.args.sub looks × (text ≡ codes "tree" ++ looks_text 0 looks)) (subs_count s) c.in_err-picture.ensures.err c.from_residual.ensures

pub returns-clause-says : goal.returns-clause-says
returns-clause-says c = λ h s.
    let looks = c.in_ok-picture.ensures.looks in
    let within = slice_get_within c.args.self.now.graph.subscriptions.items c.args.sub.0 looks.0 looks.1 in
    let same = subs_count c.args.self.now h s in
    let there = past_at h.pasts c.args.sub.0 (omega (arith, within, same)) in
    inl (there.0, there.1, (_, looks, refl))
