use Rattle.rsx_session.specs.Prelude.{Subscription, Val, notes_of, notes_text}
use Rattle.std.proofs.Common.{◌≡◌, ◌++◌, ap, codes, length, inl, slice_get, Some, arith}
use Rattle.std.proofs.lemmas.Option.{slice_get_within}
use Rattle.rsx_session.proofs.Looks.{look_err, past_at, subs_count}
use Rattle.rsx_session.proofs.session.Session.choices.Goals as goal

pub returns-in_err-notes-clause-says : goal.returns-in_err-notes-clause-says
returns-in_err-notes-clause-says c =
    let s = c.args.self.now in
    look_err s (length s.graph.subscriptions.items) c.args.sub c.in_err-notes.field-0.0 c.from_residual.result (λ place text past. (node : Subscription Val) × (slice_get place.graph.rows.subs c.args.sub.0 ≡ Some node) × (text ≡ codes "choices" ++ notes_text 0 (notes_of node.part.tree))) (subs_count s) c.in_err-notes.ensures.err c.from_residual.ensures

pub returns-clause-says : goal.returns-clause-says
returns-clause-says c = λ h s.
    let noted = c.in_ok-notes.ensures.notes in
    let within = slice_get_within c.args.self.now.graph.subscriptions.items c.args.sub.0 noted.0 noted.1 in
    let same = subs_count c.args.self.now h s in
    let there = past_at h.pasts c.args.sub.0 (omega (arith, within, same)) in
    inl (there.0, there.1, (noted.0, noted.1, ap (λ ns. codes "choices" ++ notes_text 0 ns) noted.2))
