use Rattle.std.proofs.Common.{◌<◌, arith, length, refl}
use Rattle.std.proofs.lemmas.Option.{slice_get_read}
use Rattle.rsx_graph_calls.proofs.trees.notes_of_sub.Goals as goal

pub returns-in-Ok-clause-notes : goal.returns-in-Ok-clause-notes
returns-in-Ok-clause-notes g c =
    let subs = c.args.subscriptions.now in
    let x = c.index-subscriptions-at.result in
    let within : c.args.sub.0 < length c.args.subscriptions.now = omega (arith, c.if-at-subscriptions.false) in
    (x, slice_get_read subs (length subs) c.args.sub.0 x refl within c.index-subscriptions-at.is, c.in-Ok.ensures)
