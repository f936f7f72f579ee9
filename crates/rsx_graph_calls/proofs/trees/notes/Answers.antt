use Rattle.std.proofs.Common.{length, subst, sym}
use Rattle.rsx_graph_state.specs.Moves.{rows_of}
use Rattle.rsx_types.specs.declared.names.Tree.{Tree}
use Rattle.rsx_graph_calls.specs.Looks.{HasNotes, IsTreeLookRefusal}
use Rattle.rsx_graph_calls.proofs.trees.notes.Goals as goal

pub returns-in-Ok-clause-notes : goal.returns-in-Ok-clause-notes
returns-in-Ok-clause-notes g c =
    let P : Tree → Type 0 = λ t. HasNotes g.N.Machine (rows_of c.args.hubs.now c.args.feeds.now c.args.subscriptions.now) t c.in-Ok.notes.items in
    subst P (sym c.in-Feed.is) (c.in-Ok.ensures.notes c.args.subscriptions.now)

pub returns-in-Err-clause-err : goal.returns-in-Err-clause-err
returns-in-Err-clause-err g c =
    let P : Tree → Type 0 = λ t. IsTreeLookRefusal (rows_of c.args.hubs.now c.args.feeds.now c.args.subscriptions.now) (length c.args.subscriptions.now) t c.in-Err.why in
    subst P (sym c.in-Feed.is) (c.in-Err.ensures.err c.args.subscriptions.now)
