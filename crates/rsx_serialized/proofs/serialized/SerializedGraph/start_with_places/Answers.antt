use Rattle.std.proofs.Common.{ap, sym, ◌∙◌}
use Rattle.rsx_serialized.specs.Starting.{places_in}
use Rattle.rsx_serialized.proofs.Starts.{again_as, again_started, back_as, emitter_links_of, if_err, if_ok, places_of, tap_links_of}
use Rattle.rsx_serialized.proofs.serialized.SerializedGraph.start_with_places.Goals as goal

pub begin-requires-clause-emitters : goal.begin-requires-clause-emitters
begin-requires-clause-emitters g c κs within =
    let p = c.put_together-graph.ensures.pieces in
    emitter_links_of _ _ _ _ c.in-Ok.emitters (ap (λ v. v.items) (sym p.hubs) ∙ sym c.deref.ensures.value) (ap (λ v. v.items) (sym p.feeds) ∙ sym c.deref-2.ensures.value) c.in-Ok.ensures.emitters

pub begin-requires-clause-taps : goal.begin-requires-clause-taps
begin-requires-clause-taps g c κs within =
    let p = c.put_together-graph.ensures.pieces in
    tap_links_of _ _ _ c.in-Ok.taps (ap (λ v. v.items) (sym p.subs) ∙ sym c.deref-3.ensures.value) c.in-Ok.ensures.taps

pub returns-in-Ok-clause-started : goal.returns-in-Ok-clause-started
returns-in-Ok-clause-started g c =
    let one = c.take_apart-pieces.ensures in
    let two = c.put_together-graph.ensures in
    let subs = ap (λ v. v.items) one.pieces.subs in
    let places = places_of _ c.args.graph.subscriptions.items c.args.places c.in-Ok.taps (sym (c.deref-3.ensures.value ∙ subs)) c.in-Ok.ensures.taps in
    if_ok c.begin.result (λ s. again_started c.args.graph c.put_together-graph.result c.take_apart-pieces.result one.pieces two.pieces (places_in c.args.graph c.args.places) _ s (two.state ∙ one.state) places) c.begin.ensures.started

pub returns-in-Ok-clause-err : goal.returns-in-Ok-clause-err
returns-in-Ok-clause-err g c =
    let one = c.take_apart-pieces.ensures in
    let two = c.put_together-graph.ensures in
    if_err c.begin.result (λ back. back_as c.args.graph c.put_together-graph.result c.take_apart-pieces.result one.pieces two.pieces back (two.state ∙ one.state)) c.begin.ensures.err

pub returns-in-Err-clause-err : goal.returns-in-Err-clause-err
returns-in-Err-clause-err g c =
    let one = c.take_apart-pieces.ensures in
    let two = c.put_together-graph.ensures in
    again_as c.args.graph c.put_together-graph.result c.take_apart-pieces.result one.pieces two.pieces (two.state ∙ one.state)
