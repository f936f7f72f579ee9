use Rattle.rsx_region.specs.Trees.{Stage}
use Rattle.rsx_live_parts.proofs.Closings.{gone_back, refused_back, taps_live}
use Rattle.rsx_live_parts.proofs.going.begin.Goals as goal

pub returns-in-Ok-clause-live : goal.returns-in-Ok-clause-live
returns-in-Ok-clause-live g c = λ subs k.
    let whole : Stage _ _ = record { pieces = k.pieces; links = k.links } in
    record { pieces = k.pieces; links = k.links; taps = c.args.rest.taps.items; out = k.out; is = c.in-Ok.ensures.live whole k.cut }

pub returns-in-Ok-clause-taps : goal.returns-in-Ok-clause-taps
returns-in-Ok-clause-taps g c =
    let k = c.requires.from.1 in
    let whole : Stage _ _ = record { pieces = k.pieces; links = k.links } in
    taps_live g.N.Machine g.N.CrossingNodes g.O.Ops.meaning c.requires.from.0 c.args.rest.kept.items c.args.rest.taps.items k.pieces k.links c.in-Ok.field-0.live c.in-Ok.field-0.plan k.out (c.in-Ok.ensures.live whole k.cut)

pub give_back-requires-after_bounds : goal.give_back-requires-after_bounds
give_back-requires-after_bounds g c κs within =
    let k = c.requires.from in
    (k.0, gone_back g.N.Machine g.N.CrossingNodes g.O.Ops.meaning c.args.ops _ k.0 c.args.rest.kept.items c.args.rest.taps.items c.args.trees _ k.1 c.in-Err.ensures.err.0 (λ whole cut. c.in-Err.ensures.since whole cut))

pub returns-clause-err : goal.returns-clause-err
returns-clause-err g c = λ subs k.
    let gone = gone_back g.N.Machine g.N.CrossingNodes g.O.Ops.meaning c.args.ops _ subs c.args.rest.kept.items c.args.rest.taps.items c.args.trees _ k c.in-Err.ensures.err.0 (λ whole cut. c.in-Err.ensures.since whole cut) in
    refused_back g.N.Machine g.N.CrossingNodes g.O.Ops.meaning c.args.ops _ subs c.give_back.result c.in-Err.ensures.err.0 (c.give_back.ensures subs gone)
