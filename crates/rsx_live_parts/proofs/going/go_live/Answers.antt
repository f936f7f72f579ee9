use Rattle.std.proofs.lemmas.Result.{IfErr-weaker, IfOk-weaker}
use Rattle.std.proofs.Common.{◌∙◌, ap, arith, length}
use Rattle.rsx_live_parts.proofs.Closings.{as_many_kept}
use Rattle.rsx_live_parts.proofs.going.go_live.Goals as goal

pub part_live-requires-clause-room : goal.part_live-requires-clause-room
part_live-requires-clause-room g c κs within =
    let p = c.in-Ok-of.parted in
    let many = as_many_kept g.N.Machine g.N.CrossingNodes (g.O.Ops.meaning c.args.ops) c.args.subs.items 0 p.kept.items p.pieces.items p.links.items p.taps.items c.in-Ok-of.ensures.ok in
    let count = c.len.ensures in
    let size = c.args.subs.ok.0 in
    let room = c.in-Ok.ensures.capacity in
    omega (arith, many, count, size, room)

pub returns-in-Ok-of-clause-live : goal.returns-in-Ok-of-clause-live
returns-in-Ok-of-clause-live g c = IfOk-weaker c.part_live.result _ _ (λ s h. h c.args.subs.items c.in-Ok-of.ensures.ok) c.part_live.ensures.live

pub returns-in-Ok-of-clause-gates : goal.returns-in-Ok-of-clause-gates
returns-in-Ok-of-clause-gates g c =
    let p = c.in-Ok-of.parted in
    IfOk-weaker c.part_live.result _ _ (λ s h. (h.0, h.1, ap (λ v. length v.items) h.2 ∙ as_many_kept g.N.Machine g.N.CrossingNodes (g.O.Ops.meaning c.args.ops) c.args.subs.items 0 p.kept.items p.pieces.items p.links.items p.taps.items c.in-Ok-of.ensures.ok)) c.part_live.ensures.gates

pub returns-in-Ok-of-clause-err : goal.returns-in-Ok-of-clause-err
returns-in-Ok-of-clause-err g c = IfErr-weaker c.part_live.result _ _ (λ e h. h c.args.subs.items c.in-Ok-of.ensures.ok) c.part_live.ensures.err

pub returns-in-Ok-of-clause-stay : goal.returns-in-Ok-of-clause-stay
returns-in-Ok-of-clause-stay g c = IfOk-weaker c.part_live.result _ _ (λ s h. h c.in-Ok-of.ensures.stay) c.part_live.ensures.stay

pub returns-in-Ok-of-clause-cut : goal.returns-in-Ok-of-clause-cut
returns-in-Ok-of-clause-cut g c = IfOk-weaker c.part_live.result _ _ (λ s h. h c.args.subs.items c.in-Ok-of.ensures.ok) c.part_live.ensures.cut
