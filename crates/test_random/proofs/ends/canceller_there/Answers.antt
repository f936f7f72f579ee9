use Rattle.std.proofs.Common.{ap, ◌∙◌, slice_get, subst, sym}
use Rattle.rsx_link.specs.Ends.{IsCancelSeatOf, IsDownOf}
use Rattle.test_random.proofs.Along.{own_put, own_read}
use Rattle.test_random.proofs.ends.canceller_there.Goals as goal

pub returns-clause-taps : goal.returns-clause-taps
returns-clause-taps c =
    let e = c.canceller_over.ensures in
    let l = c.index.result.now in
    let o = own_read c.args.links.now.items c.args.taps.now.items c.args.place c.index_mut.result.now c.requires.there c.index_mut.ensures.value (λ t. t.link) (λ l t. IsDownOf l t.down × IsCancelSeatOf l t.seat) l c.index.ensures c.requires.own in
    own_put c.args.links.now.items c.args.taps.now.items c.args.place c.index_mut.result.now c.requires.there c.index_mut.ensures.value (λ t. t.link) (λ l t. IsDownOf l t.down × IsCancelSeatOf l t.seat) l c.canceller_over.new.self c.index.ensures c.requires.own
    (subst (λ d. IsDownOf l d) (sym e.same.2) o.1.0, e.end.0.0) e.same.1

pub returns-clause-own : goal.returns-clause-own
returns-clause-own c =
    let e = c.canceller_over.ensures in
    let l = c.index.result.now in
    let o = own_read c.args.links.now.items c.args.taps.now.items c.args.place c.index_mut.result.now c.requires.there c.index_mut.ensures.value (λ t. t.link) (λ l t. IsDownOf l t.down × IsCancelSeatOf l t.seat) l c.index.ensures c.requires.own in
    (l, ap (slice_get c.args.links.now.items) e.new.1 ∙ o.0, e.end.1)
