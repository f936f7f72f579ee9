use Rattle.rsx_link.specs.Ends.{IsCancelSeatOf, IsDownOf}
use Rattle.test_random.proofs.Along.{own_put}
use Rattle.test_random.proofs.returned.take_at.Goals as goal

pub returns : goal.returns
returns g c =
    let e = c.take_over.ensures.end.0 in
    own_put c.args.links.now.items c.args.taps.now.items c.args.place c.index_mut.result.now c.requires.there c.index_mut.ensures.value (λ t. t.link) (λ l t. IsDownOf l t.down × IsCancelSeatOf l t.seat) c.index.result.now c.take_over.new.self c.index.ensures c.requires.own e.0 e.2
