use Rattle.rsx_link.specs.Ends.{IsCancelSeatOf, IsDownOf}
use Rattle.test_random.proofs.Along.{own_put}
use Rattle.test_random.proofs.ends.call_there.Goals as goal

pub returns : goal.returns
returns c = own_put c.args.links.now.items c.args.taps.now.items c.args.place c.index_mut.result.now c.requires.there c.index_mut.ensures.value (λ t. t.link) (λ l t. IsDownOf l t.down × IsCancelSeatOf l t.seat) c.index.result.now c.call_over.new.tap c.index.ensures c.requires.own c.call_over.ensures.end c.call_over.ensures.same
