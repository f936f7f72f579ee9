use Rattle.std.proofs.Common.{arith}
use Rattle.std.proofs.lemmas.List.{at_drop_all}
use Rattle.rsx_pipe.specs.Published as Part
use Rattle.rsx_graph_state.specs.Publishing.{readers}
use Rattle.rsx_graph_state.proofs.Handing.{total_next}
use Rattle.rsx_graph_state.proofs.publishing.readers_up_to.Goals as goal

pub loop-subscription-preserved : goal.loop-subscription-preserved
loop-subscription-preserved g c =
    let i = c.loop-subscription.invariant in
    let more = total_next (λ x. Part.readers g.N.Machine c.args.number x.part) c.loop-subscription.subscription-index c.args.subscriptions.now c.subscription-item.result c.loop-subscription-test.true c.subscription-item.is in
    let here = c.readers_up_to-found.ensures in
    let rest = i.rest in
    let within = i.within in record {
      within = omega (arith, here, within);
      rest = omega (arith, here, within, rest, more);
    }

pub returns : goal.returns
returns g c =
    let i = c.loop-subscription.invariant in
    let rest = i.rest in
    let within = i.within in
    let none = at_drop_all (readers g.N.Machine c.args.number) c.args.subscriptions.now c.loop-subscription.subscription-index (omega arith) in
    omega (arith, rest, within, none)
