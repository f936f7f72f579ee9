use Rattle.rsx_graph_state.specs.Publishing.{AllFeedsHanded, AllHanded, feed_readers, feeds_have_room, have_room, readers}
use Rattle.rsx_graph_state.proofs.Handing.{handed_then}
use Rattle.rsx_graph_state.proofs.publishing.hand_to_all.Goals as goal

pub returns : goal.returns
returns g c =
    let h = c.args.number in
    let fs = c.args.feeds.now in
    let xs = c.args.subscriptions.now in
    handed_then (feed_readers g.N.Machine h fs) (readers g.N.Machine h xs) (feeds_have_room g.N.Machine h fs) (have_room g.N.Machine h xs) (λ s. AllFeedsHanded g.N.Machine h s fs c.hand_to_feeds.new.feeds) (λ s. AllHanded g.N.Machine h s xs c.hand.new.subscriptions) c.args.signals.now.items c.hand_to_feeds.new.signals.items c.hand.new.signals.items c.hand_to_feeds.ensures c.hand.ensures
