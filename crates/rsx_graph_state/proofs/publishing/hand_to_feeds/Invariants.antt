use Rattle.std.proofs.Common.{◌≡◌, length, take, drop}
use Rattle.rsx_tree.specs.Handed.{IsHandedOut}
use Rattle.rsx_graph_state.specs.Publishing as spec
use Rattle.rsx_graph_state.specs.Publishing.{feed_readers, AllFeedsHanded}
use Rattle.rsx_graph_state.proofs.publishing.hand_to_feeds.Given as goal

abbrev pub invariant-loop-feed : goal.invariant-loop-feed
invariant-loop-feed g l =
    let i = l.feed-index in
    let before = l.fn.feeds in record {
      count : length l.feeds ≡ length before;
      rest : drop i l.feeds ≡ drop i before;
      handed : IsHandedOut (feed_readers g.N.Machine l.number (take i before)) (spec.feeds_have_room g.N.Machine l.number (take i before)) l.fn.signals.items l.signals.items
          (λ s. AllFeedsHanded g.N.Machine l.number s (take i before) (take i l.feeds));
    }
