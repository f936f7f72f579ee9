-- What files of the crates above import most, in one place.
pub use Rattle.rsx_graph_state.specs.Answers.{HasAsked, HasJoins, IsAcceptRefusal, IsHubRefusal, IsLookRefusal, IsSubMoveRefusal, IsSubscribeId, changed, state_at}
pub use Rattle.rsx_graph_state.specs.Begun.{AreTooMany, HaveJoined, IsSubscribed, have_places}
pub use Rattle.rsx_graph_state.specs.Feeds.{FeedStands, has_room_at, reads_at}
pub use Rattle.rsx_graph_state.specs.Headline.{AreValues, IsValue}
pub use Rattle.rsx_graph_state.specs.History.{History, HubPast, Source, accepted_at, delivered, emitted, fed, sent_at, with_delivery, with_made, with_moved, with_sent}
pub use Rattle.rsx_graph_state.specs.Holding.{AllHold}
pub use Rattle.rsx_graph_state.specs.Hubs.{IsEmittedAt, IsEndedAt, signals_wait}
pub use Rattle.rsx_graph_state.specs.Joins.{AreFeedJoins, HasFeedJoins, JoinsStand}
pub use Rattle.rsx_graph_state.specs.Lists.{every, total}
pub use Rattle.rsx_graph_state.specs.Moves.{IsAcceptedAt, IsAloneInFeed, IsFedAt, IsFeedMoved, IsFeedRefusal, IsMadeInFeed, IsMovedBy, accepts_at, accepts_in, feed_allocates, feed_enabled, has_feed, is_out, rows_of, sends, sends_where, sent_by, works, works_where}
pub use Rattle.rsx_graph_state.specs.Publishing.{AllFeedsHanded, AllHanded, all_have_room, all_readers, can_accept, is_ready}
pub use Rattle.rsx_graph_state.specs.Pumped.{AllPumped, AreQuiet, HasRestedAt, HaveRested, IsSubAwake, IsSubMoveMade}
pub use Rattle.rsx_graph_state.specs.Sending.{can_feed, can_feed_at, can_feed_of, takes_next}
pub use Rattle.rsx_graph_state.specs.Served.{AllHaveRead, AllServed, HasGotAll}
pub use Rattle.rsx_graph_state.specs.Stands.{HubStands, HubsStand, IsFedBy, Rows, SourceStands, StandsFor, feed_of, place_of}
pub use Rattle.rsx_graph_state.specs.Subscriptions.{AllStand, HasNotesAt, IsAloneAt, IsCancelledAt, IsMade, IsMadeAt, IsRequestedAt, OwedAt, allocates_at, enabled_at, enabled_in_tree, pump_allocates}
pub use Rattle.rsx_hub.specs.Hub.{HubState, accepted_items, are_numbers, fresh_hub, hub_value, items_of, join, replayed, takes_signal, waiting, with_members}
pub use Rattle.rsx_hub.specs.Member.{ending_taken, without}
pub use Rattle.rsx_hub.specs.Waiting.{first_waiting, is_open}
pub use Rattle.rsx_hub.specs.declared.TheConstants.{MOST_ACCEPTED, MOST_MEMBERS}
pub use Rattle.rsx_pipe.specs.Part.{IsPartResidual}
pub use Rattle.rsx_subscriber.specs.Delivered.{Delivered}
pub use Rattle.rsx_subscriber.specs.Stands.{IsStillOwed}
pub use Rattle.rsx_subscriber.specs.declared.state.SubscriptionState.{SubscriptionState}
pub use Rattle.rsx_subscriber.specs.declared.state.SubscriptionState.TheVariants.{Ended, Open}
pub use Rattle.rsx_subscriber.specs.declared.subscription.Subscription.{Subscription}
