-- What files of this crate and of those above import most, in one place.
pub use Rattle.rsx_demand.specs.Demand.{saturating_total}
pub use Rattle.rsx_graph.specs.InGraph.{state_of}
pub use Rattle.rsx_graph.specs.Kinds.{AllHanded, AllHold, AllStand, AreValues, Feed, Holds, IsCancelled, IsFedHubMade, IsFresh, IsMadeAt, IsMoveMade, IsMoved, IsMovedBy, IsMovedInFeed, IsRequested, IsRequestedAt, IsSubscribed, IsValue, LeadTo, Rows, Subscription, any_machine, enabled_at, enabled_inside, feed_move, inner_move, is_enabled, notes_of, route, tree_nodes}
pub use Rattle.rsx_graph.specs.Stands.{GraphStands, GraphState, IsAsideSame, nothing}
pub use Rattle.rsx_graph.specs.Steps.{no_history}
pub use Rattle.rsx_graph_calls.specs.Edits.{joins_in, with_fed_hub}
pub use Rattle.rsx_graph_calls.specs.Subscribing.{with_subscriber}
pub use Rattle.rsx_graph_moves.specs.Pumped.{Made, after_moves, delivered_by}
pub use Rattle.rsx_model.specs.Region.{region_of}
pub use Rattle.rsx_tck.specs.Laws.Following.{each_after-more, each_after-none, each_after-other, none_after-more, none_after-none, none_after-other, tells-none}
pub use Rattle.rsx_tck.specs.Laws.Positions.{at-new, at-none, of-other, of-same, stands-cases, stands-old}
pub use Rattle.rsx_tck.specs.Passes.{IsOpen, KnowsAnswer, KnowsSignal, Stands, Tells, is_unanswered, next_answer, next_signal}
pub use Rattle.rsx_tck.specs.Rule.{all_rules}
pub use Rattle.rsx_tck.specs.Sentences.{AtEachPosition, EachAfter, FirstIs, NoneAfter, RefusesUnwanted, Sentence, before_cancel, items_in, requests_in}
pub use Rattle.rsx_tck.specs.declared.pass.Effect.TheVariants.{Nothing}
pub use Rattle.rsx_tck.specs.declared.rule.Rule.{Rule}
pub use Rattle.rsx_tck.specs.Events.{is_bad_request, is_bad_request_error, is_cancel, is_cancel_or_ending, is_ending, is_exit, is_next, is_next_or_ending, is_on_subscribe, is_positive_request, is_request_or_cancel, is_signal, is_subscribe, of, of_on, requested, subscriber_of}
pub use Rattle.rsx_tck.specs.declared.event.Event.{Event}
pub use Rattle.rsx_tck.specs.declared.event.Stamped.{Stamped}
pub use Rattle.rsx_types.specs.Meaning.{Meaning}
pub use Rattle.rsx_types.specs.declared.names.HubKind.TheVariants.{Multicast}
pub use Rattle.rsx_types.specs.declared.names.Move.{Move}
pub use Rattle.rsx_types.specs.declared.names.Move.TheVariants.{Accept, Ask, Pick, Row, Send, Take}
pub use Rattle.rsx_types.specs.declared.names.SubId.{SubId}
pub use Rattle.rsx_types.specs.declared.signal.Cause.TheVariants.{NonPositiveRequest}
pub use Rattle.rsx_types.specs.declared.signal.Signal.{Signal}
pub use Rattle.rsx_verify.specs.Events.{answered, beginning, deliveries, delivery, event_of, stamped, stamped_on}
pub use Rattle.rsx_verify.specs.Kept.{AreKept, IsKept}
pub use Rattle.rsx_verify.specs.Reports.{AreLines, AreUnbroken, AreVerified, IsLine, IsUnbroken, bad_request_acts, cancel_acts, first_broken, is_broken, line_of, processor_acts, publisher_acts}
pub use Rattle.rsx_verify.specs.Runs.{Acted, IsActed, IsActedAs, IsBegun, IsCancelOf, IsFollowed, IsFollowedTo, IsPassedOver, IsProcessed, IsProcessing, IsPumpOf, IsRecorded, IsRequestOf, reader, subscriber}
pub use Rattle.rsx_verify.specs.declared.act.Act.{Act}
pub use Rattle.rsx_verify.specs.declared.line.Line.{Line}
