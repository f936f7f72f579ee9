-- What is said of the rows of a graph, passed on to those who speak of whole graphs.
pub use Rattle.rsx_graph.specs.Kinds.{Feed, AreValues, IsValue, Rows, SourceStands, HasEnded, IsMoveMade, LeadTo, HasFeedNotes, IsFeedWait, IsOwed, IsWait, HasLooks}
pub use Rattle.rsx_graph_state.specs.History.{History, HubPast, Source, accepted_at, emitted, fed, sent_at, with_delivery, with_made, with_moved, with_sent}
pub use Rattle.rsx_graph_state.specs.Moves.{has_feed}
pub use Rattle.rsx_graph_state.specs.Stands.{feed_of}
pub use Rattle.rsx_graph_moves.specs.Pumped.{Made, after_move, after_moves, delivered_by}
pub use Rattle.rsx_graph_calls.specs.Edits.{NameHubs, joins_in, with_fed_hub, with_hub}
pub use Rattle.rsx_graph_calls.specs.Publishes.{IsEmitRefusal, has_emitter, published_at, published_from, with_published}
pub use Rattle.rsx_graph_calls.specs.Regions.{RegionLists, no_regions, regions_of}
pub use Rattle.rsx_graph_calls.specs.Requests.{with_past}
pub use Rattle.rsx_graph_calls.specs.Looks.{HasFedJoins, IsFeedLookRefusal}
