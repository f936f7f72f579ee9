-- What files of this crate and of those above import most, in one place.
pub use Rattle.rsx_demo.specs.Demo.{demo_allocates, demo_meaning}
pub use Rattle.rsx_demo.specs.declared.val.Val.{Val}
pub use Rattle.rsx_graph.specs.InGraph.{HasPumpedIn, state_of}
pub use Rattle.rsx_graph.specs.Kinds.{AllStand, HasNotesAt, IsRequestedAt, Subscription, any_machine, notes_of}
pub use Rattle.rsx_graph.specs.Rows.{AreValues, Feed, HasEnded, HasFedJoins, HasFeedNotes, HasLooks, History, HubPast, IsEmitRefusal, IsFeedLookRefusal, IsFeedWait, IsMoveMade, IsOwed, IsValue, IsWait, LeadTo, Made, NameHubs, Rows, Source, SourceStands, accepted_at, after_move, after_moves, delivered_by, emitted, fed, feed_of, has_emitter, has_feed, joins_in, published_at, published_from, sent_at, with_delivery, with_fed_hub, with_hub, with_made, with_moved, with_past, with_published, with_sent}
pub use Rattle.rsx_graph.specs.Stands.{GraphStands, GraphState}
pub use Rattle.rsx_graph.specs.Steps.{extended, no_history}
pub use Rattle.rsx_graph_state.specs.declared.refusal.Refusal.{Refusal}
pub use Rattle.rsx_script.specs.Answers.{IsTextOf, answer_text, notes_text, rest_text, signals_text}
pub use Rattle.rsx_script.specs.declared.print.Answer.{Answer}
pub use Rattle.rsx_session.specs.Answers.{IsAnswered, IsTrouble, is_of, is_refused}
pub use Rattle.rsx_session.specs.Kept.{Known, all_taken, ending_after, ending_by, ending_in, followed_by, known, seen, source_ended, source_of, source_with, source_without_last, sources_of, taken}
pub use Rattle.rsx_session.specs.Places.{AreChoices, AreJoins, ArePumped, HaveValues, IsAsked, IsChecked, IsCounted, IsDrawn, IsEvaluated, IsEvaluatedOver, IsExplained, IsFeedExplained, IsFeedRefused, IsLook, IsRest, IsRight, IsShown, IsStepMade, IsValued, IsViewed, OfSub, OfValue, Place, begun, checked_text, pumped_text, step_text}
pub use Rattle.rsx_session.specs.Sessions.{AllLead, AllPumpTo, AllRun, GrowsByLine, HasRun, IsHubsTrouble, IsLineOf, IsLookTrouble, IsNextTrouble, IsNextValue, IsRestOf, IsRightOf, IsScratchTrouble, IsTroubleOf, IsValueAt, IsValueOf, LeadsAll, LeadsBy, OnText, Says, SessionStands, place_of}
pub use Rattle.rsx_session.specs.declared.published.HubSource.{HubSource}
pub use Rattle.rsx_session.specs.declared.session.Record.{Record}
pub use Rattle.rsx_session.specs.declared.session.Session.{Session}
pub use Rattle.rsx_session.specs.declared.session.Trouble.{Trouble}
pub use Rattle.rsx_subscriber.specs.Past.{items_in, requested}
pub use Rattle.rsx_types.specs.Stream.{Stream, ended_by}
pub use Rattle.rsx_types.specs.declared.names.Move.TheVariants.{Accept, Ask, Pick, Row, Send, Take}
pub use Rattle.rsx_types.specs.declared.names.SubId.{SubId}
pub use Rattle.rsx_types.specs.declared.note.Note.{Note}
pub use Rattle.rsx_types.specs.declared.signal.Cause.TheVariants.{NonPositiveRequest, User}
pub use Rattle.rsx_types.specs.declared.signal.Signal.{Signal}
pub use Rattle.rsx_types.specs.declared.signal.Signal.TheVariants.{Complete, Error, Next}
