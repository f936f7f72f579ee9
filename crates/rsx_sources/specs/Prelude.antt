-- What files of the crates above import most, in one place.
pub use Rattle.rsx_sources.specs.Counts.{AreWithin, CanStep, CountsIn, CountsOut, CountsStep, IsHungry, IsReading, NeverSteps, ends_input, one_more, taken_after}
pub use Rattle.rsx_sources.specs.Endings.{ended_or, has_ending}
pub use Rattle.rsx_sources.specs.Heads.{head_of}
pub use Rattle.rsx_sources.specs.Items.{GivesItems, ItemsLeft, items_comes_out, items_popped, items_shown, items_waiting}
pub use Rattle.rsx_sources.specs.Machine.{Incoming, Keeps, LetsGo, Records, TakesIn, front_of, in_front, in_front_at, incoming_of, quiet}
pub use Rattle.rsx_sources.specs.Offered.{OffersWithin}
pub use Rattle.rsx_sources.specs.Passed.{IsItemOut, IsPassed, IsPickDone, IsRowDone, IsStepDone, IsSteppedOut, IsTakenIn}
pub use Rattle.rsx_sources.specs.Popping.{IsItemOutBy, IsPoppedBy, IsPoppedNoting, IsReady, IsRecordedBy}
pub use Rattle.rsx_sources.specs.Range.{GivesRange, range_comes_out, range_pop_allocates, range_popped, range_shown, range_shows, range_waiting}
pub use Rattle.rsx_sources.specs.Reading.{IsBehind, IsNextAt, IsNextIn, IsReadOn, IsResidualOf, Reading, published_at, reading_after, reads_hub, takes_published}
pub use Rattle.rsx_sources.specs.Slot.{is_nil}
pub use Rattle.rsx_sources.specs.Steps.{IsSameKind, IsNotMade, IsPopped, StaysAlike}
pub use Rattle.rsx_types.specs.Meaning.{Allocates, Meaning}
pub use Rattle.rsx_types.specs.Notes.{note_then, notes_then, unchosen}
pub use Rattle.rsx_types.specs.Plain.{accumulated_then, buffered_items, chained, distinct_items, filtered_items, last_list, listed, mapped_items, new_key_then, plain, range_items, scanned_items, taken_items}
pub use Rattle.rsx_types.specs.Stream.{Stream, answer_then, ended_by, ending_signals, item_then, items_then, kept_then, signal_then, signals, signals_then}
pub use Rattle.rsx_types.specs.declared.fault.NoMemory.{NoMemory}
pub use Rattle.rsx_types.specs.declared.limits.TheConstants.{CAPACITY}
pub use Rattle.rsx_types.specs.declared.names.HubId.{HubId}
pub use Rattle.rsx_types.specs.declared.names.HubKind.{HubKind}
pub use Rattle.rsx_types.specs.declared.names.HubKind.TheVariants.{Multicast, Replay}
pub use Rattle.rsx_types.specs.declared.names.Move.{Move}
pub use Rattle.rsx_types.specs.declared.names.Move.TheVariants.{Accept, Ask, Pick, Row, Send, Take}
pub use Rattle.rsx_types.specs.declared.names.NodeId.{NodeId}
pub use Rattle.rsx_types.specs.declared.names.SubId.{SubId}
pub use Rattle.rsx_types.specs.declared.names.Tree.{Tree}
pub use Rattle.rsx_types.specs.declared.names.Tree.TheVariants.{Feed, Sub}
pub use Rattle.rsx_types.specs.declared.note.Note.{Note}
pub use Rattle.rsx_types.specs.declared.note.Note.TheVariants.{Ended, Nothing, Picks}
pub use Rattle.rsx_types.specs.declared.signal.Cause.{Cause}
pub use Rattle.rsx_types.specs.declared.signal.Cause.TheVariants.{Function, NonPositiveRequest, User}
pub use Rattle.rsx_types.specs.declared.signal.Ending.{Ending}
pub use Rattle.rsx_types.specs.declared.signal.Ending.TheVariants.{Done, Failed, Open}
pub use Rattle.rsx_types.specs.declared.signal.Signal.{Signal}
pub use Rattle.rsx_types.specs.declared.signal.Signal.TheVariants.{Complete, Error, Next}
pub use Rattle.rsx_types.specs.declared.stage.Stage.{Stage}
pub use Rattle.rsx_types.specs.declared.stage.Stage.TheVariants.{Scan}
