-- What files of the crates above import most, in one place.
pub use Rattle.rsx_types.specs.Meaning.{Meaning}
pub use Rattle.rsx_types.specs.Plain.{accumulated_then, buffered_items, chained, distinct_items, filtered_items, last_list, listed, mapped_items, new_key_then, plain, range_items, scanned_items, taken_items}
pub use Rattle.rsx_types.specs.Stream.{Stream, answer_then, cut_by, ended_by, ending_signals, item_then, items_then, kept_then}
pub use Rattle.rsx_types.specs.declared.limits.TheConstants.{MOST_ITEMS}
pub use Rattle.rsx_types.specs.declared.names.HubId.{HubId}
pub use Rattle.rsx_types.specs.declared.names.HubKind.{HubKind}
pub use Rattle.rsx_types.specs.declared.names.HubKind.TheVariants.{Multicast, Replay}
pub use Rattle.rsx_types.specs.declared.note.Note.{Note}
pub use Rattle.rsx_types.specs.declared.note.Note.TheVariants.{Ended, Nothing, Picks}
pub use Rattle.rsx_types.specs.declared.signal.Cause.TheVariants.{Function, NonPositiveRequest, User}
pub use Rattle.rsx_types.specs.declared.signal.Ending.{Ending}
pub use Rattle.rsx_types.specs.declared.signal.Ending.TheVariants.{Done, Failed, Open}
pub use Rattle.rsx_types.specs.declared.signal.Signal.{Signal}
pub use Rattle.rsx_types.specs.declared.signal.Signal.TheVariants.{Complete, Error, Next}
pub use Rattle.rsx_types.specs.declared.stage.Stage.{Stage}
pub use Rattle.rsx_types.specs.declared.stage.Stage.TheVariants.{Buffer, Distinct, Filter, Map, Scan, Take}
pub use Rattle.rsx_values.specs.Concat.{concat, unless_open, value_then}
pub use Rattle.rsx_values.specs.Delayed.{merge_delay, merge_delayed_inputs}
pub use Rattle.rsx_values.specs.Eager.{eager, eager_of}
pub use Rattle.rsx_values.specs.Flat.{expanded_items, flat_lane, flat_map, flat_map_delay, list_then}
pub use Rattle.rsx_values.specs.Group.{first_seen, group_by, group_lane, group_lanes, keyed_items, keyed_then, keys_after, lane_ending, of_key, placed, see, tagged_items}
pub use Rattle.rsx_values.specs.Lanes.{main_input, merged_lanes, merged_lanes_delay}
pub use Rattle.rsx_values.specs.Latest.{all_latest, combine, combine_latest, is_itemless, none_yet, row_first, stops, walk}
pub use Rattle.rsx_values.specs.Merge.{merge, merge_inputs, merged, taken_ending}
pub use Rattle.rsx_values.specs.Pick.{InputLeft, Taken, chosen_before, is_failure, left_after, next_here, next_of, no_more, numbered, pick, rest_of, up_to_failure}
pub use Rattle.rsx_values.specs.Record.{written}
pub use Rattle.rsx_values.specs.Steps.{TakesAt, TakesNext}
pub use Rattle.rsx_values.specs.UntilStop.{behind_first, combine_until_stop, latest_by, latest_until_stop, row_before, unless_chosen, walk_until_stop}
pub use Rattle.rsx_values.specs.Window.{last_window, window, windows, windows_and_main}
pub use Rattle.rsx_values.specs.Zip.{ending_after, ends_after, first_ending, items_of, shortest, zip, zip_ending, zip_rows}
