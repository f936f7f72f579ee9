-- What files of the crates above import most, in one place.
pub use Rattle.rsx_queued.specs.Held.{first_held, held_then, is_open}
pub use Rattle.rsx_queued.specs.Input.{Gives, IsCounted, IsFirst, fresh_input, has_room_for, is_gone, is_taken, next_signal, still, takes, unless_taken, waiting_count, with_signal, without}
pub use Rattle.rsx_queued.specs.Inputs.{AreCounted, are_gone, credits_at, done_at, here, inputs_left, next_signal_at, picked, takes_at, waiting_at}
pub use Rattle.rsx_queued.specs.Laws.{done_left, empty_of, ended_out, ending_there, offers_ending, picked_same, same_row, settled, still_ended}
pub use Rattle.rsx_queued.specs.Merged.{merge_behind, merge_cut_off}
pub use Rattle.rsx_queued.specs.Output.{IsOut, first_output, has_ending, is_empty, is_over, out_signal, output_then}
pub use Rattle.rsx_queued.specs.Queued.{can_move, counted_in, ended_in, is_ended, may_go, node_sent, note_of_shown, out, pick_by, pick_of, pop_note, queued_recording, reads_in, recording_by, row_by, row_of}
pub use Rattle.rsx_queued.specs.QueuedLaws.{Goes, Shows, may_go_less, moved_goes, nothing_noted, nothing_queued}
pub use Rattle.rsx_queued.specs.Sender.{sender_accepts, sender_comes_out, sender_counted, sender_done, sender_ended, sender_picks, sender_popping, sender_reads, sender_recorded, sender_rooms, sender_rows, sender_takes, sender_waiting, sender_wanted}
pub use Rattle.rsx_queued.specs.Values.{first_values, head_of, tail_of}
