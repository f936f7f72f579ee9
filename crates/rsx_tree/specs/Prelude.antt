-- What files of the crates above import most, in one place.
pub use Rattle.rsx_tree.specs.Allocates.{node_allocates}
pub use Rattle.rsx_tree.specs.Balance.{IsBalanced, IsOwnerBalanced, IsRowBalanced, sent_over}
pub use Rattle.rsx_tree.specs.Changed.{Hold}
pub use Rattle.rsx_tree.specs.Edges.{EdgeView, IsPassed, asked_up_to, can_pass, changed_at, closed_if, closed_state, closed_view, edge_view, is_live, passed}
pub use Rattle.rsx_tree.specs.Fetched.{IsLed}
pub use Rattle.rsx_tree.specs.Handed.{IsHanded, IsHandedOut, IsNextOf, counts_after, has_room_in, is_room_for, reader_at, readers_in, room_at, times}
pub use Rattle.rsx_tree.specs.Inputs.{Place, beside_of, can_ask_in, can_send_in, closed_row, closed_row_if, comes_in, edges, is_own, notes_of, out_of, sent_edges, size, wanted_at}
pub use Rattle.rsx_tree.specs.Look.{IsEnabledAt, IsStepEnabled}
pub use Rattle.rsx_tree.specs.Reads.{IsReadAt, IsRowReadAt, IsTreeReadAt, count_before}
pub use Rattle.rsx_tree.specs.Residual.{IsRowBehind, IsTreeBehind}
pub use Rattle.rsx_tree.specs.Rests.{HasReadAll, HaveReadAll, IsStuck, NothingBehind, TreeHasReadAll}
pub use Rattle.rsx_tree.specs.Stepped.{IsPickedHere, IsRowMadeHere, IsSteppedAt, IsStill, Station, can_pick_in, can_row_in, over, station, station_of}
pub use Rattle.rsx_tree.specs.Tree.{IsJoined, IsUnchosen, NoneLive, comes_out, notes, offers, place_of, popped}
