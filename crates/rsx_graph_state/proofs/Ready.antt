-- Whether a hub can take its next signal in, by which signal that is.
use Rattle.std.proofs.Common.{◌≡◌, Bool, true, false, Option, Some, None, option_map, refl}
use Rattle.rsx_sources.specs.Prelude.{Cause, Signal, Next, Complete, Error, front_of}
use Rattle.rsx_sources.specs.declared.machine.Front.{Front}
use Rattle.rsx_sources.specs.declared.machine.Front.TheVariants.{Item, Completion, Failure}
use Rattle.rsx_tree.specs.Handed.{is_room_for}
use Rattle.rsx_graph_state.specs.Publishing.{is_ready}

-- an item needs room, an ending none
pub item_room : {T : Type 0} (s : Signal T) (room : Bool) → Item ≡ front_of s → is_room_for s room ≡ room
item_room (Next x) room e = refl
item_room Complete room e = cc
item_room (Error c) room e = cc

pub completion_room : {T : Type 0} (s : Signal T) (room : Bool) → Completion ≡ front_of s → is_room_for s room ≡ true
completion_room (Next x) room e = cc
completion_room Complete room e = refl
completion_room (Error c) room e = cc

pub failure_room : {T : Type 0} (s : Signal T) (k : Cause) (room : Bool) → Failure k ≡ front_of s → is_room_for s room ≡ true
failure_room (Next x) k room e = cc
failure_room Complete k room e = cc
failure_room (Error c) k room e = refl

pub no_signal : {T : Type 0} (o : Option (Signal T)) → option_map front_of o ≡ None → o ≡ None
no_signal None e = refl
no_signal (Some s) e = cc

-- what is so of the room for a signal like that which waits
pub waits_ready : {T : Type 0} (P : Bool → Type 0) (o : Option (Signal T)) (f : Front) (room : Bool) → option_map front_of o ≡ Some f → ((s : Signal T) → f ≡ front_of s → P (is_room_for s room)) → P (is_ready o room)
waits_ready P None f room is so = cc
waits_ready P (Some s) f room is so = let same : f ≡ front_of s = cc in so s same

pub none_ready : {T : Type 0} (o : Option (Signal T)) (room : Bool) → option_map front_of o ≡ None → false ≡ is_ready o room
none_ready None room e = refl
none_ready (Some s) room e = cc
