-- Where nothing stands, and a signal in front of what comes out of a node that records nothing.
use Rattle.std.proofs.Common.{◌≡◌, true, List, [], ◌∷◌, option_map, refl}
use Rattle.rsx_types.specs.declared.note.Note.{Note}
use Rattle.rsx_types.specs.declared.note.Note.TheVariants.{Nothing, Picks, Ended}
use Rattle.rsx_types.specs.declared.signal.Signal.{Signal}
use Rattle.rsx_types.specs.Stream.{Stream, signal_then}
use Rattle.rsx_sources.specs.Machine.{quiet}
use Rattle.rsx_sources.specs.Slot.{is_nil}

pub nil_of : {A : Type 0} (xs : List A) → is_nil xs ≡ true → xs ≡ []
nil_of [] e = refl
nil_of (x ∷ xs) e = cc

pub quiet_then : {T : Type 0} (s : Signal T) (further : Note) (v : Stream T) → quiet further (signal_then s v) ≡ option_map (signal_then s) (quiet further v)
quiet_then s Nothing v = refl
quiet_then s (Picks cs) v = refl
quiet_then s (Ended o) v = refl
