-- What comes in at the first input.
use Rattle.std.specs.Prelude.{List, [], ◌∷◌}
use Rattle.rsx_types.specs.declared.signal.Ending.TheVariants.{Open}
use Rattle.rsx_types.specs.Stream.{Stream, ended_by}

-- the value that comes in there; where none is named, nothing comes
abbrev pub head_of : {T : Type 0} → List (Stream T) → Stream T
head_of [] = ended_by Open
head_of (v ∷ vs) = v
