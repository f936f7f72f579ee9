-- The concat: one value behind the other.
use Rattle.std.specs.Prelude.{List, [], ◌∷◌}
use Rattle.rsx_types.specs.declared.signal.Ending.{Ending}
use Rattle.rsx_types.specs.declared.signal.Ending.TheVariants.{Open, Done, Failed}
use Rattle.rsx_types.specs.Stream.{Stream, ended_by, items_then}

-- behind a completion comes the rest; any other ending stays
abbrev pub unless_open : {T : Type 0} → Ending → Stream T → Stream T
unless_open Open rest = ended_by Open
unless_open Done rest = rest
unless_open (Failed c) rest = ended_by (Failed c)

-- a value, and behind its completion the rest
abbrev pub value_then : {T : Type 0} → Stream T → Stream T → Stream T
value_then v rest = items_then v.items (unless_open v.ending rest)

-- the first value; where it is done the rest follows
abbrev pub concat : {T : Type 0} → List (Stream T) → Stream T
concat [] = ended_by Done
concat (v ∷ vs) = value_then v (concat vs)
