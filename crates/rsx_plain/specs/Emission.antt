-- At most one item, and then at most one ending: what stands in front of what still comes.
use Rattle.std.specs.Prelude.{Option, Some, None}
use Rattle.rsx_sources.specs.Prelude.{Stream, item_then, Ending}
use Rattle.rsx_plain.specs.Moves.{ended_or}
use Rattle.rsx_plain.specs.declared.prepared.Emission.{Emission}

-- an item, if there is one, and then what comes
abbrev pub item_or : {T : Type 0} → Option T → Stream T → Stream T
item_or None v = v
item_or (Some x) v = item_then x v

-- an emission, and then what comes
abbrev pub emission_then : {T : Type 0} → Emission T → Stream T → Stream T
emission_then p v = item_or p.item (ended_or p.ending v)

-- an item, and this ending behind it
abbrev pub item_ended : {T : Type 0} → T → Ending → Emission T
item_ended x e = record { item = Some x; ending = e }
