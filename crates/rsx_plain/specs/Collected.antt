-- What came out of an operator so far, and what still comes out of it.
use Rattle.std.specs.Prelude.{◌≡◌, List}
use Rattle.rsx_sources.specs.Prelude.{Meaning, Stream, items_then, signal_then, Ending, Signal}
use Rattle.rsx_plain.specs.Moves.{ended_or}
use Rattle.rsx_plain.specs.State.{plain_from}
use Rattle.rsx_plain.specs.declared.state.PlainState.{PlainState}

-- the old state took a signal, and what came out by it stands behind the items before, with the ending e: in all the same
-- comes out, whatever still comes in
abbrev pub IsCollected : {T : Type 0} → Meaning T → List T → PlainState T → Signal T → List T → PlainState T → Ending → Type 0
IsCollected {T} m before old s after new e =
    (v : Stream T) → items_then before (plain_from m old (signal_then s v)) ≡ items_then after (ended_or e (plain_from m new v))

-- the state took these items and this ending, and then the items after, with the ending e, are all that came out
abbrev pub IsAllCollected : {T : Type 0} → Meaning T → List T → PlainState T → List T → Ending → List T → Ending → Type 0
IsAllCollected m before state items ending after e =
    items_then before (plain_from m state (record { items = items; ending = ending })) ≡ record { items = after; ending = e }
