-- What a node offers, by what was asked of it.
use Rattle.std.specs.Prelude.{⊤, ℕ, ◌<◌, Option, Some, None}
use Rattle.rsx_sources.specs.declared.machine.Front.{Front}
use Rattle.rsx_sources.specs.declared.machine.Front.TheVariants.{Item, Completion, Failure}

-- a signal is offered that may go with what was asked: an item that was asked for, or an ending
abbrev pub OffersWithin : Option Front → ℕ → ℕ → Type 0
OffersWithin None asked sent = ⊥
OffersWithin (Some Item) asked sent = sent < asked
OffersWithin (Some Completion) asked sent = ⊤
OffersWithin (Some (Failure c)) asked sent = ⊤
