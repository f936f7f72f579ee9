-- A seat by which another thread cancels a subscription of a live graph.
use Rattle.rsx_link.specs.Ends.{IsCancelSeatOf}
use Rattle.rsx_region.specs.Pieces.{IsAt}
use Rattle.rsx_runtime.specs.declared.live.Live.{Live}
use Rattle.rsx_runtime.specs.declared.tap.Canceller.{Canceller}

-- the canceller has a cancel seat of the link with its number
abbrev pub IsCancellerOf : {N T O : Type 0} → Live N T O → Canceller → Type 0
IsCancellerOf live c = IsAt live.links.items c.link (λ l. IsCancelSeatOf l c.seat)
