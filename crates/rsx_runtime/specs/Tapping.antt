-- What the calls of a tap change.
use Rattle.std.specs.Prelude.{◌≡◌, List}
use Rattle.rsx_types.specs.declared.signal.Signal.{Signal}
use Rattle.rsx_link.specs.Ends.{IsCancelSeatOf, IsDownOf, carried_down, received_signals}
use Rattle.rsx_link.specs.declared.link.Link.{Link}
use Rattle.rsx_runtime.specs.Standing.{given_by}
use Rattle.rsx_runtime.specs.declared.tap.Tap.{Tap}

module _ {T : Type 0} where
  -- what it gave
  abbrev pub given : Tap T → List (Signal T)
  given t = given_by (received_signals t.down) t.error

  -- its end and its seat are those of this link
  abbrev pub IsTapOf : Link T → Tap T → Type 0
  IsTapOf l t = IsDownOf l t.down × IsCancelSeatOf l t.seat

  -- the tap of the same subscription, over the same link
  abbrev pub KeepsTap : Link T → Tap T → Tap T → Type 0
  KeepsTap l old new = IsTapOf l new × (new.sub ≡ old.sub) × (new.link ≡ old.link) × (carried_down new.down ≡ carried_down old.down)

  -- nothing was cancelled, and no canceller made
  abbrev pub SameSeat : Tap T → Tap T → Type 0
  SameSeat old new = (new.seat ≡ old.seat) × (new.cancellers ≡ old.cancellers)
