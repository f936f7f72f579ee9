-- Ends of links that threads have.
use Rattle.std.specs.Prelude.{◌≡◌, ℕ, List, Some, IfSome, slice_get}
use Rattle.rsx_demo.specs.declared.val.Val.{Val}
use Rattle.rsx_link.specs.Ends.{IsCancelSeatOf, IsDownOf, IsUpOf}
use Rattle.rsx_link.specs.declared.link.Link.{Link}
use Rattle.rsx_runtime.specs.declared.emitter.Emitter.{Emitter}
use Rattle.rsx_runtime.specs.declared.tap.Canceller.{Canceller}
use Rattle.rsx_runtime.specs.declared.tap.Tap.{Tap}
use Rattle.rsx_serialized.specs.Calls.{IsAt}
use Rattle.rsx_serialized.specs.declared.region.Links.{Links}
use Rattle.test_random.specs.Returned.{AlongFew}
use Rattle.test_random.specs.declared.beside.Cancellers.{Cancellers}
use Rattle.test_random.specs.declared.beside.Work.{Work}

module _ {T : Type 0} where
  -- the emitter has the sending end of the link with its number
  abbrev pub IsEmitterOf : List (Link T) → Emitter T → Type 0
  IsEmitterOf links e = IsAt links e.link (λ l. IsUpOf l e.up)

  -- each of them has
  abbrev pub AreEmittersOf : List (Link T) → List (Emitter T) → Type 0
  AreEmittersOf links es = (k : ℕ) (e : Emitter T) → slice_get es k ≡ Some e → IsEmitterOf links e

  -- each tap has the receiving end and a cancel seat of the link at its place
  abbrev pub AreTapsOf : List (Link T) → List (Tap T) → Type 0
  AreTapsOf links ts = AlongFew links ts (λ k l t. (t.link ≡ k) × (IsDownOf l t.down × IsCancelSeatOf l t.seat))

  -- the canceller has a cancel seat of the link with its number
  abbrev pub IsCancellerOf : List (Link T) → Canceller → Type 0
  IsCancellerOf links c = IsAt links c.link (λ l. IsCancelSeatOf l c.seat)

  -- each of them has
  abbrev pub AreCancellersOf : List (Link T) → Cancellers → Type 0
  AreCancellersOf links cs = IfSome cs.first (IsCancellerOf links) × IfSome cs.second (IsCancellerOf links) × IfSome cs.third (IsCancellerOf links) × IfSome cs.fourth (IsCancellerOf links)

-- all ends are those of these links
pub record IsReady (links : Links Val) (w : Work) : Type 0 where
  pub first : IfSome w.first (IsEmitterOf links.emitters.items)
  pub second : IfSome w.second (IsEmitterOf links.emitters.items)
  pub cancellers : AreCancellersOf links.taps.items w.cancellers
  pub taps : AreTapsOf links.taps.items w.taps.items
