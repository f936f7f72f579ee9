-- A tap of which a canceller was made.
use Rattle.std.proofs.Common.{◌≡◌, ◌∙◌, List, ap, subst, sym}
use Rattle.rsx_link.specs.Ends.{IsCancelSeatOf, IsDownOf, KeepsSteps, carried_down}
use Rattle.rsx_link.specs.declared.cancel.CancelSeat.{CancelSeat}
use Rattle.rsx_link.specs.declared.down.Down.{Down}
use Rattle.rsx_link.specs.declared.link.Link.{Link}
use Rattle.rsx_region.proofs.EdgePlaces.{same_some}
use Rattle.rsx_region.specs.Pieces.{IsAt}
use Rattle.rsx_runtime.specs.Tapping.{IsTapOf, KeepsTap}
use Rattle.rsx_runtime.specs.declared.live.Live.{Live}
use Rattle.rsx_runtime.specs.declared.tap.Canceller.{Canceller}
use Rattle.rsx_runtime.specs.declared.tap.Tap.{Tap}
use Rattle.test_live.specs.Cancelling.{IsCancellerOf}

-- the live graph may be seen through a reference
pub of_same : {N T O : Type 0} (live was : Live N T O) (tap now : Tap T) (seat : CancelSeat) → live ≡ was → IsAt live.links.items tap.link (λ l. KeepsSteps l tap.seat now.seat × IsCancelSeatOf l seat) →
    IsAt was.links.items tap.link (λ l. KeepsSteps l tap.seat now.seat × IsCancelSeatOf l seat)
of_same {N} {T} {O} live was tap now seat same h = let P : Live N T O → Type 0 = λ v. IsAt v.links.items tap.link (λ l. KeepsSteps l tap.seat now.seat × IsCancelSeatOf l seat) in subst P same h

-- a tap that is over its link there is so here
pub tap_of_same : {N T O : Type 0} (live was : Live N T O) (tap : Tap T) → live ≡ was → IsAt was.links.items tap.link (λ l. IsTapOf l tap) → IsAt live.links.items tap.link (λ l. IsTapOf l tap)
tap_of_same {N} {T} {O} live was tap same h = let P : Live N T O → Type 0 = λ v. IsAt v.links.items tap.link (λ l. IsTapOf l tap) in subst P (sym same) h

-- a canceller that is one of a link there is so here
pub canceller_of_same : {N T O : Type 0} (live was : Live N T O) (canceller : Canceller) → live ≡ was → IsCancellerOf was canceller → IsCancellerOf live canceller
canceller_of_same {N} {T} {O} live was canceller same h = let P : Live N T O → Type 0 = λ v. IsCancellerOf v canceller in subst P (sym same) h

module _ {T : Type 0} (links : List (Link T)) (tap now : Tap T) (seat : CancelSeat) (made : IsAt links tap.link (λ l. KeepsSteps l tap.seat now.seat × IsCancelSeatOf l seat)) where
  -- the tap is over its link still
  pub halved : IsAt links tap.link (λ l. IsTapOf l tap) → now.sub ≡ tap.sub → now.link ≡ tap.link → now.down ≡ tap.down → IsAt links tap.link (λ l. KeepsTap l tap now)
  halved over sub link down =
      let l = made.0 in
      let same : over.0 ≡ l = same_some over.0 l (sym over.1 ∙ made.1) in
      let D : Link T → Type 0 = λ x. IsDownOf x tap.down in
      let E : Down T → Type 0 = λ d. IsDownOf l d in
      (l, made.1, ((subst E (sym down) (subst D same over.2.0), made.2.0.0), sub, link, ap (λ (d : Down T). carried_down d) down))
