-- What the rule of the places says of each state that keeps it.
use Rattle.std.proofs.Common.{◌≡◌, ℕ, suc, List, length, sym, ap, ◌∙◌, arith}
use mathlib.Core.Logic.{dite}
use mathlib.Core.Option.{some, some-injective}
use native.Mathlib.Decide.{ℕ_discrete}
use lib.ListN.{get_elem?}
use Rattle.atomic_table.specs.Table.{State}
use Rattle.rsx_link.specs.declared.place.Place.{Place}
use Rattle.rsx_link.specs.declared.place.Place.TheVariants.{Offered}
use Rattle.rsx_link.specs.declared.place.PlaceView.{PlaceView}
use Rattle.rsx_link.specs.PlaceSteps.{refusal_of, offer_of, collect_of, offers_at, collects_at}
use Rattle.rsx_link.specs.Places.{steps_of, count_in, claims, Kept}
use Rattle.rsx_link.specs.PlaceLaws.{EachTicketOnce, NoMoreRefusalsThanSeats, OfferedIsAtHome, CollectedIsOffered}
use Rattle.rsx_link.proofs.PlaceClosing.{some_found, counts_found}
use Rattle.rsx_link.proofs.PlaceCounts.{total_less}
use Rattle.rsx_link.proofs.Totals.{le-total}

module _ (E P : Type 0) where
  counter_is : (ends : List E) (s : State (Place E P) (PlaceView E P)) (h : Kept ends s) (counter : ℕ) → get_elem? s.words 0 ≡ some counter → counter ≡ h.counter
  counter_is ends s h counter e = some-injective _ _ (sym e ∙ ap (λ ws. get_elem? ws 0) h.words)

  pub each_ticket_once : EachTicketOnce E P
  each_ticket_once ends s h counter k at lt =
      let is = counter_is ends s h counter at in let place = (h.each k lt).4 in ((λ b. place.below (omega arith)), (λ b. place.above (omega arith)))

  pub no_more_refusals_than_seats : NoMoreRefusalsThanSeats E P
  no_more_refusals_than_seats ends s h counter at =
      let is = counter_is ends s h counter at in let n = length ends in
      let less = total_less (count_in (refusal_of n)) (claims n) s.views (λ o v e. omega arith) in
      let a = h.exceeds in let b = h.seats in omega arith

  pub offered_is_at_home : OfferedIsAtHome E P
  offered_is_at_home ends s h word k at lt =
      let row = h.each k lt in let place = row.4 in
      let is : word ≡ row.0 = some-injective _ _ (sym at ∙ ap (λ ws. get_elem? ws (suc k)) h.words ∙ row.2) in (
        is ∙ place.offers,
        (let once = place.once in omega arith),
        (λ o v part here found none.
            let some_offered = counts_found (offer_of k) part (steps_of v) found in
            let all = le-total (count_in (offers_at k)) s.views o v here in
            let once = place.once in let offers = place.offers in
            let carried = place.carries (omega arith) in
            let same = some_found (offer_of k) k carried.0 part (λ x xs a. a.0.0) (steps_of v) found (carried.1.names o v here) in
            row.3 ∙ ap some (carried.1.waits none) ∙ ap (λ (p : P). some (some (Offered p))) (sym same)),
      )

  pub collected_is_offered : CollectedIsOffered E P
  collected_is_offered ends s h k lt o v part here found =
      let place = (h.each k lt).4 in
      let some_collected = counts_found (collect_of k) part (steps_of v) found in
      let all = le-total (count_in (collects_at k)) s.views o v here in
      let once = place.once in let offers = place.offers in let most = place.collects in
      let carried = place.carries (omega arith) in
      let mine = some_found (collect_of k) k carried.0 part (λ x xs a. a.0.1) (steps_of v) found (carried.1.names o v here) in (
        dite (ℕ_discrete o 0) (λ e. e) (λ ne. let none = (h.fits o v here).collects ne k in absurd (omega arith)),
        omega arith,
        omega arith,
        (λ o' w other there offered. some_found (offer_of k) k carried.0 other (λ x xs a. a.0.0) (steps_of w) offered (carried.1.names o' w there) ∙ sym mine),
      )
