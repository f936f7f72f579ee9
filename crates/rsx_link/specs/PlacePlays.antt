-- What each step on the places tells its seat.
use Rattle.std.specs.Prelude.{◌≡◌, ◌≢◌, ℕ, suc, ◌<◌, ◌≤◌, [], ◌∷◌, IfSome}
use mathlib.Core.Option.{some}
use lib.ListN.{get_elem?}
use Rattle.atomic_table.specs.Table.{Me}
use Rattle.atomic_table.specs.Table as table
use Rattle.rsx_link.specs.declared.place.Place.{Place}
use Rattle.rsx_link.specs.declared.place.Place.TheVariants.{Free, Offered}
use Rattle.rsx_link.specs.declared.place.PlaceStep.TheVariants.{Ticket, Offer, Miss, Collect}
use Rattle.rsx_link.specs.declared.place.PlaceView.{PlaceView}
use Rattle.rsx_link.specs.PlaceSteps.{ticket_of, offers_at}
use Rattle.rsx_link.specs.Places.{more, count_in}

abbrev Told : Type 0 → Type 0 → Type 1
Told E P = table.Step (Place E P) → Me (Place E P) (PlaceView E P) → ℕ → Me (Place E P) (PlaceView E P) → Type 0

module _ {E P : Type 0} where
  -- a number that names a place is new to the seat, and the ends that were made for the place are out with the seat
  abbrev pub drew : Told E P
  drew st m n w = (w.0 ≡ more m.0 (Ticket n))
      × (n < st.slots → (e : E) × (w.1 ≡ (n, Free e) ∷ m.1) × IfSome m.0.ends (λ l. get_elem? l n ≡ some e) × (count_in (ticket_of n) m.0 ≡ 0) × (count_in (offers_at n) m.0 ≡ 0))
      × (st.slots ≤ n → w.1 ≡ m.1)

  -- the part that is out with the seat goes home
  abbrev pub offered : Told E P
  offered st m n w = (k : ℕ) (p : P) → m.1 ≡ (k, Offered p) ∷ [] → w ≡ (more m.0 (Offer k p), [])

  -- at 1 the part that was offered is out with the seat
  abbrev pub collected : Told E P
  collected st m n w = (k : ℕ) → st.word ≡ suc k → (n ≡ 0 → w ≡ (more m.0 (Miss k), m.1)) × (n ≢ 0 → (p : P) × (w ≡ (more m.0 (Collect k p), (k, Offered p) ∷ m.1)))
