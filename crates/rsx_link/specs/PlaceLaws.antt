-- What the rule of the places says of each state that keeps it.
use Rattle.std.specs.Prelude.{◌≡◌, ℕ, suc, ◌+◌, ◌<◌, ◌≤◌, List, length, Some}
use mathlib.Core.Option.{some}
use lib.ListN.{get_elem?}
use Rattle.atomic_table.specs.Table.{State}
use Rattle.rsx_link.specs.declared.place.Place.{Place}
use Rattle.rsx_link.specs.declared.place.Place.TheVariants.{Offered}
use Rattle.rsx_link.specs.declared.place.PlaceView.{PlaceView}
use Rattle.rsx_link.specs.PlaceSteps.{ticket_of, offer_of, collect_of, offers_at, collects_at, found_in}
use Rattle.rsx_link.specs.Places.{steps_of, tally, Kept}

module _ (E P : Type 0) where
  abbrev pub EachTicketOnce : Type 0
  EachTicketOnce = (ends : List E) (s : State (Place E P) (PlaceView E P)) → Kept ends s → (counter k : ℕ) → get_elem? s.words 0 ≡ some counter → k < length ends
      → (k < counter → tally (ticket_of k) s.views ≡ 1) × (counter ≤ k → tally (ticket_of k) s.views ≡ 0)

  abbrev pub NoMoreRefusalsThanSeats : Type 0
  NoMoreRefusalsThanSeats = (ends : List E) (s : State (Place E P) (PlaceView E P)) → Kept ends s → (counter : ℕ) → get_elem? s.words 0 ≡ some counter → counter ≤ length ends + length s.views

  -- the seat o has the view v, by which this part was offered at the place k
  abbrev pub OfferedIsAtHome : Type 0
  OfferedIsAtHome = (ends : List E) (s : State (Place E P) (PlaceView E P)) → Kept ends s → (word k : ℕ) → get_elem? s.words (suc k) ≡ some word → k < length ends
      → (word ≡ tally (offers_at k) s.views) × (word ≤ 1)
      × ((o : ℕ) (v : PlaceView E P) (part : P) → get_elem? s.views o ≡ some v → found_in (offer_of k) (steps_of v) ≡ Some part
      → tally (collects_at k) s.views ≡ 0 → get_elem? s.homes k ≡ some (some (Offered part)))

  -- the seat o has the view v, by which this part was collected at the place k, and the seat o' has w, by which one was offered there
  abbrev pub CollectedIsOffered : Type 0
  CollectedIsOffered = (ends : List E) (s : State (Place E P) (PlaceView E P)) → Kept ends s → (k : ℕ) → k < length ends
      → (o : ℕ) (v : PlaceView E P) (part : P) → get_elem? s.views o ≡ some v → found_in (collect_of k) (steps_of v) ≡ Some part
      → (o ≡ 0) × (tally (collects_at k) s.views ≡ 1) × (tally (offers_at k) s.views ≡ 1)
      × ((o' : ℕ) (w : PlaceView E P) (other : P) → get_elem? s.views o' ≡ some w → found_in (offer_of k) (steps_of w) ≡ Some other → other ≡ part)
