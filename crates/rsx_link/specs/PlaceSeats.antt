-- What contracts see of the places and of their seats.
use Rattle.std.specs.Prelude.{◌≡◌, ℕ, ◌<◌, ◌≤◌, true, false, List, [], ◌∷◌, length, Option, Some, IfSome, IfNone, MatchBool, slice_get}
use mathlib.Core.Option.{none}
use Rattle.atomic_table.specs.Table.{Me, step}
use Rattle.atomic_table.specs.declared.shared.Seat.{Seat}
use Rattle.rsx_link.specs.declared.place.Ends.{Ends}
use Rattle.rsx_link.specs.declared.place.Place.{Place}
use Rattle.rsx_link.specs.declared.place.Place.TheVariants.{Free, Offered, Taken}
use Rattle.rsx_link.specs.declared.place.PlaceStep.{PlaceStep}
use Rattle.rsx_link.specs.declared.place.PlaceStep.TheVariants.{Ticket, Offer, Collect}
use Rattle.rsx_link.specs.declared.place.PlaceView.{PlaceView}
use Rattle.rsx_link.specs.declared.places.Collector.{Collector}
use Rattle.rsx_link.specs.declared.places.NoPlace.{NoPlace}
use Rattle.rsx_link.specs.declared.places.PlaceSeat.{PlaceSeat}
use Rattle.rsx_link.specs.declared.places.Places.{Places}
use Rattle.rsx_link.specs.PlaceSteps.{collect_of, collects_at, offer_of, offers_at, refusal_of, ticket_of, found_in, is_refused}
use Rattle.rsx_link.specs.Collected.{is_collected, missed_below}
use Rattle.rsx_link.specs.PlacePlays.{drew}
use Rattle.rsx_link.specs.Places.{all_parts, count_in, steps_of}

-- the part came back: the seat drew a ticket that names no place, now or before
pub record IsTurnedAway {P : Type 0} (places : ℕ) (part : P) (old : List (PlaceStep P)) (back : NoPlace P) (new : List (PlaceStep P)) : Type 0 where
  pub part_is : back.part ≡ part
  pub refused : is_refused places new ≡ true
  pub steps : MatchBool (is_refused places old) (new ≡ old) ((ticket : ℕ) × (places ≤ ticket) × (new ≡ Ticket ticket ∷ old))

-- the part of the place k, which was not collected from before, after looks at the places below it
pub record IsCollected {P : Type 0} (places k : ℕ) (part : P) (old new : List (PlaceStep P)) : Type 0 where
  pub within : k < places
  pub once : is_collected k old ≡ false
  pub steps : new ≡ Collect k part ∷ missed_below k old

module _ {T P : Type 0} where
  -- the ends that were made for the places, by their numbers
  abbrev pub ends_of : Places T P → List (Ends T)
  ends_of p = p.table.shared.key.value.items

  -- how many places there are
  abbrev pub places_in : Places T P → ℕ
  places_in p = p.table.shared.table_id.slots

  -- the same seat of the table
  abbrev pub IsSeat : Seat (Place (Ends T) P) (PlaceView (Ends T) P) → Seat (Place (Ends T) P) (PlaceView (Ends T) P) → Type 0
  IsSeat old new = (new.table_id ≡ old.table_id) × (new.id ≡ old.id)

  -- who was not refused, and has a part of the right, may draw a ticket
  abbrev pub MayDraw : Places T P → Seat (Place (Ends T) P) (PlaceView (Ends T) P) → Type 0
  MayDraw p s = (s.table_id ≡ p.table.shared.table_id) × (s.me.0.ends ≡ Some (ends_of p)) × (is_refused (places_in p) s.me.0.steps ≡ false)
      × (count_in (refusal_of (places_in p)) s.me.0 < s.me.0.parts)

  -- who drew the ticket, and has the ends, may put a part in their place
  abbrev pub MayPut : Places T P → Seat (Place (Ends T) P) (PlaceView (Ends T) P) → ℕ → Type 0
  MayPut p s k = (s.table_id ≡ p.table.shared.table_id) × (k < places_in p) × ((e : Ends T) × (s.me.1 ≡ (k, Free e) ∷ []))
      × (count_in (ticket_of k) s.me.0 ≡ 1) × (count_in (offers_at k) s.me.0 ≡ 0)

  -- the collector may look at a place that it has not collected from
  abbrev pub MayLook : Places T P → Seat (Place (Ends T) P) (PlaceView (Ends T) P) → ℕ → Type 0
  MayLook p s k = (s.table_id ≡ p.table.shared.table_id) × (s.id ≡ 0) × (k < places_in p) × (count_in (collects_at k) s.me.0 ≡ 0)

  -- what a ticket of so many places tells
  abbrev pub Draws : ℕ → Me (Place (Ends T) P) (PlaceView (Ends T) P) → ℕ → Me (Place (Ends T) P) (PlaceView (Ends T) P) → Type 0
  Draws places = drew (step places 0 1 0 none)

  -- ---- the offering seats

  abbrev pub place_steps : PlaceSeat T P → List (PlaceStep P)
  place_steps s = s.seat.me.0.steps

  -- the steps of the seats that were joined into this one
  abbrev pub place_beside : PlaceSeat T P → List (List (PlaceStep P))
  place_beside s = s.seat.me.0.beside

  -- its parts of the right to draw tickets
  abbrev pub place_parts : PlaceSeat T P → ℕ
  place_parts s = s.seat.me.0.parts

  -- how many of its tickets, and of those of the seats that were joined into it, name no place
  abbrev pub place_refusals : PlaceSeat T P → ℕ
  place_refusals s = count_in (refusal_of s.seat.table_id.slots) s.seat.me.0

  abbrev pub IsPlaceSeatOf : Places T P → PlaceSeat T P → Type 0
  IsPlaceSeatOf p s = (s.seat.table_id ≡ p.table.shared.table_id) × (s.seat.me.0.ends ≡ Some (ends_of p))

  -- the part was put at the place that the ticket names, and these ends were made for it
  pub record IsHandedOver (p : Places T P) (old : PlaceSeat T P) (part : P) (ticket : ℕ) (ends : Ends T) (new : List (PlaceStep P)) : Type 0 where
    pub steps : new ≡ Offer ticket part ∷ Ticket ticket ∷ place_steps old
    pub its : slice_get (ends_of p) ticket ≡ Some ends
    -- neither the seat nor one that was joined into it had drawn it
    pub first : count_in (ticket_of ticket) old.seat.me.0 ≡ 0
    pub not_before : is_refused (places_in p) (place_steps old) ≡ false

  -- ---- the collector

  abbrev pub collector_steps : Collector T P → List (PlaceStep P)
  collector_steps c = c.seat.me.0.steps

  abbrev pub IsCollectorOf : Places T P → Collector T P → Type 0
  IsCollectorOf p c = c.seat.table_id ≡ p.table.shared.table_id

  -- ---- all together

  -- nothing was drawn, offered or collected
  pub record AreBegun (ends : List (Ends T)) (p : Places T P) (c : Collector T P) (s : PlaceSeat T P) : Type 0 where
    pub its : (ends_of p ≡ ends) × (places_in p ≡ length ends)
    pub collector : IsCollectorOf p c × (collector_steps c ≡ [])
    pub seat : IsPlaceSeatOf p s × (place_steps s ≡ []) × (place_beside s ≡ []) × (place_parts s ≡ all_parts)

  -- the part that the seat offered at the place k, or one that was joined into it
  abbrev pub offered_at : ℕ → PlaceSeat T P → Option P
  offered_at k s = found_in (offer_of k) (steps_of s.seat.me.0)

  -- the part that was collected from there
  abbrev pub collected_at : ℕ → Collector T P → Option P
  collected_at k c = found_in (collect_of k) (collector_steps c)

  -- all seats are in this one
  abbrev pub HasAllParts : PlaceSeat T P → Type 0
  HasAllParts s = all_parts ≤ place_parts s

  -- what is left at the place k
  pub record IsLeft (p : Places T P) (c : Collector T P) (s : PlaceSeat T P) (k : ℕ) (left : List (Place (Ends T) P)) : Type 0 where
    pub taken : IfSome (collected_at k c) (λ part. slice_get left k ≡ Some Taken)
    pub offered : IfNone (collected_at k c) (IfSome (offered_at k s) (λ part. slice_get left k ≡ Some (Offered part)))
    pub free : HasAllParts s → IfNone (offered_at k s) ((e : Ends T) × (slice_get (ends_of p) k ≡ Some e) × (slice_get left k ≡ Some (Free e)))
    -- what was collected is what was offered
    pub same : IfSome (collected_at k c) (λ part. IfSome (offered_at k s) (λ other. other ≡ part))
    pub earned : HasAllParts s → IfSome (collected_at k c) (λ part. offered_at k s ≡ Some part)
