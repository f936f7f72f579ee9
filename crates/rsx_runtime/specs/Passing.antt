-- The pass of a region, and what its calls change.
use Rattle.std.specs.Prelude.{◌≡◌, ◌+◌, ◌≤◌, ℕ, Bool, true, List, Result}
use mathlib.Core.Option as maybe
use Rattle.std.specs.Borrow.{Fml, GName, RattleType, MutBor, RestsIfErr, follows_so}
use Rattle.atomic_table.specs.declared.shared.Seat.{Seat}
use Rattle.rsx_link.specs.declared.link.Link.{Link}
use Rattle.rsx_gate.specs.declared.gate.Gate.{Gate}
use Rattle.rsx_gate.specs.declared.gate.Noted.{Noted}
use Rattle.rsx_gate.specs.declared.view.View.{View}
use Rattle.rsx_gate.specs.Seats.{Holds, IsGone, IsNoted, key_of, seat_type}
use Rattle.rsx_sources.specs.Prelude.{Meaning}
use Rattle.rsx_sources.specs.declared.machine.Machine.{Ghosts as Machine}
use Rattle.rsx_region.specs.Regions.{AreAtRest, RegionGoes}
use Rattle.rsx_region.specs.declared.opening.Opening.{Opening}
use Rattle.rsx_region.specs.declared.region.Region.{Region}
use Rattle.rsx_region.specs.declared.serving.Answer.{Answer}
use Rattle.rsx_region.specs.declared.serving.Answer.TheVariants.{Idle, Budget, NoMemory}
use Rattle.rsx_region.specs.declared.region.Served.{Served}
use Rattle.rsx_region.specs.contracts.region.Region.{the_row as region_row}
use Rattle.rsx_region.specs.contracts.opening.Opening.{the_row as opening_row}
use Rattle.rsx_runtime.specs.Poking.{Fits, HasFitting, IsAmong}
use Rattle.rsx_runtime.specs.declared.pass.RegionPass.{RegionPass}
use Rattle.rsx_runtime.specs.declared.pass.RegionLeft.{RegionLeft}
use Rattle.rsx_runtime.specs.declared.pass.RegionLeft.TheVariants.{Gone, Missed}

-- an answer Idle is remembered
abbrev pub idle_after : Answer → Bool → Bool
idle_after Idle was = true
idle_after Budget was = was
idle_after NoMemory was = was

module _ {M T : Type 0} where
  -- what a serve did to a region between these links
  pub record IsServed (b : Machine M T) (m : Meaning T) (links : List (Link T)) (budget : ℕ) (answer : Served) (old new : Region M T) : Type 0 where
    pub number : new.number ≡ old.number
    pub run : RegionGoes b m links answer.moves answer.pops old.pieces.items new.pieces.items
    pub most : answer.moves + answer.pops ≤ budget
    pub spent : answer.answer ≡ Budget → answer.moves + answer.pops ≡ budget
    pub idle : answer.answer ≡ Idle → AreAtRest b m new.pieces.items

-- the gates of the regions, and the seats of such a gate
abbrev pub Gates : Type 0 → Type 0 → Type 0 → Type 0
Gates M T O = List (Gate (Region M T) (Opening M T O))

abbrev pub SeatOf : Type 0 → Type 0 → Type 0 → Type 0
SeatOf M T O = Seat (Region M T) (View (Opening M T O))

module _ {M T O : Type 0} where
  -- the seat that the pass borrows, and the name of that borrow
  abbrev pub seat_in : RegionPass M T O → SeatOf M T O
  seat_in p = p.seat.now

  abbrev pub lender_in : RegionPass M T O → GName
  lender_in p = p.seat.ghost_name

  -- the pass of a region at one of these gates: its seat has the region, which fits the gate's key
  abbrev pub IsPassOf : Machine M T → (O → Meaning T) → Gates M T O → RegionPass M T O → Type 0
  IsPassOf b meaning gates p = IsAmong gates p.region (λ g. HasFitting b meaning g (Holds g (seat_in p)))

  -- the same pass of the same region
  abbrev pub IsSamePass : RegionPass M T O → RegionPass M T O → Type 0
  IsSamePass p q = (lender_in q ≡ lender_in p) × (q.region ≡ p.region)

  -- the region that the seat has was served, and fits as before; the seat made no step
  pub record HasServed (b : Machine M T) (meaning : O → Meaning T) (ops : O) (links : List (Link T)) (budget : ℕ) (answer : Served) (g : Gate (Region M T) (Opening M T O)) (old new : SeatOf M T O) : Type 0 where
    pub was : Region M T
    pub is : Region M T
    pub held : Holds g old was
    pub holds : Holds g new is
    pub fits : Fits b meaning (key_of g) is
    pub steps : new.me.0 ≡ old.me.0
    pub served : IsServed b (meaning ops) links budget answer was is

  abbrev pub OnLeftMissed : RegionLeft M T O → (RegionPass M T O → Type 0) → Type 0
  OnLeftMissed (Missed p) P = P p
  OnLeftMissed Gone P = Unit {0}

  abbrev pub OnLeftGone : RegionLeft M T O → Type 0 → Type 0
  OnLeftGone (Missed p) P = Unit {0}
  OnLeftGone Gone P = P

  abbrev pub missed_lender_in : RegionLeft M T O → maybe.Option GName
  missed_lender_in (Missed p) = maybe.some (lender_in p)
  missed_lender_in Gone = maybe.none

abbrev pub region_seat_type : RattleType → RattleType → RattleType → RattleType
region_seat_type M T O = seat_type (region_row M T) (opening_row M T O)

-- a pass has the seat; where the region was held, the seat is free again at once
abbrev pub region_rests_if_noted : (M T O : RattleType) → Gates M.Denot T.Denot O.Denot → ℕ → MutBor (SeatOf M.Denot T.Denot O.Denot) → Result (RegionPass M.Denot T.Denot O.Denot) Noted → Fml
region_rests_if_noted M T O gates k s r = RestsIfErr (region_seat_type M T O) s lender_in r (λ n. IsAmong gates k (λ g. IsNoted g s.now n))

-- a pass that Missed has the seat still; after Gone the seat is free again
abbrev pub region_rests_if_gone : (M T O : RattleType) → Gates M.Denot T.Denot O.Denot → RegionPass M.Denot T.Denot O.Denot → RegionLeft M.Denot T.Denot O.Denot → Fml
region_rests_if_gone M T O gates p r = follows_so (region_seat_type M T O) (region_seat_type M T O) (lender_in p) (missed_lender_in r) (λ x n. OnLeftMissed r (λ _. n ≡ x)) (λ n. OnLeftGone r (IsAmong gates p.region (λ g. IsGone g (seat_in p) n)))
