-- Parkers on which workers rest, and which workers are roused.
use Rattle.std.specs.Prelude.{◌≡◌, ℕ, ◌+◌, ◌/◌, ◌%◌, ◌^◌, List, Some, length, slice_get}
use Rattle.std.specs.Arc.{arc_value}
use Rattle.atomic_table.specs.Seated.{TableId}
use Rattle.crossbeam_utils.specs.Token.{parker_view}
use Rattle.rsx_runtime.specs.Tokens.{tokens}
use Rattle.rsx_runtime.specs.declared.park.WorkerUnparker.{WorkerUnparker}
use Rattle.rsx_runtime.specs.declared.park.OwnParker.{OwnParker}
use Rattle.rsx_runtime.specs.declared.park.ParkRest.{ParkRest}
use Rattle.rsx_runtime.specs.declared.tokens.Tokens.{Tokens}

-- 1 where the bit of a worker is set, and else 0
abbrev pub bit_of : ℕ → ℕ → ℕ
bit_of mask k = mask / 2 ^ k % 2

-- how often an unparker was used
abbrev pub unparked : WorkerUnparker → ℕ
unparked b = (parker_view b.pass).unparks

-- the parker that an unparker is for, and a worker's own
abbrev pub parker_of : WorkerUnparker → TableId
parker_of b = (arc_value b.unparker.state).shared.table_id

abbrev pub parker_in : OwnParker → TableId
parker_in o = (arc_value o.parker.unparker.state).shared.table_id

-- what a worker's own pass knows of its parker's token
abbrev pub tokens_of : ParkRest → Tokens
tokens_of r = parker_view r.own.pass

-- the unparker of each worker was used once where the worker's bit is set, and else not; each is for the parker that it was for
pub record AreUnparked (mask : ℕ) (old new : List WorkerUnparker) : Type 0 where
  pub count : length new ≡ length old
  pub each : (k : ℕ) (was is : WorkerUnparker) → slice_get old k ≡ Some was → slice_get new k ≡ Some is → (unparked is ≡ unparked was + bit_of mask k) × (parker_of is ≡ parker_of was)

-- unparkers for the same parkers
pub record AreAlike (unparkers others : List WorkerUnparker) : Type 0 where
  pub count : length others ≡ length unparkers
  pub each : (k : ℕ) (a b : WorkerUnparker) → slice_get unparkers k ≡ Some a → slice_get others k ≡ Some b → parker_of b ≡ parker_of a

-- so many rests, none of which was used yet; each is on the parker for which the unparker in its place is, and has unparkers for the same parkers
pub record AreRests (count : ℕ) (unparkers : List WorkerUnparker) (rests : List ParkRest) : Type 0 where
  pub workers : length rests ≡ count
  pub unparkers_too : length unparkers ≡ count
  pub each : (k : ℕ) (b : WorkerUnparker) (r : ParkRest) → slice_get unparkers k ≡ Some b → slice_get rests k ≡ Some r → (parker_in r.own ≡ parker_of b) × (tokens_of r ≡ tokens 0 0 0) × AreAlike unparkers r.rouser.unparkers.items

-- the rest of each worker is on its own parker, and has unparkers for the same parkers as these
pub record AreRestsOn (unparkers : List WorkerUnparker) (own : List OwnParker) (rests : List ParkRest) : Type 0 where
  pub count : length rests ≡ length own
  pub each : (k : ℕ) (o : OwnParker) (r : ParkRest) → slice_get own k ≡ Some o → slice_get rests k ≡ Some r → (r.own ≡ o) × AreAlike unparkers r.rouser.unparkers.items
