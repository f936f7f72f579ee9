-- Seats at their places, and what serves them.
use Rattle.std.specs.Prelude.{◌≡◌, ℕ, List, Some, length, slice_get}
use Rattle.std.specs.Fn.{Shared}

module _ {F S W : Type 0} (g : Shared F (ℕ × (S × (W × Unit {0}))) S) (f : F) where
  -- each seat may be served at its place, with any rest
  abbrev pub MayServe : List S → Type 0
  MayServe seats = (k : ℕ) (s : S) (w : W) → slice_get seats k ≡ Some s → g.pre f (k, (s, (w, tt)))

  -- each of them is what came back where the seat of its place was served
  pub record HaveServed (old new : List S) : Type 0 where
    pub count : length new ≡ length old
    pub each : (k : ℕ) (s t : S) → slice_get old k ≡ Some s → slice_get new k ≡ Some t → (w : W) × g.post f (k, (s, (w, tt))) t
