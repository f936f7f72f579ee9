-- Elements that were put into rows.
use Rattle.std.specs.Prelude.{◌≡◌, ℕ, List, [], ◌∷◌, ◌++◌, Some, length, map, slice_get, slice_set}
use Rattle.rsx_sources.specs.Prelude.{Meaning, Stream}
use Rattle.rsx_sources.specs.declared.machine.Machine.{Ghosts as Machine}
use Rattle.rsx_region.specs.Regions.{RegionStands}
use Rattle.rsx_region.specs.declared.piece.Piece.{Piece}
use Rattle.rsx_region.specs.declared.region.Region.{Region}

module _ {A : Type 0} where
  -- the element stands behind the row at this place
  pub record IsPut (base : List (List A)) (place : ℕ) (x : A) (rows : List (List A)) : Type 0 where
    pub row : List A
    pub there : slice_get base place ≡ Some row
    pub put : rows ≡ slice_set base place (row ++ x ∷ [])

  -- each element was put behind the row at its place, the last one first
  abbrev pub AreIn : List (List A) → List ℕ → List A → List (List A) → Type 0
  AreIn base [] xs rows = (xs ≡ []) × (rows ≡ base)
  AreIn base (p ∷ ps) xs rows = (x : A) × (others : List A) × (rest : List (List A)) × (xs ≡ x ∷ others) × AreIn base ps others rest × IsPut rest p x rows

module _ {M T : Type 0} where
  -- the pieces of each region
  abbrev pub rows_of : List (Region M T) → List (List (Piece M T))
  rows_of rs = map (λ (r : Region M T). r.pieces.items) rs

  abbrev pub numbers_in : List (Region M T) → List ℕ
  numbers_in rs = map (λ (r : Region M T). r.number) rs

  -- the pieces of each row stand for what those of the other row at its place stood for
  pub record RowsStand (b : Machine M T) (m : Meaning T) (hubs : List (Stream T)) (opening now : List (List (Piece M T))) : Type 0 where
    pub count : length now ≡ length opening
    pub each : (k : ℕ) (was is : List (Piece M T)) → slice_get opening k ≡ Some was → slice_get now k ≡ Some is → RegionStands b m hubs was is
