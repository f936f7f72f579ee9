-- What the collector's steps say.
use Rattle.std.specs.Prelude.{ℕ, zero, suc, Bool, cond, is_some, List, ◌∷◌}
use Rattle.rsx_link.specs.declared.place.PlaceStep.{PlaceStep}
use Rattle.rsx_link.specs.declared.place.PlaceStep.TheVariants.{Miss}
use Rattle.rsx_link.specs.PlaceSteps.{collect_of, found_in}

module _ {P : Type 0} where
  -- a part was collected from the place k
  abbrev pub is_collected : ℕ → List (PlaceStep P) → Bool
  is_collected k steps = is_some (found_in (collect_of k) steps)

  -- the steps after a look at the place k, by which no part was found; a place that was collected from is not looked at
  abbrev pub missed_at : ℕ → List (PlaceStep P) → List (PlaceStep P)
  missed_at k steps = cond (is_collected k steps) steps (Miss k ∷ steps)

  -- the same at each place below k, in their order
  abbrev pub missed_below : ℕ → List (PlaceStep P) → List (PlaceStep P)
  missed_below zero steps = steps
  missed_below (suc k) steps = missed_at k (missed_below k steps)
