-- The regions of a live graph whose gates have ended.
use Rattle.std.specs.Prelude.{List}
use Rattle.std.specs.List.{AllZip}
use Rattle.rsx_types.specs.Meaning.{Meaning}
use Rattle.rsx_sources.specs.declared.machine.Machine.{Ghosts as Machine}
use Rattle.rsx_gate.specs.declared.gate.Gate.{Gate}
use Rattle.rsx_gate.specs.Seats.{key_of}
use Rattle.rsx_region.specs.declared.opening.Opening.{Opening}
use Rattle.rsx_region.specs.declared.region.Region.{Region}
use Rattle.rsx_runtime.specs.Poking.{Fits}

-- each region fits the key of its gate
abbrev pub HaveFitting : {M T O : Type 0} → Machine M T → (O → Meaning T) → List (Gate (Region M T) (Opening M T O)) → List (Region M T) → Type 0
HaveFitting b meaning gates regions = AllZip (λ g r. Fits b meaning (key_of g) r) gates regions
