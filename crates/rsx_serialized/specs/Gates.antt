-- A graph behind its gate.
use Rattle.rsx_types.specs.declared.ops.Ops.{Ghosts as Ops}
use Rattle.rsx_gate.specs.Seats.{key_of}
use Rattle.rsx_gate.specs.declared.gate.Gate.{Gate}
use Rattle.rsx_serialized.specs.Regions.{GoesOn}
use Rattle.rsx_serialized.specs.declared.opening.Opening.{Opening}
use Rattle.rsx_serialized.specs.declared.region.GraphRegion.{GraphRegion}

module _ {O T : Type 0} {b : Ops O T} where
  -- what the gate keeps of its graph: it fits the key
  abbrev pub Fits : Opening O T b → GraphRegion O T b → Type 0
  Fits key r = GoesOn key.links.value key.region.value r

  -- so much holds of some graph between its links, and that fits the gate's key
  abbrev pub HasFitting : Gate (GraphRegion O T b) (Opening O T b) → (GraphRegion O T b → Type 0) → Type 0
  HasFitting g P = (r : GraphRegion O T b) × P r × Fits (key_of g) r
