-- Regions go behind gates, and come back where a growth was refused.
use Rattle.std.specs.Prelude.{◌≡◌, ◌≤◌, ℕ, List, []}
use Rattle.std.specs.List.{AllZip}
use Rattle.std.specs.Vec.{vec_capacity}
use Rattle.rsx_types.specs.Meaning.{Meaning}
use Rattle.rsx_sources.specs.declared.machine.Machine.{Ghosts as Machine}
use Rattle.rsx_gate.specs.Machine.{all_parts}
use Rattle.rsx_gate.specs.declared.gate.Gate.{Gate}
use Rattle.rsx_gate.specs.Seats.{IsSeatOf, key_of}
use Rattle.rsx_link.specs.declared.link.Link.{Link}
use Rattle.rsx_region.specs.Pieces.{none_taken}
use Rattle.rsx_region.specs.Regions.{ArePiecesOf, RegionStands}
use Rattle.rsx_region.specs.declared.opening.Opening.{Opening}
use Rattle.rsx_region.specs.declared.region.Region.{Region}
use Rattle.rsx_runtime.specs.declared.beginning.Gated.{Gated}

module _ {M T O : Type 0} where
  -- the gate was opened with this region, over these links, with these functions, where there are so many hubs and links
  pub record IsGateFor (links : List (Link T)) (ops : O) (values : ℕ) (r : Region M T) (g : Gate (Region M T) (Opening M T O)) : Type 0 where
    pub number : (key_of g).number ≡ r.number
    pub count : (key_of g).values ≡ values
    pub functions : (key_of g).ops.value ≡ ops
    pub pieces : (key_of g).pieces.value.items ≡ r.pieces.items
    pub ends : (key_of g).links.value.items ≡ links

  -- each region has such a gate, with its first seat
  pub record AreGatesFor (links : List (Link T)) (ops : O) (values : ℕ) (regions : List (Region M T)) (made : Gated M T O) : Type 0 where
    pub gates : AllZip (IsGateFor links ops values) regions made.gates.items
    pub seats : AllZip (λ g s. IsSeatOf g s × (all_parts ≤ s.me.0.parts)) made.gates.items made.seats.items
    pub none : made.regions.items ≡ []

  -- there is room for so many gates, and for so many regions that come back
  pub record HasRoomFor (count : ℕ) (made : Gated M T O) : Type 0 where
    pub gates : count ≤ vec_capacity made.gates
    pub seats : count ≤ vec_capacity made.seats
    pub regions : count ≤ vec_capacity made.regions

module _ {M T : Type 0} where
  -- the region stands for what it begins with
  pub record IsReady (b : Machine M T) (m : Meaning T) (n : ℕ) (links : List (Link T)) (r : Region M T) : Type 0 where
    pub ends : ArePiecesOf links r.pieces.items
    pub stands : RegionStands b m (none_taken n) r.pieces.items r.pieces.items

  -- it came back, and stands for what it stood for
  pub record IsBackOf (b : Machine M T) (m : Meaning T) (n : ℕ) (links : List (Link T)) (was is : Region M T) : Type 0 where
    pub number : is.number ≡ was.number
    pub ends : ArePiecesOf links is.pieces.items
    pub stands : RegionStands b m (none_taken n) was.pieces.items is.pieces.items

  abbrev pub AreBackOf : Machine M T → Meaning T → ℕ → List (Link T) → List (Region M T) → List (Region M T) → Type 0
  AreBackOf b m n links was is = AllZip (IsBackOf b m n links) was is
