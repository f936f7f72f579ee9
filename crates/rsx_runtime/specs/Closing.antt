-- A live graph whose pieces are those of trees that were cut.
use Rattle.std.specs.Prelude.{◌≡◌, ℕ, List, map}
use Rattle.rsx_types.specs.Meaning.{Meaning}
use Rattle.rsx_sources.specs.declared.machine.Machine.{Ghosts as Machine}
use Rattle.rsx_rooted.specs.declared.nodes.CrossingNodes.{Ghosts as CrossingNodes}
use Rattle.rsx_tree.specs.Runs.{Leads}
use Rattle.rsx_gate.specs.declared.gate.Gate.{Gate}
use Rattle.rsx_gate.specs.Seats.{key_of}
use Rattle.rsx_region.specs.Pieces.{Each, none_taken}
use Rattle.rsx_region.specs.Spread.{AreIn}
use Rattle.rsx_region.specs.Trees.{IsCutThere, SameStage, Stage, names_of}
use Rattle.rsx_region.specs.declared.opening.Opening.{Opening}
use Rattle.rsx_region.specs.declared.piece.Piece.{Piece}
use Rattle.rsx_region.specs.declared.region.Region.{Region}
use Rattle.rsx_runtime.specs.declared.closing.Plan.{Plan}
use Rattle.rsx_runtime.specs.declared.live.Live.{Live}

module _ {M T O : Type 0} where
  -- what the region of a gate began with
  abbrev pub opened_with : Gate (Region M T) (Opening M T O) → List (Piece M T)
  opened_with g = (key_of g).pieces.value.items

  -- Trees were cut at the edges of the plan, one after the other, and `opening` is what they were after that. Each of the same pieces was
  -- put into the region at its place, whose gate was opened with those pieces, where there are so many hubs and links.
  pub record IsLiveOf (b : Machine M T) (crossing : CrossingNodes M T) (meaning : O → Meaning T) (n : ℕ) (whole : Stage M T) (live : Live M T O) (plan : Plan M T) : Type 0 where
    pub opening : Stage M T
    pub run : Leads (IsCutThere b crossing (meaning live.ops) (none_taken n)) whole (names_of plan.edges.items) opening
    pub begun : Stage M T
    pub same : SameStage opening begun
    pub links : live.links.items ≡ begun.links
    pub base : List (List (Piece M T))
    pub spread : AreIn base plan.places.items begun.pieces (map opened_with live.gates.items)
    pub values : Each (λ (g : Gate (Region M T) (Opening M T O)). (key_of g).values ≡ n) live.gates.items

  -- so it is of some trees
  pub record IsLive (b : Machine M T) (crossing : CrossingNodes M T) (meaning : O → Meaning T) (live : Live M T O) (plan : Plan M T) : Type 0 where
    pub count : ℕ
    pub whole : Stage M T
    pub is : IsLiveOf b crossing meaning count whole live plan
