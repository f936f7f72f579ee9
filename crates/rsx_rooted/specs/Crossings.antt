-- Which edges of a tree that was made have a queue: those that join two regions.
use Rattle.std.specs.Prelude.{◌≡◌, ℕ, Bool, true, false, nat_eq, List, [], ◌∷◌, ◌++◌, map}
use Rattle.rsx_model.specs.Shape.{children}
use Rattle.rsx_model.specs.declared.expr.Expr.{Expr}
use Rattle.rsx_model.specs.declared.expr.Expr.TheFolds.{fold-Expr}
use Rattle.rsx_model.specs.declared.expr.Expr.TheOpen.{Expr-F}
use Rattle.rsx_model.specs.Region.{region_from, worker_here}
use Rattle.rsx_tree.specs.declared.inputs.Inputs.{Inputs, End, More'}
use Rattle.rsx_tree.specs.declared.node.Node.{Node}

-- whether the edge of each node of a row crosses, in pre-order
abbrev pub crossings : {M : Type 0} → (M → Bool) → Inputs M → List Bool
crossings crosses End = []
crossings crosses (More' e n p below q beside) = crosses n ∷ (crossings crosses below ++ crossings crosses beside)

-- whether two regions differ
abbrev pub opposite : Bool → Bool
opposite true = false
opposite false = true

abbrev pub differ : ℕ → ℕ → Bool
differ r q = opposite (nat_eq r q)

-- the region of an expression's root, and whether each edge below it joins two regions, in pre-order
pub record Placed : Type 0 where
  pub region : ℕ
  pub crossings : List Bool

-- the edges of a node in this region, each with those below it
abbrev pub placed_beside : ℕ → List Placed → List Bool
placed_beside r [] = []
placed_beside r (p ∷ ps) = differ r p.region ∷ (p.crossings ++ placed_beside r ps)

abbrev pub placed_in : ℕ → List Placed → Placed
placed_in r ps = record { region = r; crossings = placed_beside r ps }

abbrev pub placed_here : {T : Type 0} → Expr-F T Placed → Placed
placed_here e = placed_in (region_from (worker_here e) (map (λ p. p.region) (children e))) (children e)

abbrev pub placed : {T : Type 0} → Expr T → Placed
placed {T} = fold-Expr T Placed placed_here

-- whether the edges below an expression's root join two regions
abbrev pub fresh_crossings : {T : Type 0} → Expr T → List Bool
fresh_crossings e = (placed e).crossings

-- the edges below the root of a tree have a queue just where they join two regions, and the root's own edge has one or not
pub record IsPlaced {M T : Type 0} (crosses : M → Bool) (e : Expr T) (root_crosses : Bool) (t : Node M) : Type 0 where
  pub root : crosses t.machine ≡ root_crosses
  pub below : crossings crosses t.inputs ≡ fresh_crossings e
