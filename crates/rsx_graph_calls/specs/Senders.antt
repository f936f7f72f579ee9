-- The regions of the senders of an expression's edges that cross, each of which joins two regions.
use Rattle.std.specs.Prelude.{◌≡◌, ℕ, ◌+◌, Bool, if◌then◌else◌, List, [], ◌∷◌, ◌++◌, length, map}
use Rattle.rsx_model.specs.Region.{region_from, region_of, worker_here}
use Rattle.rsx_model.specs.Shape.{children}
use Rattle.rsx_model.specs.declared.expr.Expr.{Expr}
use Rattle.rsx_model.specs.declared.expr.Expr.TheFolds.{fold-Expr}
use Rattle.rsx_model.specs.declared.expr.Expr.TheOpen.{Expr-F}
use Rattle.rsx_rooted.specs.Crossings.{IsPlaced, crossings, differ}
use Rattle.rsx_tree.specs.declared.node.Node.{Node}

-- the region of an expression's root, and those of the senders of the edges below it that cross, in pre-order
pub record Sending : Type 0 where
  pub region : ℕ
  pub senders : List ℕ

-- an edge from region q into region r crosses where they differ, and then its sender is in q
abbrev pub sender_over : ℕ → ℕ → List ℕ
sender_over r q = if differ r q then q ∷ [] else []

-- those of the edges into region r from the roots of these expressions, each with those below it
abbrev pub senders_beside : ℕ → List Sending → List ℕ
senders_beside r [] = []
senders_beside r (s ∷ ss) = sender_over r s.region ++ (s.senders ++ senders_beside r ss)

abbrev pub sending_in : ℕ → List Sending → Sending
sending_in r ss = record { region = r; senders = senders_beside r ss }

-- of a node, from what is known of its children
abbrev pub sending_here : {T : Type 0} → Expr-F T Sending → Sending
sending_here e = sending_in (region_from (worker_here e) (map (λ s. s.region) (children e))) (children e)

abbrev pub sending : {T : Type 0} → Expr T → Sending
sending {T} = fold-Expr T Sending sending_here

-- the regions of the senders of the edges that cross, in pre-order: of the edge from an expression's root into region r, and of those
-- below the root
abbrev pub senders_into : {T : Type 0} → ℕ → Expr T → List ℕ
senders_into r e = sender_over r (region_of e) ++ (sending e).senders

-- the same of several expressions, one behind the other
abbrev pub all_senders : {T : Type 0} → ℕ → List (Expr T) → List ℕ
all_senders r [] = []
all_senders r (e ∷ es) = senders_into r e ++ all_senders r es

-- the same of the edges below an expression's root alone
abbrev pub senders_below : {T : Type 0} → Expr T → List ℕ
senders_below e = (sending e).senders

-- ---- how many they are

-- how many of these hold
abbrev pub how_many : List Bool → ℕ
how_many [] = 0
how_many (b ∷ bs) = (if b then 1 else 0) + how_many bs

-- how many edges of a tree have a queue, the root's own among them
abbrev pub crossing_edges : {M : Type 0} → (M → Bool) → Node M → ℕ
crossing_edges crosses t = how_many (crosses t.machine ∷ crossings crosses t.inputs)

-- a tree whose edges have a queue just where they join two regions, its root's own into region r among them, has one edge with a queue
-- for each sender
abbrev pub HaveOneEach : {M T : Type 0} → (M → Bool) → ℕ → Expr T → Node M → Type 0
HaveOneEach crosses r e t = IsPlaced crosses e (differ r (region_of e)) t → crossing_edges crosses t ≡ length (senders_into r e)
