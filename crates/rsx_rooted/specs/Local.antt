-- What comes out of a node depends on no hub but the one that it reads.
use Rattle.std.specs.Prelude.{◌≡◌, ⊤, ℕ, zero, suc, List, [], ◌∷◌, Option, Some, None, slice_get}
use Rattle.std.specs.List.{AllByRecursion}
use Rattle.rsx_sources.specs.Prelude.{Meaning, Stream, Note, Signal, Open, Reading, ended_by, incoming_of, published_at, signals, signals_then}
use Rattle.rsx_sources.specs.declared.machine.Machine.{Ghosts as Machine}
use Rattle.rsx_tree.specs.declared.node.Node.{Node}
use Rattle.rsx_tree.specs.Reads.{readings}

-- both have the same value of the hub that a node reads
abbrev pub AgreeAt : {T : Type 0} → List (Stream T) → List (Stream T) → Option Reading → Type 0
AgreeAt hubs others None = ⊤
AgreeAt hubs others (Some r) = published_at hubs r.hub ≡ published_at others r.hub

abbrev pub IsLocal : {M T : Type 0} → Machine M T → Meaning T → Type 0
IsLocal {M} {T} b m = (n : M) (hubs others vs : List (Stream T)) (k : Note) → AgreeAt hubs others (b.reads n) → b.comes_out m n (incoming_of hubs vs) k ≡ b.comes_out m n (incoming_of others vs) k

-- a node reads a hub whose number is such, or none
abbrev pub IsOf : (ℕ → Type 0) → Option Reading → Type 0
IsOf P None = ⊤
IsOf P (Some r) = P r.hub

-- so does each of some nodes
abbrev pub AllOf : (ℕ → Type 0) → List (Option Reading) → Type 0
AllOf P rs = AllByRecursion (IsOf P) rs

-- no node of the tree reads the hub k, whether its edge is live or not
abbrev pub ReadsNot : {M T : Type 0} → Machine M T → ℕ → Node M → Type 0
ReadsNot b k t = AllOf (λ i. i ≡ k → ⊥) (readings b t)

-- both have the same values of such hubs
abbrev pub AgreeOn : {T : Type 0} → (ℕ → Type 0) → List (Stream T) → List (Stream T) → Type 0
AgreeOn P hubs others = (i : ℕ) → P i → published_at hubs i ≡ published_at others i

-- the values of the hubs, where that of the hub k is this one
abbrev pub filled : {T : Type 0} → ℕ → Stream T → List (Stream T) → List (Stream T)
filled zero v [] = v ∷ []
filled zero v (w ∷ ws) = v ∷ ws
filled (suc k) v [] = ended_by Open ∷ filled k v []
filled (suc k) v (w ∷ ws) = w ∷ filled k v ws

-- each hub's value begins with what was taken in of it, or came over the link
abbrev pub Begins : {T : Type 0} → List (Stream T) → List (Stream T) → Type 0
Begins {T} taken hubs = (i : ℕ) (s : Stream T) → slice_get taken i ≡ Some s → (more : Stream T) × (published_at hubs i ≡ signals_then (signals s) more)

-- what came over a link, as the beginning of its value
abbrev pub stream_of : {T : Type 0} → List (Signal T) → Stream T
stream_of ss = signals_then ss (ended_by Open)
