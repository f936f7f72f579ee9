-- Handing a signal of a hub to the nodes of a tree that read it.
use Rattle.std.specs.Prelude.{◌≡◌, ℕ, zero, suc, ◌+◌, Bool, true, false, ◌&&◌, if◌then◌else◌, List, [], ◌∷◌, Option, Some, None, option_map, slice_get}
use Rattle.std.specs.Option.{option_or}
use Rattle.rsx_sources.specs.Prelude.{Meaning, Allocates, Stream, Note, Signal, Next, Complete, Error, CountsStep, ends_input, IsNextAt, IsReadOn, published_at, reads_hub, IsSameKind}
use Rattle.rsx_sources.specs.declared.machine.Machine.{Ghosts as Machine}
use Rattle.rsx_tree.specs.declared.edge.Edge.{Edge}
use Rattle.rsx_tree.specs.declared.inputs.Inputs.{Inputs, End, More'}
use Rattle.rsx_tree.specs.declared.node.Node.{Node}
use Rattle.rsx_tree.specs.Allocates.{tree_allocates}
use Rattle.rsx_tree.specs.Balance.{IsBalanced}
use Rattle.rsx_tree.specs.Edges.{is_live}
use Rattle.rsx_tree.specs.Reads.{AllGoOn, IsTreeReadAt, readings}
use Rattle.rsx_tree.specs.Tree.{comes_out, edges, notes}

-- ---- who reads a hub

-- how many of one node read the hub
abbrev pub reader_at : {M T : Type 0} → Machine M T → ℕ → M → ℕ
reader_at b h n = if reads_hub h (b.reads n) then 1 else 0

-- how many nodes of a row, and below it, read the hub; what is behind an edge that isn't live reads none
abbrev pub readers_in : {M T : Type 0} → Machine M T → ℕ → Inputs M → ℕ
readers_in b h End = 0
readers_in b h (More' e n p below q beside) = (if is_live e.state then reader_at b h n + readers_in b h below else 0) + readers_in b h beside

-- how many nodes of a tree do whose root's own edge is live
abbrev pub readers : {M T : Type 0} → Machine M T → ℕ → Node M → ℕ
readers b h t = reader_at b h t.machine + readers_in b h t.inputs

-- the edge of the first node of a row, in pre-order, that reads the hub, whether it is live or not
abbrev pub reader_edge_in : {M T : Type 0} → Machine M T → ℕ → Inputs M → Option Edge
reader_edge_in b h End = None
reader_edge_in b h (More' e n p below q beside) = if reads_hub h (b.reads n) then Some e else option_or (reader_edge_in b h below) (reader_edge_in b h beside)

-- ---- room

-- whether a node has room for an item of the hub, or doesn't read it
abbrev pub room_at : {M T : Type 0} → Machine M T → ℕ → M → Bool
room_at b h n = if reads_hub h (b.reads n) then b.rooms n else true

abbrev pub has_room_in : {M T : Type 0} → Machine M T → ℕ → Inputs M → Bool
has_room_in b h End = true
has_room_in b h (More' e n p below q beside) = (if is_live e.state then room_at b h n && has_room_in b h below else true) && has_room_in b h beside

-- whether all nodes of a tree have that read the hub
abbrev pub has_room : {M T : Type 0} → Machine M T → ℕ → Node M → Bool
has_room b h t = room_at b h t.machine && has_room_in b h t.inputs

-- there is room for this signal; an ending needs none
abbrev pub is_room_for : {T : Type 0} → Signal T → Bool → Bool
is_room_for (Next x) room = room
is_room_for Complete room = true
is_room_for (Error c) room = true

-- ---- a signal is handed on

-- the same signal so many times
abbrev pub times : {A : Type 0} → ℕ → A → List A
times zero a = []
times (suc n) a = a ∷ times n a

-- where a list had a signal once for each of so many readers, and there was room for it, each got it; the rest of the list stays
abbrev pub IsHandedOut : {T : Type 0} → ℕ → Bool → List (Signal T) → List (Signal T) → (Signal T → Type 0) → Type 0
IsHandedOut {T} count room old new done =
    (s : Signal T) (k : ℕ) → old ≡ times (k + count) s → is_room_for s room ≡ true → done s × (new ≡ times k s)

-- a node took in the signal
pub record IsTakenBy {M T : Type 0} (b : Machine M T) (s : Signal T) (n n' : M) : Type 0 where
  pub on : IsReadOn b.comes_out b.reads n s n'
  pub recorded : b.recorded n' ≡ b.recorded n
  pub counts : CountsStep b.counted b.ended b.done n n'
  pub calls : IsSameKind b.crosses b.pop_allocates b.signal_allocates b.step_allocates n n'
  -- and it did no more than it says of that
  pub heard : b.heard n s n'

abbrev pub IsTakenWhere : {M T : Type 0} → Machine M T → Signal T → Bool → M → M → Type 0
IsTakenWhere b s true n n' = IsTakenBy b s n n'
IsTakenWhere b s false n n' = n' ≡ n

-- a node that reads the hub took it in, and another is as it was
abbrev pub IsNodeHanded : {M T : Type 0} → Machine M T → ℕ → Signal T → M → M → Type 0
IsNodeHanded b h s n n' = IsTakenWhere b s (reads_hub h (b.reads n)) n n'

-- one or the other
abbrev pub OneOf : Bool → Type 0 → Type 0 → Type 0
OneOf true a c = a
OneOf false a c = c

-- so did each node of a row, and below it, behind live edges; all else is as it was
abbrev pub IsRowHanded : {M T : Type 0} → Machine M T → ℕ → Signal T → Inputs M → Inputs M → Type 0
IsRowHanded b h s End new = new ≡ End
IsRowHanded {M} b h s (More' e n p below q beside) new =
    (n' : M) × (below' : Inputs M) × (beside' : Inputs M) × (new ≡ More' e n' p below' q beside')
    × OneOf (is_live e.state) (IsNodeHanded b h s n n' × IsRowHanded b h s below below') ((n' ≡ n) × (below' ≡ below)) × IsRowHanded b h s beside beside'

-- ---- what that means for a tree

-- where these many items of each hub were taken in, this signal of the hub comes next in its value
abbrev pub IsNextOf : {T : Type 0} → List (Option ℕ) → List (Stream T) → ℕ → Signal T → Type 0
IsNextOf counts hubs h s = (c : ℕ) → slice_get counts h ≡ Some (Some c) → IsNextAt c (published_at hubs h) s

-- one item more of the hub
abbrev pub item_counted : ℕ → List (Option ℕ) → List (Option ℕ)
item_counted h [] = []
item_counted zero (c ∷ cs) = option_map suc c ∷ cs
item_counted (suc h) (c ∷ cs) = c ∷ item_counted h cs

-- the hub has ended
abbrev pub ended_counted : ℕ → List (Option ℕ) → List (Option ℕ)
ended_counted h [] = []
ended_counted zero (c ∷ cs) = None ∷ cs
ended_counted (suc h) (c ∷ cs) = c ∷ ended_counted h cs

-- how many items of each hub were taken in after that
abbrev pub counts_after : {T : Type 0} → ℕ → Signal T → List (Option ℕ) → List (Option ℕ)
counts_after h (Next x) counts = item_counted h counts
counts_after h Complete counts = ended_counted h counts
counts_after h (Error c) counts = ended_counted h counts

-- each node that reads the hub took the signal in, and nothing else changed
pub record IsHanded {M T : Type 0} (b : Machine M T) (h : ℕ) (s : Signal T) (old new : Node M) : Type 0 where
  -- the same comes out, over all values in which that signal comes next
  pub value : (m : Meaning T) (counts : List (Option ℕ)) (hubs : List (Stream T)) (further : List Note) (at : ℕ) → IsTreeReadAt b counts old → IsNextOf counts hubs h s →
      comes_out b m hubs further new at ≡ comes_out b m hubs further old at
  -- the nodes that read the hub got one item further; after an ending none reads it
  pub reads : (counts : List (Option ℕ)) → IsTreeReadAt b counts old → IsTreeReadAt b (counts_after h s counts) new
  pub ended : ends_input s ≡ true → readers b h new ≡ 0
  pub notes : notes b new ≡ notes b old
  pub edges : edges new ≡ edges old
  pub balance : (sent : ℕ) → IsBalanced b old sent → IsBalanced b new sent
  pub calls : (a : Allocates) → tree_allocates b a new ≡ tree_allocates b a old
  -- each node, behind an edge that isn't live, too, reads the hub that it read, or none any more
  pub reading : AllGoOn (readings b old) (readings b new)
  -- each node that reads the hub behind live edges took the signal in, and each other node, and each edge, is as it was
  pub root : IsNodeHanded b h s old.machine new.machine
  pub below : IsRowHanded b h s old.inputs new.inputs
