-- A part: a tree with the edge from its root. What it stands for, which of its moves are enabled, and what they change.
use Rattle.std.specs.Prelude.{◌≡◌, ⊤, ℕ, ◌+◌, ◌-◌, ◌<◌, ◌≤◌, ◌^◌, Bool, true, false, ◌&&◌, nat_eq, if◌then◌else◌, List, [], ◌∷◌, ◌++◌, length, map, Option, Some, option_map, Result, Ok, Err}
use Rattle.rsx_model.specs.Eval.{environment_until_stop, eval}
use Rattle.rsx_model.specs.declared.expr.Expr.{Expr}
use Rattle.rsx_sources.specs.Prelude.{Meaning, Allocates, notes_then, unchosen, Stream, signals_then, Note, Signal, front_of}
use Rattle.rsx_sources.specs.declared.machine.Front.{Front}
use Rattle.rsx_tree.specs.declared.look.NodeMove.{NodeMove}
use Rattle.rsx_tree.specs.declared.look.NodeMove.TheVariants.{Ask, Send, Pick, Row}
use Rattle.rsx_tree.specs.Prelude.{edge_view, EdgeView, passed, changed_at, asked_up_to, IsTreeBehind, IsTreeReadAt}
use Rattle.rsx_sources.specs.declared.machine.Machine.{Ghosts as Machine}
use Rattle.rsx_tree.specs.Runs.{Gives}
use Rattle.rsx_rooted.specs.Output.{counts_in, has_room, items_in, IsUnended, IsOrderly, values_then}
use Rattle.rsx_rooted.specs.Tree.{comes_out, notes, offers, can_ask, can_send, can_go, IsAllClosed, IsLetGo, edges, edges_after, want_at, front_at, ended_at, with_edge, pop_allocates, send_allocates, step_allocates, tree_allocates, IsAlike, IsBalanced, IsChosen, can_pick, can_row, IsAfterPickAt, IsPickedAt, IsReceivedAt, IsRowAt, IsSentAt}
use Rattle.rsx_tree.specs.declared.edge.Edge.{Edge}
use Rattle.rsx_tree.specs.declared.edge.EdgeState.TheVariants.{Live, Closed, Ended}
use Rattle.rsx_rooted.specs.declared.rooted.Rooted.{Rooted}
use Rattle.rsx_rooted.specs.declared.sink.Sink.{Ghosts as Sink}
use Rattle.rsx_rooted.specs.declared.rooted.Pumped.{Pumped}
use Rattle.rsx_rooted.specs.declared.rooted.Pumped.TheVariants.{Idle, Budget}

-- ---- what a part stands for

-- the value of an expression over these hubs' values, with nothing chosen behind the point where the rows of a combineLatest stop, as
-- nodes choose; where there is one, it is the value from scratch (`value_until_stop` of `rsx_model`)
abbrev pub evaluated : {T : Type 0} → Meaning T → List (Stream T) → List ℕ → Expr T → List Note → Option (Stream T)
evaluated m hubs joins e chosen = eval (environment_until_stop m hubs joins chosen) e

-- a part stands for an expression, where `published` is what the hubs took in and handed to their readers, and the signals
-- `output` went over the part's root edge
pub record Stands {M T : Type 0} (b : Machine M T) (m : Meaning T) (published : List (Stream T)) (part : Rooted M) (e : Expr T) (joins : List ℕ) (output : List (Signal T)) : Type 0 where
  -- what went out, followed by what still comes out, is the expression evaluated from scratch, whatever is still published
  -- and whatever is still chosen
  pub value : (more : List (Stream T)) (further : List Note) → length further ≡ length (notes b part.tree) →
      option_map (signals_then output) (comes_out b m (values_then published more) further part.tree 0) ≡ evaluated m (values_then published more) joins e (notes_then (notes b part.tree) further)
  -- nothing followed an ending, and the root edge is live until an ending went over it
  pub orderly : IsOrderly output
  pub unended : part.root.state ≡ Live → IsUnended output
  pub ended : part.root.state ≡ Ended → IsUnended output → ⊥
  -- the items are as many as the root edge has sent
  pub counted : length (items_in output) ≡ part.root.demand.sent
  -- while the root edge is live, the counts along all edges belong together
  pub balance : part.root.state ≡ Live → IsBalanced b part.tree part.root.demand.sent
  -- and each node that reads a hub got all that was published there, where that has not ended; with no join, no node reads one
  pub reads : part.root.state ≡ Live → IsTreeReadAt b (counts_in published) part.tree
  pub alone : part.root.state ≡ Live → joins ≡ [] → IsTreeReadAt b [] part.tree
  -- all below a closed root edge is closed
  pub closed : part.root.state ≡ Closed → IsAllClosed part.tree

-- ---- what takes the signals that go over the root edge

-- a queue, and what never has room
abbrev pub queue_sink : {T : Type 0} → Sink (List (Signal T)) T
queue_sink = record { room = has_room; signals = λ q. q }

abbrev pub no_room : {T : Type 0} → Sink (Unit {0}) T
no_room = record { room = λ s. false; signals = λ s. [] }

-- ---- edges and enabled moves

-- all edges, the root edge first, and then in pre-order
abbrev pub all_edges : {M : Type 0} → Rooted M → List EdgeView
all_edges part = edge_view part.root ∷ edges part.tree

-- Ask: the root edge rises by requests alone
abbrev pub ask_enabled : {M T : Type 0} → Machine M T → Rooted M → ℕ → Bool
ask_enabled b part at = if nat_eq at 0 then false else can_ask b part.tree (at - 1) part.root.demand.asked part.root.demand.sent

-- Send: over the root edge, where there is room behind it, or over an edge of the tree
abbrev pub send_enabled : {M T : Type 0} → Machine M T → Meaning T → Rooted M → Bool → ℕ → Bool
send_enabled b m part room at =
    if nat_eq at 0 then room && can_go (edge_view part.root) (option_map front_of (offers b m part.tree))
    else can_send b m part.tree (at - 1)

-- Pick and Row: of the root, whose edge is the root edge, or of a node below it
abbrev pub pick_enabled : {M T : Type 0} → Machine M T → Rooted M → ℕ → ℕ → Bool
pick_enabled b part at input = can_pick b part.tree (edge_view part.root) at input

abbrev pub row_enabled : {M T : Type 0} → Machine M T → Rooted M → ℕ → Bool
row_enabled b part at = can_row b part.tree (edge_view part.root) at

abbrev pub move_enabled : {M T : Type 0} → Machine M T → Meaning T → Rooted M → Bool → NodeMove → Bool
move_enabled b m part room (Ask n) = ask_enabled b part n
move_enabled b m part room (Send n) = send_enabled b m part room n
move_enabled b m part room (Pick n input) = pick_enabled b part n input
move_enabled b m part room (Row n) = row_enabled b part n

-- whether a move may allocate, where these of the caller's functions may
abbrev pub make_allocates : {M T : Type 0} → Machine M T → Allocates → Rooted M → NodeMove → Bool
make_allocates b a part (Ask n) = false
make_allocates b a part (Send n) = if nat_eq n 0 then pop_allocates b a part.tree else send_allocates b a part.tree (n - 1)
make_allocates b a part (Pick n input) = step_allocates b a part.tree (edge_view part.root) n
make_allocates b a part (Row n) = step_allocates b a part.tree (edge_view part.root) n

-- whether some move of the part may: what a node does for it may allocate. Of the caller's functions, `Allocates` says which
-- may.
abbrev pub pump_allocates : {M T : Type 0} → Machine M T → Allocates → Rooted M → Bool
pump_allocates b a part = tree_allocates b a part.tree

-- the numbers that a move names are numbers of a node, and of an input
abbrev pub IsNumbered : NodeMove → Type 0
IsNumbered (Ask n) = n < 2 ^ 32
IsNumbered (Send n) = n < 2 ^ 32
IsNumbered (Pick n input) = (n < 2 ^ 32) × (input < 2 ^ 64)
IsNumbered (Row n) = n < 2 ^ 32

-- ---- what a move changes

-- what the receiver of an edge wants of it in all; the root's receiver asks by requests
abbrev pub wanted : {M T : Type 0} → Machine M T → Rooted M → ℕ → ℕ
wanted b part at = if nat_eq at 0 then part.root.demand.asked else want_at b part.tree (at - 1) part.root.demand.asked part.root.demand.sent

-- which signal is offered over an edge
abbrev pub offered : {M T : Type 0} → Machine M T → Meaning T → Rooted M → ℕ → Option Front
offered b m part at = if nat_eq at 0 then option_map front_of (offers b m part.tree) else front_at b m part.tree (at - 1)

-- whether the receiver of an edge has put out an ending; the root's receiver puts out nothing
abbrev pub receiver_ended : {M T : Type 0} → Machine M T → Rooted M → ℕ → Bool
receiver_ended b part at = if nat_eq at 0 then false else ended_at b part.tree (at - 1)

-- an Ask: what was asked of this edge is what its receiver wants; no other edge, and no node, changed
pub record IsAsk {M T : Type 0} (b : Machine M T) (old : Rooted M) (at : ℕ) (new : Rooted M) : Type 0 where
  pub edges : all_edges new ≡ changed_at (asked_up_to (wanted b old at)) at (all_edges old)
  -- the tree is what it was, but for this one edge
  pub edge : Edge
  pub tree : new.tree ≡ with_edge (at - 1) edge old.tree
  pub root : new.root ≡ old.root

-- what went over the root edge: the offered signal, where the Send went over it, and else nothing
abbrev pub GoesOut : {M T : Type 0} → Machine M T → Meaning T → Rooted M → Bool → List (Signal T) → Type 0
GoesOut {T = T} b m old true out = (s : Signal T) × (offers b m old.tree ≡ Some s) × (out ≡ s ∷ [])
GoesOut b m old false out = out ≡ []

-- what the Send did to the tree: over the root edge the root let the signal go; over another one it went from one node to another.
-- Nothing else in the tree changed.
abbrev pub IsTreeSent : {M T : Type 0} → Machine M T → Meaning T → Rooted M → ℕ → Bool → List (Signal T) → Rooted M → Type 0
IsTreeSent {T = T} b m old at true out new = (s : Signal T) × (out ≡ s ∷ []) × IsLetGo b m old.tree s new.tree
IsTreeSent b m old at false out new = IsSentAt b m old.tree (at - 1) new.tree × (new.root ≡ old.root)

-- all edges after a signal went over this edge; where the receiver ended by it, all its inputs and all below them are closed
abbrev pub sent_at : {M : Type 0} → Bool → Front → Rooted M → ℕ → List EdgeView
sent_at ended front part at =
    if nat_eq at 0 then passed (edge_view part.root) front ∷ edges part.tree
    else edge_view part.root ∷ edges_after ended front part.tree (at - 1)

-- a Send: the offered signal went over this edge; where the receiver ended by it, all its inputs and all below them are closed
pub record IsSend {M T : Type 0} (b : Machine M T) (m : Meaning T) (old : Rooted M) (at : ℕ) (out : List (Signal T)) (new : Rooted M) : Type 0 where
  pub front : Front
  pub carries : offered b m old at ≡ Some front
  pub edges : all_edges new ≡ sent_at (receiver_ended b new at) front old at
  pub goes : GoesOut b m old (nat_eq at 0) out
  pub tree : IsTreeSent b m old at (nat_eq at 0) out new

-- a Pick: the choice stands behind what the node recorded, and where the node ended by it, all below it is closed
pub record IsPick {M T : Type 0} (b : Machine M T) (old : Rooted M) (at input : ℕ) (new : Rooted M) : Type 0 where
  pub tree : IsPickedAt b old.tree (edge_view old.root) at input new.tree
  pub root : new.root ≡ old.root

-- a Row: where the node ended by it, all below it is closed
pub record IsRow {M T : Type 0} (b : Machine M T) (old : Rooted M) (at : ℕ) (new : Rooted M) : Type 0 where
  pub tree : IsRowAt b old.tree (edge_view old.root) at new.tree
  pub root : new.root ≡ old.root

-- a move's effect, where these signals went over the root edge
abbrev pub IsEffect : {M T : Type 0} → Machine M T → Meaning T → NodeMove → Rooted M → List (Signal T) → Rooted M → Type 0
IsEffect b m (Ask n) old out new = (out ≡ []) × IsAsk b old n new
IsEffect b m (Send n) old out new = IsSend b m old n out new
IsEffect b m (Pick n input) old out new = (out ≡ []) × IsPick b old n input new
IsEffect b m (Row n) old out new = (out ≡ []) × IsRow b old n new

-- What a call that makes just this move says besides of the node that the move is about: no step of it was made besides, not even one that
-- leaves no trace in what comes out. Of the other moves their effect says so: an Ask changes no node, over the root edge a signal is only
-- taken out, and a row says what it makes of its node. In a run of moves an item may go through a node in one go, so of each move there
-- only the effect is told.
abbrev pub IsAlone : {M T : Type 0} → Machine M T → Meaning T → NodeMove → Rooted M → Rooted M → Type 0
IsAlone b m (Ask n) old new = ⊤
IsAlone b m (Send n) old new = 0 < n → IsReceivedAt b m old.tree (n - 1) new.tree
IsAlone b m (Pick n input) old new = IsAfterPickAt b input old.tree (edge_view old.root) n new.tree
IsAlone b m (Row n) old new = ⊤

-- ---- one move, and many

-- the part stands for what it stood for, where these signals went over the root edge besides
abbrev pub IsPutOut : {M T : Type 0} → Machine M T → Meaning T → Rooted M → List (Signal T) → Rooted M → Type 0
IsPutOut {T = T} b m old out new =
    (published : List (Stream T)) (e : Expr T) (joins : List ℕ) (output : List (Signal T)) → Stands b m published old e joins output → Stands b m published new e joins (output ++ out)

-- a move was made: these signals went over the root edge by it
pub record IsMade {M T : Type 0} (b : Machine M T) (m : Meaning T) (move : NodeMove) (old : Rooted M) (out : List (Signal T)) (new : Rooted M) : Type 0 where
  pub effect : IsEffect b m move old out new
  pub stands : IsPutOut b m old out new
  -- where nothing went over the root edge, that edge stays, what still comes out stays, under what was chosen, and so do the
  -- counts along the edges
  pub inside : out ≡ [] → new.root ≡ old.root
  pub chosen : out ≡ [] → IsChosen b m old.tree new.tree
  pub balance : out ≡ [] → (sent : ℕ) → IsBalanced b old.tree sent → IsBalanced b new.tree sent
  -- what was asked over the root edge stays, and it isn't closed by a move
  pub asked : new.root.demand.asked ≡ old.root.demand.asked
  pub unclosed : (old.root.state ≡ Closed → ⊥) → new.root.state ≡ Closed → ⊥
  -- and so does whether a move may allocate
  pub alike : IsAlike b old.tree new.tree

-- what went by it over the root edge is behind what the sink held
abbrev pub IsMadeInto : {M S T : Type 0} → Machine M T → Sink S T → Meaning T → NodeMove → Rooted M → S → Rooted M → S → Type 0
IsMadeInto {T = T} b k m move old sink new sink' = (out : List (Signal T)) × IsMade b m move old out new × (k.signals sink' ≡ k.signals sink ++ out)

-- an enabled move was made, and had its effect
pub record IsMoved {M S T : Type 0} (b : Machine M T) (k : Sink S T) (m : Meaning T) (old : Rooted M) (sink : S) (out : List (Signal T)) (new : Rooted M) (sink' : S) : Type 0 where
  pub move : NodeMove
  pub enabled : move_enabled b m old (k.room sink) move ≡ true
  pub effect : IsEffect b m move old out new
  pub queued : k.signals sink' ≡ k.signals sink ++ out

-- the same, where a state is the part and the sink
abbrev pub IsMovedOver : {M S T : Type 0} → Machine M T → Sink S T → Meaning T → Rooted M × S → List (Signal T) → Rooted M × S → Type 0
IsMovedOver b k m x out y = IsMoved b k m x.0 x.1 out y.0 y.1

-- so many enabled moves were made one after the other, and all that went over the root edge is `out`
abbrev pub IsMovedBy : {M S T : Type 0} → Machine M T → Sink S T → Meaning T → ℕ → Rooted M → S → List (Signal T) → Rooted M → S → Type 0
IsMovedBy {T = T} b k m n old sink out new sink' = Gives (IsMovedOver b k m) (λ (o : List (Signal T)). o) n (old, sink) out (new, sink')

-- so many moves were made, these signals went over the root edge, and the part stands for what it stood for
pub record IsPumped {M S T : Type 0} (b : Machine M T) (k : Sink S T) (m : Meaning T) (count : ℕ) (old : Rooted M) (sink : S) (new : Rooted M) (sink' : S) : Type 0 where
  pub out : List (Signal T)
  pub queued : k.signals sink' ≡ k.signals sink ++ out
  pub moves : IsMovedBy b k m count old sink out new sink'
  pub stands : IsPutOut b m old out new
  -- where nothing went over the root edge, that edge stays, what still comes out stays, under what was chosen, and so do the
  -- counts along the edges
  pub inside : out ≡ [] → new.root ≡ old.root
  pub chosen : out ≡ [] → IsChosen b m old.tree new.tree
  pub balance : out ≡ [] → (sent : ℕ) → IsBalanced b old.tree sent → IsBalanced b new.tree sent
  -- what was asked, and that its root edge is open, stays
  pub asked : new.root.demand.asked ≡ old.root.demand.asked
  pub unclosed : (old.root.state ≡ Closed → ⊥) → new.root.state ≡ Closed → ⊥
  -- and so does whether a move may allocate
  pub alike : IsAlike b old.tree new.tree

-- no move of a part that has its numbers is enabled, where there is room behind its root edge or not
abbrev pub IsQuiet : {M T : Type 0} → Machine M T → Meaning T → Rooted M → Bool → Type 0
IsQuiet b m part room = (move : NodeMove) → IsNumbered move → move_enabled b m part room move ≡ false

-- some move of a part that has its numbers is enabled
abbrev pub IsAwake : {M T : Type 0} → Machine M T → Meaning T → Rooted M → Bool → Type 0
IsAwake b m part room = (move : NodeMove) × IsNumbered move × (move_enabled b m part room move ≡ true)

-- how driving a part ends after so many moves: Idle, with what is left of the budget, where no move is enabled; Budget where
-- one is and the whole budget was spent
abbrev pub HasEnded : {M T E : Type 0} → Machine M T → Meaning T → ℕ → ℕ → Rooted M → Bool → Result Pumped E → Type 0
HasEnded b m budget n part room (Ok (Idle left)) = (n + left ≡ budget) × IsQuiet b m part room
HasEnded b m budget n part room (Ok Budget) = (n ≡ budget) × IsAwake b m part room
HasEnded b m budget n part room (Err e) = n ≤ budget

-- how it ends where the whole budget was spent
abbrev pub IsSpent : {M T : Type 0} → Machine M T → Meaning T → Rooted M → Bool → Pumped → Type 0
IsSpent b m part room (Idle left) = (left ≡ 0) × IsQuiet b m part room
IsSpent b m part room Budget = IsAwake b m part room

-- ---- what is still owed

-- this still comes out of a part, where just these inboxes stand behind what its nodes took in of the hubs, and nothing more is
-- chosen
abbrev pub IsResidualOf : {M T : Type 0} → Machine M T → Meaning T → List (Stream T) → Rooted M → Stream T → Type 0
IsResidualOf {T = T} b m inboxes part v =
    (hubs : List (Stream T)) → IsBalanced b part.tree part.root.demand.sent → IsTreeBehind b inboxes hubs part.tree →
    comes_out b m hubs (map unchosen (notes b part.tree)) part.tree 0 ≡ Some v
