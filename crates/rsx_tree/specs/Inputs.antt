-- The inputs of a node, with all below them: what still comes in, what was recorded, and which moves are enabled. Each
-- definition takes the machines' meaning, `Machine M T`, as an argument; a clause names it `M.Machine`.
use Rattle.std.specs.Prelude.{◌≡◌, ℕ, ◌+◌, ◌-◌, Bool, true, false, ◌&&◌, ◌||◌, nat_eq, nat_le, if◌then◌else◌, List, [], ◌∷◌, ◌++◌, Option, Some, None, option_map, option_and_then, slice_get}
use Rattle.rsx_sources.specs.Prelude.{Meaning, Allocates, unchosen, Stream, Note, incoming_of, front_of}
use Rattle.rsx_sources.specs.declared.machine.Front.{Front}
use Rattle.rsx_sources.specs.declared.machine.Machine.{Ghosts as Machine}
use Rattle.rsx_tree.specs.declared.edge.Edge.{Edge}
use Rattle.rsx_tree.specs.declared.inputs.Inputs.{Inputs, End, More'}
use Rattle.rsx_tree.specs.Edges.{edge_view, EdgeView, can_ask_for, can_pass, closed_edge, closed_if, passed}

-- ---- what a row of inputs is, with all below it

-- how many nodes there are
abbrev pub size : {M : Type 0} → Inputs M → ℕ
size End = 0
size (More' e n p below q beside) = size below + size beside + 1

-- the edges, in pre-order
abbrev pub edges : {M : Type 0} → Inputs M → List EdgeView
edges End = []
edges (More' e n p below q beside) = edge_view e ∷ (edges below ++ edges beside)

-- what the nodes recorded, in pre-order
abbrev pub notes_of : {M T : Type 0} → Machine M T → Inputs M → List Note
notes_of b End = []
notes_of b (More' e n p below q beside) = b.recorded n ∷ (notes_of b below ++ notes_of b beside)

-- every edge closed
abbrev pub closed_row : {M : Type 0} → Inputs M → Inputs M
closed_row End = End
closed_row (More' e n p below q beside) = More' (closed_edge e) n p (closed_row below) q (closed_row beside)

abbrev pub closed_row_if : {M : Type 0} → Bool → Inputs M → Inputs M
closed_row_if false r = r
closed_row_if true r = closed_row r

-- ---- what still comes in

-- what comes out of a node that still chooses `k`, where these values come in
abbrev pub through : {M T : Type 0} → Machine M T → Meaning T → List (Stream T) → M → Option (List (Stream T)) → Note → Option (Stream T)
through b m hubs n o k = option_and_then (λ vs. b.comes_out m n (incoming_of hubs vs) k) o

-- the same, where the choice is looked up
abbrev pub out_of : {M T : Type 0} → Machine M T → Meaning T → List (Stream T) → M → Option (List (Stream T)) → Option Note → Option (Stream T)
out_of b m hubs n o k = option_and_then (through b m hubs n o) k

-- a value in front of the values beside it, where there are both
abbrev pub beside_of : {A : Type 0} → Option A → Option (List A) → Option (List A)
beside_of None o = None
beside_of (Some a) o = option_map (λ vs. a ∷ vs) o

-- what still comes in at each input of a row whose first node has the number `at`, where `further` is what each node of the
-- whole tree still chooses and `hubs` what is still published; nothing where those choices don't fit
abbrev pub comes_in : {M T : Type 0} → Machine M T → Meaning T → List (Stream T) → List Note → Inputs M → ℕ → Option (List (Stream T))
comes_in b m hubs further End at = Some []
comes_in b m hubs further (More' e n p below q beside) at =
    beside_of (out_of b m hubs n (comes_in b m hubs further below (at + 1)) (slice_get further at)) (comes_in b m hubs further beside (at + 1 + size below))

-- nothing more is chosen at any node
abbrev pub IsUnchosen : {M T : Type 0} → Machine M T → List Note → Inputs M → ℕ → Type 0
IsUnchosen b further End at = Unit {0}
IsUnchosen b further (More' e n p below q beside) at =
    (slice_get further at ≡ Some (unchosen (b.recorded n))) × IsUnchosen b further below (at + 1) × IsUnchosen b further beside (at + 1 + size below)

-- ---- the edge with a number

-- an edge with the nodes at its ends: the receiver, at which of its inputs it is, and what is asked of the receiver and
-- was sent by it; and the sender
pub record Place (M : Type 0) : Type 0 where
  pub receiver : M
  pub input : ℕ
  pub asked : ℕ
  pub sent : ℕ
  pub edge : EdgeView
  pub sender : M

-- the edge `at` of a row, whose first edge is input `i` of the receiver `r`
abbrev pub place : {M : Type 0} → M → ℕ → ℕ → ℕ → Inputs M → ℕ → Option (Place M)
place r i asked sent End at = None
place r i asked sent (More' e n p below q beside) at =
    if nat_eq at 0 then Some (record { receiver = r; input = i; asked = asked; sent = sent; edge = edge_view e; sender = n })
    else (if nat_le at (size below) then place n 0 e.demand.asked e.demand.sent below (at - 1)
    else place r (i + 1) asked sent beside (at - 1 - size below))

-- whether the edge `at` is one of the row's own
abbrev pub is_own : {M : Type 0} → Inputs M → ℕ → Bool
is_own End at = false
is_own (More' e n p below q beside) at =
    if nat_eq at 0 then true else (if nat_le at (size below) then false else is_own beside (at - 1 - size below))

-- a test of a place that may not be there
abbrev pub tests : {A : Type 0} → (A → Bool) → Option A → Bool
tests f None = false
tests f (Some a) = f a

-- a node offers a signal that its receiver can take and that can go over its edge
abbrev pub can_go : (Front → Bool) → EdgeView → Option Front → Bool
can_go takes e None = false
can_go takes e (Some f) = takes f && can_pass e f

-- ---- an Ask

-- the row, where the edge `at` is this one; each node, and each other edge, is as it was
abbrev pub with_edge_at : {M : Type 0} → ℕ → Edge → Inputs M → Inputs M
with_edge_at at edge End = End
with_edge_at at edge (More' e n p below q beside) =
    if nat_eq at 0 then More' edge n p below q beside
    else (if nat_le at (size below) then More' e n p (with_edge_at (at - 1) edge below) q beside
    else More' e n p below q (with_edge_at (at - 1 - size below) edge beside))

abbrev pub wanted_at : {M T : Type 0} → Machine M T → Place M → ℕ
wanted_at b p = b.wanted p.receiver p.input p.asked p.sent

-- the receiver wants more than it asked for, and the sender accepts more demand
abbrev pub can_ask_over : {M T : Type 0} → Machine M T → M → ℕ → ℕ → ℕ → EdgeView → M → Bool
can_ask_over b r i asked sent e n = can_ask_for e (b.wanted r i asked sent) && b.accepts n e.asked e.sent

abbrev pub can_ask_at : {M T : Type 0} → Machine M T → Place M → Bool
can_ask_at b p = can_ask_over b p.receiver p.input p.asked p.sent p.edge p.sender

abbrev pub can_ask_in : {M T : Type 0} → Machine M T → Option (Place M) → Bool
can_ask_in b o = tests (can_ask_at b) o

-- ---- a Send

-- the sender offers a signal that can go over the edge, and the receiver can take it
abbrev pub can_send_over : {M T : Type 0} → Machine M T → Meaning T → M → ℕ → EdgeView → M → Bool
can_send_over b m r i e n = can_go (b.takes r i) e (option_map front_of (b.waiting m n))

abbrev pub can_send_at : {M T : Type 0} → Machine M T → Meaning T → Place M → Bool
can_send_at b m p = can_send_over b m p.receiver p.input p.edge p.sender

abbrev pub can_send_in : {M T : Type 0} → Machine M T → Meaning T → Option (Place M) → Bool
can_send_in b m o = tests (can_send_at b m) o

-- whether a Send from this node to this receiver may allocate
abbrev pub send_over_allocates : {M T : Type 0} → Machine M T → Allocates → M → M → Bool
send_over_allocates b a r n = b.pop_allocates a n || b.signal_allocates a r

abbrev pub send_allocates_in : {M T : Type 0} → Machine M T → Allocates → Option (Place M) → Bool
send_allocates_in b a o = tests (λ p. send_over_allocates b a p.receiver p.sender) o

-- the edges after a signal went over the edge `at`; where a receiver below ended by it, all its inputs are closed
abbrev pub sent_edges : {M : Type 0} → Bool → Front → Inputs M → ℕ → List EdgeView
sent_edges ended f End at = []
sent_edges ended f (More' e n p below q beside) at =
    if nat_eq at 0 then passed (edge_view e) f ∷ (edges below ++ edges beside)
    else (if nat_le at (size below) then edge_view e ∷ (closed_if (ended && is_own below (at - 1)) (sent_edges ended f below (at - 1)) ++ edges beside)
    else edge_view e ∷ (edges below ++ sent_edges ended f beside (at - 1 - size below)))
