-- When nothing more comes out of a node that offers nothing though more is asked of it: nothing more comes in.
use Rattle.std.specs.Prelude.{◌≡◌, ℕ, ◌<◌, ◌^◌, zero, suc, Bool, true, false, List, [], ◌∷◌, drop, Option, Some, None, slice_get}
use Rattle.rsx_sources.specs.Prelude.{Open, Meaning, unchosen, Stream, ended_by, AreWithin, Incoming, Reading, published_at}
use Rattle.rsx_sources.specs.declared.machine.Front.{Front}
use Rattle.rsx_sources.specs.declared.machine.Machine.{Ghosts as Machine}
use Rattle.rsx_tree.specs.declared.inputs.Inputs.{Inputs, End, More'}
use Rattle.rsx_tree.specs.declared.node.Node.{Node}
use Rattle.rsx_tree.specs.Edges.{is_live}

-- what still comes in at the input with this number; nothing where there is none
abbrev pub coming : {T : Type 0} → List (Stream T) → ℕ → Stream T
coming [] i = ended_by Open
coming (v ∷ vs) zero = v
coming (v ∷ vs) (suc i) = coming vs i

-- of a node that took in `taken` items at its inputs: nothing comes in any more at an input that is open, where it takes
-- whatever comes, and of which it wants more than it took
abbrev pub NothingComes : {S T : Type 0} → (S → ℕ → Front → Bool) → (S → ℕ → Bool) → (S → ℕ → ℕ → ℕ → ℕ) → S → List ℕ → ℕ → ℕ → List (Stream T) → Type 0
NothingComes takes done wanted n taken asked sent vs =
    (i c : ℕ) → slice_get taken i ≡ Some c → done n i ≡ false → ((f : Front) → takes n i f ≡ true) → c < wanted n i asked sent → coming vs i ≡ ended_by Open

-- nothing stands behind what a node took in of the hub that it reads, where these are the values of the hubs
abbrev pub NothingBehind : {T : Type 0} → Option Reading → List (Stream T) → Type 0
NothingBehind {T} o hubs = (r : Reading) → o ≡ Some r → record { items = drop r.reached (published_at hubs r.hub).items; ending = (published_at hubs r.hub).ending } ≡ ended_by Open

-- no input can be picked, and no row can be made
abbrev pub IsStuck : {S : Type 0} → (S → ℕ → ℕ → ℕ → Bool) → (S → ℕ → ℕ → Bool) → S → ℕ → ℕ → Type 0
IsStuck picks rows n asked sent = ((i : ℕ) → i < 2 ^ 64 → picks n i asked sent ≡ false) × (rows n asked sent ≡ false)

-- the law of a node: where it goes on, offers nothing though more is asked of it, can make no step, and nothing comes in where it
-- waits for more, nothing comes out of it
abbrev pub Rests : {M T : Type 0} → Machine M T → Meaning T → Type 0
Rests {M} {T} b m =
    (n : M) (taken : List ℕ) (asked sent : ℕ) (inc : Incoming T) → b.ended n ≡ false → b.counted n taken sent → b.waiting m n ≡ None → sent < asked → AreWithin taken →
    IsStuck b.picks b.rows n asked sent → NothingComes b.takes b.done b.wanted n taken asked sent (inc.first ∷ inc.others) → NothingBehind (b.reads n) inc.hubs →
    b.comes_out m n inc (unchosen (b.recorded n)) ≡ Some (ended_by Open)

-- ---- a tree of nodes

-- where a node offers nothing, though more is asked over its edge than it sent, and can make no step, nothing stands behind what it
-- took in of the hub that it reads
abbrev pub HasReadAll : {M T : Type 0} → Machine M T → Meaning T → List (Stream T) → M → ℕ → ℕ → Type 0
HasReadAll b m hubs n asked sent = b.waiting m n ≡ None → sent < asked → IsStuck b.picks b.rows n asked sent → NothingBehind (b.reads n) hubs

-- so of each node of a row, and below it, whose edge is live
abbrev pub HaveReadAll : {M T : Type 0} → Machine M T → Meaning T → List (Stream T) → Inputs M → Type 0
HaveReadAll b m hubs End = Unit {0}
HaveReadAll b m hubs (More' e n p below q beside) = (is_live e.state ≡ true → HasReadAll b m hubs n e.demand.asked e.demand.sent × HaveReadAll b m hubs below) × HaveReadAll b m hubs beside

-- and of a whole tree over whose root's own edge, which is live, so many items were asked for and so many sent
abbrev pub TreeHasReadAll : {M T : Type 0} → Machine M T → Meaning T → List (Stream T) → Node M → ℕ → ℕ → Type 0
TreeHasReadAll b m hubs t asked sent = HasReadAll b m hubs t.machine asked sent × HaveReadAll b m hubs t.inputs
