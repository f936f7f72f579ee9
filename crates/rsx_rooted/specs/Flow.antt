-- What went out of a tree between two points of a run.
use Rattle.std.specs.Prelude.{◌≡◌, ℕ, ◌+◌, ◌<◌, List, [], ◌++◌, length, map, Some, option_map}
use Rattle.rsx_sources.specs.Prelude.{Meaning, Stream, Note, Nothing, Signal, Next, Incoming, incoming_of, notes_then, published_at, signals_then}
use Rattle.rsx_sources.specs.declared.machine.Machine.{Ghosts as Machine}
use Rattle.rsx_tree.specs.declared.inputs.Inputs.{End}
use Rattle.rsx_tree.specs.declared.node.Node.{Node}
use Rattle.rsx_tree.specs.Inputs.{size}
use Rattle.rsx_tree.specs.Tree.{comes_out, notes}
use Rattle.rsx_tree.specs.Swapped.{with_sender}

-- a choice for each node of the tree
abbrev pub AreFor : {M T : Type 0} → Machine M T → Node M → List Note → Type 0
AreFor b t further = length further ≡ length (notes b t)

-- what came out of the first tree is these signals, and then what comes out of the second, over all values of the hubs that fit; what
-- its nodes chose meanwhile stands in front of what they still choose, and behind what they recorded
pub record Flows {M T : Type 0} (b : Machine M T) (m : Meaning T) (Fits : List (Stream T) → Type 0) (old new : Node M) (out : List (Signal T)) : Type 0 where
  pub choose : List Note → List Note
  pub count : (further : List Note) → AreFor b new further → length (choose further) ≡ length further
  pub nodes : length (notes b new) ≡ length (notes b old)
  pub notes : (further : List Note) → AreFor b new further → notes_then (notes b new) further ≡ notes_then (notes b old) (choose further)
  pub value : (hubs : List (Stream T)) (further : List Note) → Fits hubs → AreFor b new further → comes_out b m hubs (choose further) old 0 ≡ option_map (signals_then out) (comes_out b m hubs further new 0)

-- the node x is the node n with these signals in front
pub record Holds {M T : Type 0} (b : Machine M T) (m : Meaning T) (x : M) (q : List (Signal T)) (n : M) : Type 0 where
  pub out : (inc : Incoming T) (k : Note) → b.comes_out m x inc k ≡ option_map (signals_then q) (b.comes_out m n inc k)
  pub recorded : b.recorded x ≡ b.recorded n

-- the node y reads the hub k. Of the signals `sent` that the hub published, it still gives out the last ones, `held`, and then what the
-- hub publishes after them
pub record ReadsLink {M T : Type 0} (b : Machine M T) (m : Meaning T) (k : ℕ) (y : M) (sent held : List (Signal T)) : Type 0 where
  pub out : (hubs : List (Stream T)) (v : Stream T) → published_at hubs k ≡ signals_then sent v → b.comes_out m y (incoming_of hubs []) Nothing ≡ Some (signals_then held v)
  pub recorded : b.recorded y ≡ Nothing

-- the node x is the node n with a queue of these items at its edge. So they come out first, and count as sent by n; all else is as of n
pub record HoldsQueue {M T : Type 0} (b : Machine M T) (m : Meaning T) (x : M) (q : List T) (n : M) : Type 0 where
  pub holds : Holds b m x (map Next q) n
  pub reads : b.reads x ≡ b.reads n
  pub ended : b.ended x ≡ b.ended n
  pub done : (i : ℕ) → b.done x i ≡ b.done n i
  pub counted : (taken : List ℕ) (sent : ℕ) → b.counted x taken sent → b.counted n taken (sent + length q)
  pub counts : (taken : List ℕ) (sent : ℕ) → b.counted n taken (sent + length q) → b.counted x taken sent

-- the tree with another node at its root, and the tree of one node
abbrev pub as_root : {M : Type 0} → M → Node M → Node M
as_root x t = record t { machine = x }

-- the tree with the node x at its root gives these signals, and then what the tree gives; both roots recorded the same
pub record HoldsOver {M T : Type 0} (b : Machine M T) (m : Meaning T) (x : M) (q : List (Signal T)) (t : Node M) : Type 0 where
  pub out : (hubs : List (Stream T)) (further : List Note) → comes_out b m hubs further (as_root x t) 0 ≡ option_map (signals_then q) (comes_out b m hubs further t 0)
  pub recorded : b.recorded x ≡ b.recorded t.machine

abbrev pub alone : {M : Type 0} → M → Node M
alone y = record { machine = y; inputs = End }

-- the same comes out over these values of the hubs and over those
abbrev pub IsSameOver : {M T : Type 0} → Machine M T → Meaning T → List (Stream T) → List (Stream T) → Node M → Type 0
IsSameOver b m hubs others t = (further : List Note) → comes_out b m hubs further t 0 ≡ comes_out b m others further t 0

-- two trees in two regions with a link between them, at two points of a run. Of the first tree the edge `at` is the link's, and the node
-- there reads the hub k; the other tree sent `out` into the link, and `went` went out of the first.
pub record AreLinked {M T : Type 0} (b : Machine M T) (m : Meaning T) (FitsUpper FitsLower : List (Stream T) → Type 0) (k at : ℕ) (upper upper' lower lower' : Node M) (leaf leaf' : M) (queued held out went : List (Signal T)) : Type 0 where
  pub there : at < size upper.inputs
  pub there' : at < size upper'.inputs
  -- what the edge's queue held at the first point went into the link first, so its sender sent this
  pub leaf_is : ReadsLink b m k leaf queued queued
  -- of that so much was taken that the link and the reader hold this
  pub leaf_is' : ReadsLink b m k leaf' (queued ++ out) held
  pub above : Flows b m FitsUpper (with_sender at leaf End upper) (with_sender at leaf' End upper') went
  pub below : Flows b m FitsLower lower lower' out

-- there are values of the hubs that differ from these in the link's alone, which is this value
pub record Fill {M T : Type 0} (b : Machine M T) (m : Meaning T) (FitsUpper FitsLower : List (Stream T) → Type 0) (k : ℕ) (hubs : List (Stream T)) (v : Stream T) (whole whole' lower' : Node M) : Type 0 where
  pub others : List (Stream T)
  pub link : published_at others k ≡ v
  pub fits_above : FitsUpper others
  pub fits_below : FitsLower others
  -- and what reads no link gives the same over them
  pub same : IsSameOver b m hubs others whole
  pub same' : IsSameOver b m hubs others whole'
  pub same_below : IsSameOver b m hubs others lower'
