-- A source of any kind: its meaning is that of its kind.
use Rattle.std.specs.Prelude.{⊤, ℕ, Bool, false, List, Option, None}
use Rattle.rsx_sources.specs.Prelude.{Note, Signal, Meaning, Allocates, Stream, Incoming, Reading, items_comes_out, items_waiting, items_shown, items_popped, range_comes_out, range_waiting, range_shown, range_popped, range_pop_allocates}
use Rattle.rsx_sources.specs.declared.machine.Front.{Front}
use Rattle.rsx_hub.specs.Leaf.{leaf_comes_out, leaf_waiting, leaf_shown, leaf_popped, leaf_reads, leaf_rooms, leaf_counted}
use Rattle.rsx_kinds.specs.declared.source_node.SourceNode.{SourceNode}
use Rattle.rsx_kinds.specs.declared.source_node.SourceNode.TheVariants.{Items, Range, Hub}

-- what still comes out
abbrev pub source_comes_out : {T : Type 0} → Meaning T → SourceNode T → Incoming T → Note → Option (Stream T)
source_comes_out m (Items n) inc k = items_comes_out m n inc k
source_comes_out m (Range n) inc k = range_comes_out m n inc k
source_comes_out m (Hub n) inc k = leaf_comes_out m n inc k

-- the signal that waits
abbrev pub source_waiting : {T : Type 0} → Meaning T → SourceNode T → Option (Signal T)
source_waiting m (Items n) = items_waiting m n
source_waiting m (Range n) = range_waiting m n
source_waiting m (Hub n) = leaf_waiting m n

-- which signal that is
abbrev pub source_shown : {T : Type 0} → SourceNode T → Option Front
source_shown (Items n) = items_shown n
source_shown (Range n) = range_shown n
source_shown (Hub n) = leaf_shown n

-- the second is the first without the signal that it offered
abbrev pub source_popped : {T : Type 0} → SourceNode T → Signal T → SourceNode T → Type 0
source_popped (Items a) s (Items b) = items_popped a s b
source_popped (Range a) s (Range b) = range_popped a s b
source_popped (Hub a) s (Hub b) = leaf_popped a s b
source_popped a s b = ⊥

-- how many items were sent: of one that reads a hub, those that it had and those that came from there, without what it holds
abbrev pub source_counted : {T : Type 0} → SourceNode T → List ℕ → ℕ → Type 0
source_counted (Items n) taken sent = ⊤
source_counted (Range n) taken sent = ⊤
source_counted (Hub n) taken sent = leaf_counted n taken sent

-- how far it got in the hub that it reads
abbrev pub source_reads : {T : Type 0} → SourceNode T → Option Reading
source_reads (Items n) = None
source_reads (Range n) = None
source_reads (Hub n) = leaf_reads n

-- whether it has room for an item of that hub
abbrev pub source_rooms : {T : Type 0} → SourceNode T → Bool
source_rooms (Items n) = false
source_rooms (Range n) = false
source_rooms (Hub n) = leaf_rooms n

-- whether taking the offered signal out may allocate
abbrev pub source_pop_allocates : {T : Type 0} → Allocates → SourceNode T → Bool
source_pop_allocates a (Items n) = false
source_pop_allocates a (Range n) = range_pop_allocates a n
source_pop_allocates a (Hub n) = false
