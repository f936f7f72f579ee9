-- Nothing comes out of a source that has nothing more.
use Rattle.std.proofs.Common.{◌≡◌, false, List, [], ◌∷◌, Some, None, refl, ap}
use Rattle.rsx_sources.specs.Prelude.{Nothing, Ending, Open, Done, Failed, Meaning, Stream, ended_by, items_then, Incoming, Reading, published_at}
use Rattle.rsx_hub.specs.Member.{behind, without}
use Rattle.rsx_hub.specs.Waiting.{first_waiting}
use Rattle.rsx_hub.specs.Leaf.{LeafState, leaf_comes_out, leaf_waiting, leaf_reads, reading_of}
use Rattle.rsx_kinds.specs.Source.{source_comes_out, source_waiting, source_reads}
use Rattle.rsx_kinds.specs.declared.source_node.SourceNode.{SourceNode}
use Rattle.rsx_kinds.specs.declared.source_node.SourceNode.TheVariants.{Items, Range, Hub}
use Rattle.rsx_tree.specs.Rests.{NothingBehind}

-- its queue is empty, and it has not taken in the hub's ending
leaf_in : {T : Type 0} (q : List T) (e : Ending) (r : Reading) (after : Reading → Stream T) → first_waiting q e false ≡ None → ((k : Reading) → reading_of e r ≡ Some k → after k ≡ ended_by Open) → items_then q (behind false e (after r)) ≡ ended_by Open
leaf_in [] Open r after w none = none r refl
leaf_in [] Done r after w none = cc
leaf_in [] (Failed c) r after w none = cc
leaf_in (x ∷ xs) e r after w none = cc

leaf_rests : {T : Type 0} (m : Meaning T) (n : LeafState T) (inc : Incoming T) → leaf_waiting m n ≡ None → NothingBehind (leaf_reads n) inc.hubs → leaf_comes_out m n inc Nothing ≡ Some (ended_by Open)
leaf_rests m n inc w none = ap Some (leaf_in n.queue n.ending (record { hub = n.hub; reached = n.reached; missed = n.missed; before = n.before }) (λ k. without k.reached (published_at inc.hubs k.hub)) w none)

pub source_rests : {T : Type 0} (m : Meaning T) (n : SourceNode T) (inc : Incoming T) → source_waiting m n ≡ None → NothingBehind (source_reads n) inc.hubs → source_comes_out m n inc Nothing ≡ Some (ended_by Open)
source_rests m (Items n) inc w none = cc
source_rests m (Range n) inc w none = cc
source_rests m (Hub n) inc w none = leaf_rests m n inc w none
