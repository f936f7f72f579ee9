-- A part that is joined to what was cut off, where the lower part has sent its ending.
use Rattle.std.specs.Prelude.{◌≡◌, ℕ, Bool, true, false, not, ◌&&◌, nat_eq, List, [], ◌∷◌, ◌++◌, length, map, Option, Some, None}
use Rattle.rsx_rooted.specs.Local.{ReadsNot}
use Rattle.rsx_rooted.specs.Regions.{Adds, Carries}
use Rattle.rsx_rooted.specs.Cutting.{ending_of, endings, is_some}
use Rattle.rsx_rooted.specs.declared.nodes.CrossingNodes.{Ghosts as CrossingNodes}
use Rattle.rsx_sources.specs.Prelude.{Ending, Open, Meaning, Next, Signal, Stream, ends_input}
use Rattle.rsx_sources.specs.declared.machine.Machine.{Ghosts as Machine}
use Rattle.rsx_tree.specs.declared.inputs.Inputs.{Inputs}
use Rattle.rsx_tree.specs.Tree.{IsLetGo}
use Rattle.rsx_pipe.specs.Cutting.{IsCut, Place, ReadsAt, can_join, can_take_back, fits_behind, held_in, is_end, joined, place_at, with_node}
use Rattle.rsx_pipe.specs.Joined.{HasReached}
use Rattle.rsx_pipe.specs.Part.{Part}

-- ---- where it is joined

-- the node read a hub or a link to its end, there is nothing below it, and no items are left
abbrev pub can_end_here : {M T : Type 0} → CrossingNodes M T → ℕ → M → Inputs M → Bool
can_end_here crossing count n below = is_end below && ((nat_eq count 0 && is_some (crossing.read_to n)) && fits_behind (crossing.held n) count)

-- a node takes the place of one that reads the hub with this number, or, with none, of one that read to an end
abbrev pub can_put_here : {M T : Type 0} → Machine M T → CrossingNodes M T → Option ℕ → ℕ → M → Inputs M → Bool
can_put_here b crossing (Some hub) count n below = can_take_back b crossing hub count n below
can_put_here b crossing None count n below = can_end_here crossing count n below

abbrev pub can_put_in : {M T : Type 0} → Machine M T → CrossingNodes M T → Option ℕ → ℕ → Option (Place M) → Bool
can_put_in b crossing from count None = false
can_put_in b crossing from count (Some p) = can_put_here b crossing from count p.node p.below

-- whether the tree with this node at its root can be joined to a part at the edge `at`, whose reader took in the ending, where these items
-- are left
abbrev pub can_rejoin_ended : {M T : Type 0} → Machine M T → CrossingNodes M T → Part M → ℕ → M → List T → Bool
can_rejoin_ended b crossing part at node queue = not (b.crosses node) && can_put_in b crossing None (length queue) (place_at at part.tree)

-- the ending that the node over the edge took in
abbrev pub ending_in : {M T : Type 0} → CrossingNodes M T → Option (Place M) → Ending
ending_in crossing None = Open
ending_in crossing (Some p) = ending_of (crossing.read_to p.node)

-- the same, where it took one in
abbrev pub read_at : {M T : Type 0} → CrossingNodes M T → Option (Place M) → Option Ending
read_at crossing None = None
read_at crossing (Some p) = crossing.read_to p.node

-- the node that is put there: with a queue of what the reader held and these items; or of what it held, and the ending that it took in
abbrev pub put_node : {M T : Type 0} → CrossingNodes M T → Option ℕ → Option (Place M) → List T → M → M
put_node crossing (Some hub) place queue n = crossing.queued (held_in crossing place ++ queue) n
put_node crossing None place queue n = crossing.ended_queue (ending_in crossing place) (held_in crossing place ++ queue) n

-- the part, where it was joined: at the edge is a queue again, of what the reader held, and the ending that it took in
abbrev pub joined_ended : {M T : Type 0} → CrossingNodes M T → Part M → ℕ → Part M → List T → Part M
joined_ended crossing part at below queue = record part { tree = with_node at (put_node crossing None (place_at at part.tree) queue below.tree.machine) below.tree.inputs part.tree }

-- ---- what is proved of it

-- A part `old` was cut, and both parts made any moves. The lower one has sent `out`, of which the last signal is its ending; before that
-- it was `lower`. Of what was in the queue, and of `out`, `taken` came to the reader, and `items` and the ending are left. Where the part is
-- joined to the lower one as it was before its ending, what came out of the part that was cut is what went out of the upper one meanwhile,
-- and then what comes out of the part that is joined.
abbrev pub JoinsAfterEnding : {M T : Type 0} → Machine M T → CrossingNodes M T → Type 0
JoinsAfterEnding {M} {T} b crossing =
    (m : Meaning T) (old new upper below lower ended : Part M) (at k : ℕ) (reader : M) (queue items taken : List T) (ending : Signal T) (out went : List (Signal T)) (taken_above taken_below whole : List (Stream T)) →
    IsCut b crossing old at reader below queue new → crossing.held reader ≡ Some [] → ReadsAt b k 0 reader →
    can_join b crossing upper at k lower.tree.machine items ≡ true → HasReached b upper at k (length taken) →
    map Next taken ++ (map Next items ++ ending ∷ []) ≡ map Next queue ++ out → ends_input ending ≡ true → IsLetGo b m lower.tree ending ended.tree →
    ReadsNot b k old.tree → ReadsNot b k (joined crossing upper at lower items).tree → ReadsNot b k ended.tree →
    Adds taken_above whole k (map Next taken) → Adds taken_below whole k [] →
    Carries b m taken_above new.tree upper.tree went → Carries b m taken_below below.tree ended.tree out →
    Carries b m whole old.tree (joined crossing upper at lower items).tree went

-- The same where all came to the reader, with the ending `e`. The part is joined to the lower one as it is after its ending.
abbrev pub JoinsAtEnd : {M T : Type 0} → Machine M T → CrossingNodes M T → Type 0
JoinsAtEnd {M} {T} b crossing =
    (m : Meaning T) (old new upper below lower ended : Part M) (at k : ℕ) (reader : M) (place : Place M) (queue : List T) (e : Ending) (ending : Signal T) (came out went : List (Signal T)) (taken_above taken_below whole : List (Stream T)) →
    IsCut b crossing old at reader below queue new → crossing.held reader ≡ Some [] → ReadsAt b k 0 reader →
    can_rejoin_ended b crossing upper at ended.tree.machine [] ≡ true → place_at at upper.tree ≡ Some place → crossing.read_to place.node ≡ Some e → endings e ≡ ending ∷ [] →
    came ≡ map Next queue ++ out → IsLetGo b m lower.tree ending ended.tree →
    ReadsNot b k old.tree → ReadsNot b k (joined_ended crossing upper at ended []).tree → ReadsNot b k ended.tree →
    Adds taken_above whole k came → Adds taken_below whole k [] →
    Carries b m taken_above new.tree upper.tree went → Carries b m taken_below below.tree ended.tree out →
    Carries b m whole old.tree (joined_ended crossing upper at ended []).tree went
