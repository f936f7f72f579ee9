-- What a cut and a join owe of the counts along the edges, and of what the nodes read.
use Rattle.std.specs.Prelude.{◌≡◌, ℕ, ◌+◌, ◌<◌, true, false, List, [], ◌++◌, length, map, Option, Some, option_map, slice_get}
use Rattle.rsx_sources.specs.Prelude.{Meaning, Next, Open, Signal, Stream, ended_by, reads_hub}
use Rattle.rsx_sources.specs.declared.machine.Machine.{Ghosts as Machine}
use Rattle.rsx_rooted.specs.declared.nodes.CrossingNodes.{Ghosts as CrossingNodes}
use Rattle.rsx_rooted.specs.Local.{AllOf, ReadsNot}
use Rattle.rsx_tree.specs.declared.edge.EdgeState.TheVariants.{Live}
use Rattle.rsx_tree.specs.declared.node.Node.{Node}
use Rattle.rsx_tree.specs.Edges.{edge_view}
use Rattle.rsx_tree.specs.Reads.{AllGoOn, IsTreeReadAt, readings}
use Rattle.rsx_tree.specs.Stepped.{station_of}
use Rattle.rsx_pipe.specs.Cutting.{IsCut, Place, ReadsAt, can_join, joined, place_at}
use Rattle.rsx_pipe.specs.Output.{counts_in}
use Rattle.rsx_pipe.specs.Part.{Part}
use Rattle.rsx_pipe.specs.Tree.{IsBalanced}
use Rattle.rsx_link.specs.Ends.{cancels_of, carried_down, received_signals}
use Rattle.rsx_link.specs.Signals.{items_in}
use Rattle.rsx_region.specs.Inlet.{InletStands}
use Rattle.rsx_region.specs.Open.{is_live_over, is_open_over}
use Rattle.rsx_region.specs.Piece.{GoesOn}
use Rattle.rsx_region.specs.declared.inlet.Inlet.{Inlet}

-- how many items went over the edge `at` of a part
abbrev pub sent_over_edge : {M : Type 0} → Part M → ℕ → Option ℕ
sent_over_edge part at = option_map (λ s. s.sent) (station_of part.tree (edge_view part.root) at)

-- ---- a part is cut

-- the node reads what comes over the link `k`, of which nothing came yet, and goes on from so many items that were sent
pub record IsReader {M T : Type 0} (b : Machine M T) (crossing : CrossingNodes M T) (k before : ℕ) (n : M) : Type 0 where
  pub held : crossing.held n ≡ Some []
  pub reads : b.reads n ≡ Some (record { hub = k; reached = 0; missed = 0; before = before })
  pub goes_on : b.ended n ≡ false
  pub counted : (taken : List ℕ) → b.counted n taken before

-- Where the counts of the whole belong together, those of the upper piece do, and those of the lower one, as long as no receiver over
-- the edge has ended or is done with it. The edge had sent `before` items, and with those of its queue that is what counts as sent by
-- the lower piece.
abbrev pub CutsBalanced : {M T : Type 0} → Machine M T → CrossingNodes M T → Type 0
CutsBalanced {M} {T} b crossing =
    (m : Meaning T) (old new below : Part M) (at k before : ℕ) (reader : M) (queue : List T) →
    IsCut b crossing old at reader below queue new → IsReader b crossing k before reader → sent_over_edge old at ≡ Some before → before + length queue ≡ below.root.demand.sent →
    IsBalanced b old.tree old.root.demand.sent →
    IsBalanced b new.tree new.root.demand.sent × (is_open_over b old at ≡ true → IsBalanced b below.tree below.root.demand.sent)

-- of each hub that one of these nodes reads, but for the link k, as much was taken in by the one list as by the other
abbrev pub AgreesOn : {M T : Type 0} → Machine M T → ℕ → List (Stream T) → List (Stream T) → Node M → Type 0
AgreesOn b k taken others t = AllOf (λ i. (i ≡ k → ⊥) → slice_get others i ≡ slice_get taken i) (readings b t)

-- What the nodes of the whole have taken in, those of both pieces have. Nothing came over the link yet.
abbrev pub CutsReading : {M T : Type 0} → Machine M T → CrossingNodes M T → Type 0
CutsReading {M} {T} b crossing =
    (m : Meaning T) (old new below : Part M) (at k before : ℕ) (reader : M) (queue : List T) (whole taken_above taken_below : List (Stream T)) →
    IsCut b crossing old at reader below queue new → IsReader b crossing k before reader → ReadsNot b k old.tree →
    slice_get taken_above k ≡ Some (ended_by Open) → AgreesOn b k whole taken_above old.tree → AgreesOn b k whole taken_below old.tree →
    IsTreeReadAt b (counts_in whole) old.tree →
    IsTreeReadAt b (counts_in taken_above) new.tree × IsTreeReadAt b (counts_in taken_below) below.tree

-- ---- two pieces are joined again

-- A part was cut into two, of which the upper one sent `went` and the lower one `out` since then, and no ending. Of what was in the
-- queue, and of `out`, `taken` came to the reader, by an end that began with what had gone over the edge. Over a live edge the lower piece
-- goes on. Where the counts of the whole belonged together, those of the joined part do. In its queue is what the reader holds and then
-- `rest`; with these the joined edge counts what the lower piece sent.
abbrev pub JoinsBalanced : {M T : Type 0} → Machine M T → CrossingNodes M T → Type 0
JoinsBalanced {M} {T} b crossing =
    (m : Meaning T) (old new upper below lower : Part M) (at k before : ℕ) (reader : M) (queue rest taken : List T) (went out : List (Signal T)) (inlet : Inlet T) (taken_above taken_below : List (Stream T)) →
    IsCut b crossing old at reader below queue new → IsReader b crossing k before reader → sent_over_edge old at ≡ Some before → before + length queue ≡ below.root.demand.sent →
    IsBalanced b old.tree old.root.demand.sent →
    can_join b crossing upper at k lower.tree.machine rest ≡ true →
    GoesOn b taken_above new.tree upper went → old.root.demand.sent + items_in went ≡ upper.root.demand.sent → upper.root.state ≡ Live →
    (is_live_over upper at ≡ true → GoesOn b taken_below below.tree lower out) → below.root.demand.sent + items_in out ≡ lower.root.demand.sent →
    InletStands b taken_above upper inlet → inlet.hub ≡ k → carried_down inlet.down ≡ before → received_signals inlet.down ≡ map Next taken → map Next taken ++ map Next rest ≡ map Next queue ++ out →
    IsBalanced b (joined crossing upper at lower rest).tree (joined crossing upper at lower rest).root.demand.sent

-- What the nodes of both pieces have taken in, those of the joined part have. That of the reader, which is dropped, doesn't matter.
abbrev pub JoinsReading : {M T : Type 0} → Machine M T → CrossingNodes M T → Type 0
JoinsReading {M} {T} b crossing =
    (m : Meaning T) (old new upper below lower : Part M) (at k : ℕ) (reader : M) (queue rest : List T) (taken_above taken_below whole : List (Stream T)) →
    IsCut b crossing old at reader below queue new → ReadsAt b k 0 reader → ReadsNot b k old.tree →
    can_join b crossing upper at k lower.tree.machine rest ≡ true →
    AllGoOn (readings b new.tree) (readings b upper.tree) → AllGoOn (readings b below.tree) (readings b lower.tree) →
    AgreesOn b k taken_above whole upper.tree → AgreesOn b k taken_below whole lower.tree →
    IsTreeReadAt b (counts_in taken_above) upper.tree → upper.root.state ≡ Live →
    (is_live_over upper at ≡ true → IsTreeReadAt b (counts_in taken_below) lower.tree) →
    IsTreeReadAt b (counts_in whole) (joined crossing upper at lower rest).tree

-- Over the edge of a link's reader nothing goes any more once the link was cancelled from there. So a lower piece that was closed for that
-- owes the joined part nothing.
abbrev pub CancelsDead : {M T : Type 0} → Machine M T → Type 0
CancelsDead {M} {T} b =
    (upper : Part M) (at k : ℕ) (place : Place M) (inlet : Inlet T) (taken : List (Stream T)) → place_at at upper.tree ≡ Some place → reads_hub k (b.reads place.node) ≡ true →
    InletStands b taken upper inlet → inlet.hub ≡ k → 0 < cancels_of inlet.closer → is_live_over upper at ≡ false
