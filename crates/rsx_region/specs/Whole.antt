-- Two pieces that are joined again are a piece, since the part was cut.
use Rattle.std.specs.Prelude.{◌≡◌, ℕ, ◌+◌, ◌<◌, true, false, List, [], ◌∷◌, ◌++◌, length, map, Some}
use Rattle.rsx_sources.specs.Prelude.{Ending, Meaning, Next, Signal, Stream, ends_input}
use Rattle.rsx_sources.specs.declared.machine.Machine.{Ghosts as Machine}
use Rattle.rsx_rooted.specs.Cutting.{endings}
use Rattle.rsx_rooted.specs.declared.nodes.CrossingNodes.{Ghosts as CrossingNodes}
use Rattle.rsx_rooted.specs.Local.{ReadsNot}
use Rattle.rsx_rooted.specs.Regions.{Adds, Carries}
use Rattle.rsx_tree.specs.declared.node.Node.{Node}
use Rattle.rsx_tree.specs.Edges.{edge_view, is_live}
use Rattle.rsx_tree.specs.Reads.{AllGoOn, readings}
use Rattle.rsx_tree.specs.Stepped.{Station, station_of}
use Rattle.rsx_pipe.specs.Cutting.{IsCut, Place, can_join, joined, place_at}
use Rattle.rsx_pipe.specs.Part.{Part}
use Rattle.rsx_pipe.specs.Rejoined.{can_rejoin_ended, joined_ended}
use Rattle.rsx_pipe.specs.Tree.{IsAllClosed, IsLetGo}
use Rattle.rsx_link.specs.Ends.{carried_down, carried_up, received_signals}
use Rattle.rsx_link.specs.Signals.{items_in}
use Rattle.rsx_link.specs.declared.up.Up.{Up}
use Rattle.rsx_region.specs.Inlet.{InletStands}
use Rattle.rsx_region.specs.Joined.{AgreesOn, IsReader, sent_over_edge}
use Rattle.rsx_region.specs.Piece.{GoesOn, PieceStands}
use Rattle.rsx_region.specs.declared.inlet.Inlet.{Inlet}

-- A part was cut at the edge `at`, over which `before` items had gone. Its reader has the number k, which no node of the part reads.
pub record WasCut {M T : Type 0} (b : Machine M T) (crossing : CrossingNodes M T) (old : Part M) (at k before : ℕ) (reader : M) (below : Part M) (queue : List T) (new : Part M) : Type 0 where
  pub cut : IsCut b crossing old at reader below queue new
  pub reads : IsReader b crossing k before reader
  pub sent : sent_over_edge old at ≡ Some before
  pub counted : before + length queue ≡ below.root.demand.sent
  pub free : ReadsNot b k old.tree

-- What was taken in of the hubs and over the links by the upper piece, by the lower one, and by both. What came over the link between
-- them is of no other.
pub record AreShared {M T : Type 0} (b : Machine M T) (k : ℕ) (taken_above taken_below whole : List (Stream T)) (came : List (Signal T)) (upper lower : Node M) : Type 0 where
  pub above : Adds taken_above whole k came
  pub below : Adds taken_below whole k []
  pub same_above : AgreesOn b k taken_above whole upper
  pub same_below : AgreesOn b k taken_below whole lower

-- The lower piece, of which an ending that it sent was put back: it gave `out` and no ending since it was cut off. Over a live edge it goes
-- on, and below one that isn't live it was closed.
pub record IsBelow {M T : Type 0} (b : Machine M T) (m : Meaning T) (taken : List (Stream T)) (below lower : Part M) (out : List (Signal T)) (there : Station M) : Type 0 where
  pub flow : Carries b m taken below.tree lower.tree out
  pub reading : AllGoOn (readings b below.tree) (readings b lower.tree)
  pub counted : below.root.demand.sent + items_in out ≡ lower.root.demand.sent
  pub goes_on : is_live there.state ≡ true → GoesOn b taken below.tree lower out
  pub closed : is_live there.state ≡ false → IsAllClosed lower.tree

-- Where two pieces are joined again at an edge below the root, the joined part is a piece with the sending end of the upper one: it gave
-- what that sent, since the part was cut.
abbrev pub JoinsWhole : {M T : Type 0} → Machine M T → CrossingNodes M T → Type 0
JoinsWhole {M} {T} b crossing =
    (m : Meaning T) (old new upper below lower : Part M) (at k before : ℕ) (reader : M) (there : Station M) (queue rest taken : List T) (queued out : List (Signal T)) (up : Up T) (inlet : Inlet T) (taken_above taken_below whole : List (Stream T)) →
    0 < at → WasCut b crossing old at k before reader below queue new → carried_up up + items_in queued ≡ old.root.demand.sent →
    PieceStands b m taken_above new.tree queued upper up → station_of upper.tree (edge_view upper.root) at ≡ Some there → IsBelow b m taken_below below lower out there →
    can_join b crossing upper at k lower.tree.machine rest ≡ true →
    InletStands b taken_above upper inlet → inlet.hub ≡ k → carried_down inlet.down ≡ before → received_signals inlet.down ≡ map Next taken → map Next taken ++ map Next rest ≡ map Next queue ++ out →
    AreShared b k taken_above taken_below whole (map Next taken) upper.tree lower.tree →
    PieceStands b m whole old.tree queued (joined crossing upper at lower rest) up

-- The same where the lower piece has sent its ending, and that didn't come to the reader. It is put back: then the piece is `kept`, and it
-- was `gone` after it.
abbrev pub JoinsWholeEnded : {M T : Type 0} → Machine M T → CrossingNodes M T → Type 0
JoinsWholeEnded {M} {T} b crossing =
    (m : Meaning T) (old new upper below kept gone : Part M) (at k before : ℕ) (reader : M) (there : Station M) (queue items taken : List T) (queued out : List (Signal T)) (ending : Signal T) (up : Up T) (inlet : Inlet T) (taken_above taken_below whole : List (Stream T)) →
    0 < at → WasCut b crossing old at k before reader below queue new → carried_up up + items_in queued ≡ old.root.demand.sent →
    PieceStands b m taken_above new.tree queued upper up → station_of upper.tree (edge_view upper.root) at ≡ Some there → IsBelow b m taken_below below kept out there →
    ends_input ending ≡ true → IsLetGo b m kept.tree ending gone.tree → Carries b m taken_below below.tree gone.tree (out ++ ending ∷ []) →
    can_join b crossing upper at k kept.tree.machine items ≡ true →
    InletStands b taken_above upper inlet → inlet.hub ≡ k → carried_down inlet.down ≡ before → received_signals inlet.down ≡ map Next taken → map Next taken ++ (map Next items ++ ending ∷ []) ≡ map Next queue ++ (out ++ ending ∷ []) →
    AreShared b k taken_above taken_below whole (map Next taken) upper.tree kept.tree →
    PieceStands b m whole old.tree queued (joined crossing upper at kept items) up

-- The same where that ending, `e`, came to the reader, and with it all that the lower piece sent. It is joined as it is after its ending.
abbrev pub JoinsWholeAtEnd : {M T : Type 0} → Machine M T → CrossingNodes M T → Type 0
JoinsWholeAtEnd {M} {T} b crossing =
    (m : Meaning T) (old new upper below kept gone : Part M) (at k before : ℕ) (reader : M) (place : Place M) (there : Station M) (queue : List T) (e : Ending) (came queued out : List (Signal T)) (ending : Signal T) (up : Up T) (taken_above taken_below whole : List (Stream T)) →
    0 < at → WasCut b crossing old at k before reader below queue new → carried_up up + items_in queued ≡ old.root.demand.sent →
    PieceStands b m taken_above new.tree queued upper up → station_of upper.tree (edge_view upper.root) at ≡ Some there → IsBelow b m taken_below below kept out there →
    IsLetGo b m kept.tree ending gone.tree → Carries b m taken_below below.tree gone.tree (out ++ ending ∷ []) →
    can_rejoin_ended b crossing upper at gone.tree.machine [] ≡ true → place_at at upper.tree ≡ Some place → crossing.read_to place.node ≡ Some e → endings e ≡ ending ∷ [] →
    came ≡ map Next queue ++ (out ++ ending ∷ []) → AreShared b k taken_above taken_below whole came upper.tree kept.tree →
    PieceStands b m whole old.tree queued (joined_ended crossing upper at gone []) up
