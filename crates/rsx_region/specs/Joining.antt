-- Two pieces with a link between them, joined again.
use Rattle.std.specs.Prelude.{◌≡◌, ℕ, true, List, [], ◌∷◌, ◌++◌, length, map, Some}
use Rattle.rsx_sources.specs.Prelude.{Meaning, Next, Signal, Stream}
use Rattle.rsx_sources.specs.declared.machine.Machine.{Ghosts as Machine}
use Rattle.rsx_rooted.specs.declared.nodes.CrossingNodes.{Ghosts as CrossingNodes}
use Rattle.rsx_rooted.specs.Local.{ReadsNot}
use Rattle.rsx_rooted.specs.Regions.{Adds, Carries}
use Rattle.rsx_pipe.specs.Cutting.{IsCut, ReadsAt, can_join, joined}
use Rattle.rsx_pipe.specs.Joined.{HasReached}
use Rattle.rsx_pipe.specs.Part.{Part}
use Rattle.rsx_link.specs.Ends.{received_signals, sent_signals}
use Rattle.rsx_link.specs.declared.up.Up.{Up}
use Rattle.rsx_region.specs.Inlet.{InletStands}
use Rattle.rsx_region.specs.Piece.{GaveBefore, HasGiven, PieceStands}
use Rattle.rsx_region.specs.declared.inlet.Inlet.{Inlet}

-- The part `old` was cut into two pieces, and both made any steps. Of what the lower one sent into the link, `taken` came to the reader,
-- and the link holds `rest`. Where they are joined again, what came out of the whole part is what the upper one sent since, and then
-- what comes out of the part that is joined.
abbrev pub JoinsPieces : {M T : Type 0} → Machine M T → CrossingNodes M T → Type 0
JoinsPieces {M} {T} b crossing =
    (m : Meaning T) (old new upper below lower : Part M) (at k : ℕ) (reader : M) (queue rest taken : List T) (queued : List (Signal T)) (up between : Up T) (taken_above taken_below whole : List (Stream T)) →
    IsCut b crossing old at reader below queue new → crossing.held reader ≡ Some [] → ReadsAt b k 0 reader →
    can_join b crossing upper at k lower.tree.machine rest ≡ true → HasReached b upper at k (length taken) →
    map Next taken ++ map Next rest ≡ sent_signals between →
    ReadsNot b k old.tree → ReadsNot b k (joined crossing upper at lower rest).tree → ReadsNot b k below.tree →
    Adds taken_above whole k (map Next taken) → Adds taken_below whole k [] →
    PieceStands b m taken_above new.tree queued upper up → PieceStands b m taken_below below.tree (map Next queue) lower between →
    (went : List (Signal T)) × (sent_signals up ≡ queued ++ went) × Carries b m whole old.tree (joined crossing upper at lower rest).tree went

-- The same with less to know: of the whole alone, that no node reads the link, and of the upper piece, what it has of the link. Of the
-- lower piece, its ending, if it sent one, is put back.
abbrev pub JoinsAgain : {M T : Type 0} → Machine M T → CrossingNodes M T → Type 0
JoinsAgain {M} {T} b crossing =
    (m : Meaning T) (old new upper below lower : Part M) (at k : ℕ) (reader : M) (queue rest taken : List T) (queued out : List (Signal T)) (up : Up T) (inlet : Inlet T) (taken_above taken_below whole : List (Stream T)) →
    IsCut b crossing old at reader below queue new → crossing.held reader ≡ Some [] → ReadsAt b k 0 reader →
    can_join b crossing upper at k lower.tree.machine rest ≡ true → InletStands b taken_above upper inlet → inlet.hub ≡ k → received_signals inlet.down ≡ map Next taken →
    map Next taken ++ map Next rest ≡ map Next queue ++ out →
    ReadsNot b k old.tree → Adds taken_above whole k (map Next taken) → Adds taken_below whole k [] →
    PieceStands b m taken_above new.tree queued upper up → HasGiven b m taken_below below.tree lower out →
    ReadsNot b k lower.tree × ReadsNot b k (joined crossing upper at lower rest).tree
    × ((went : List (Signal T)) × (sent_signals up ≡ queued ++ went) × Carries b m whole old.tree (joined crossing upper at lower rest).tree went)

-- The lower piece has sent its ending, which didn't come to the reader, and that is put back. Of what it sent, these items and the ending are
-- left.
abbrev pub JoinsEnded : {M T : Type 0} → Machine M T → CrossingNodes M T → Type 0
JoinsEnded {M} {T} b crossing =
    (m : Meaning T) (old new upper below lower : Part M) (at k : ℕ) (reader : M) (queue items taken : List T) (queued : List (Signal T)) (up between : Up T) (inlet : Inlet T) (taken_above taken_below whole : List (Stream T)) →
    IsCut b crossing old at reader below queue new → crossing.held reader ≡ Some [] → ReadsAt b k 0 reader →
    PieceStands b m taken_above new.tree queued upper up → PieceStands b m taken_below below.tree (map Next queue) lower between →
    (gave : GaveBefore b m taken_below below.tree (map Next queue) lower between) →
    can_join b crossing upper at k gave.before.tree.machine items ≡ true → InletStands b taken_above upper inlet → inlet.hub ≡ k → received_signals inlet.down ≡ map Next taken →
    map Next taken ++ (map Next items ++ gave.last ∷ []) ≡ sent_signals between →
    ReadsNot b k old.tree → Adds taken_above whole k (map Next taken) → Adds taken_below whole k [] →
    ReadsNot b k (joined crossing upper at gave.before items).tree
    × ((went : List (Signal T)) × (sent_signals up ≡ queued ++ went) × Carries b m whole old.tree (joined crossing upper at gave.before items).tree went)
