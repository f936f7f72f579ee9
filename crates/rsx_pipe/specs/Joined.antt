-- What is proved of a part that was cut and joined again.
use Rattle.std.specs.Prelude.{◌≡◌, ℕ, ◌≤◌, true, List, [], ◌++◌, length, map, Some}
use Rattle.rsx_rooted.specs.Local.{ReadsNot}
use Rattle.rsx_rooted.specs.Regions.{Adds, Carries}
use Rattle.rsx_rooted.specs.declared.nodes.CrossingNodes.{Ghosts as CrossingNodes}
use Rattle.rsx_sources.specs.Prelude.{Meaning, Next, Signal, Stream, reads_hub}
use Rattle.rsx_sources.specs.declared.machine.Machine.{Ghosts as Machine}
use Rattle.rsx_types.specs.declared.limits.TheConstants.{CAPACITY}
use Rattle.rsx_pipe.specs.Cutting.{IsCut, Place, ReadsAt, can_join, joined, place_at}
use Rattle.rsx_pipe.specs.Part.{Part}

-- a part that is cut is as it was, once it is joined again with what was in the queue; and that isn't refused
abbrev pub JoinsAtOnce : {M T : Type 0} → Machine M T → CrossingNodes M T → Type 0
JoinsAtOnce {M} {T} b crossing =
    (old new below : Part M) (at hub : ℕ) (reader : M) (queue : List T) → IsCut b crossing old at reader below queue new → crossing.held reader ≡ Some [] → reads_hub hub (b.reads reader) ≡ true → length queue ≤ CAPACITY →
    (can_join b crossing new at hub below.tree.machine queue ≡ true) × (joined crossing new at below queue ≡ old)

-- the node over the edge `at` reads this hub, and took in so many items of it
pub record HasReached {M T : Type 0} (b : Machine M T) (part : Part M) (at hub count : ℕ) : Type 0 where
  pub place : Place M
  pub there : place_at at part.tree ≡ Some place
  pub reads : ReadsAt b hub count place.node

-- A part `old` was cut, and both parts made any moves. Of what was in the queue, and what the lower part sent then, `taken` came to the
-- reader, and `queue'` didn't. Where both are joined again, what came out of the part that was cut is what went out of the upper one
-- meanwhile, and then what comes out of the part that is joined.
abbrev pub JoinsAfterMoves : {M T : Type 0} → Machine M T → CrossingNodes M T → Type 0
JoinsAfterMoves {M} {T} b crossing =
    (m : Meaning T) (old new upper below lower : Part M) (at k : ℕ) (reader : M) (queue queue' taken : List T) (out went : List (Signal T)) (taken_above taken_below whole : List (Stream T)) →
    IsCut b crossing old at reader below queue new → crossing.held reader ≡ Some [] → ReadsAt b k 0 reader →
    can_join b crossing upper at k lower.tree.machine queue' ≡ true → HasReached b upper at k (length taken) →
    map Next taken ++ map Next queue' ≡ map Next queue ++ out →
    ReadsNot b k old.tree → ReadsNot b k (joined crossing upper at lower queue').tree → ReadsNot b k lower.tree →
    Adds taken_above whole k (map Next taken) → Adds taken_below whole k [] →
    Carries b m taken_above new.tree upper.tree went → Carries b m taken_below below.tree lower.tree out →
    Carries b m whole old.tree (joined crossing upper at lower queue').tree went
