-- Two regions with a link between them, over what each of them took in.
use Rattle.std.specs.Prelude.{◌≡◌, ◌⊎◌, ℕ, ◌<◌, List, [], ◌++◌, Option, Some, option_map, slice_get}
use Rattle.rsx_sources.specs.Prelude.{Meaning, Stream, Note, Signal, Open, ended_by, notes_then, signals_then}
use Rattle.rsx_sources.specs.declared.machine.Machine.{Ghosts as Machine}
use Rattle.rsx_tree.specs.declared.node.Node.{Node}
use Rattle.rsx_tree.specs.declared.inputs.Inputs.{Inputs, End}
use Rattle.rsx_tree.specs.Inputs.{size}
use Rattle.rsx_tree.specs.Tree.{comes_out, notes}
use Rattle.rsx_tree.specs.Swapped.{with_sender}
use Rattle.rsx_rooted.specs.Flow.{AreFor, Flows, HoldsOver, ReadsLink, alone, as_root}
use Rattle.rsx_rooted.specs.Local.{Begins, IsLocal, ReadsNot, stream_of}

-- `taken` is what the hubs took in, and what came over the links, each from the opening on: over all values that begin so, what came
-- out of the first tree is what went out, and then what comes out of the second
abbrev pub Carries : {M T : Type 0} → Machine M T → Meaning T → List (Stream T) → Node M → Node M → List (Signal T) → Type 0
Carries b m taken old new out = Flows b m (Begins taken) old new out

-- what one region took in of a hub, or came to it over a link, is what all took in, or nothing; at the link k it is what came over that
pub record Adds {T : Type 0} (taken whole : List (Stream T)) (k : ℕ) (came : List (Signal T)) : Type 0 where
  pub others : (i : ℕ) (s : Stream T) → (i ≡ k → ⊥) → slice_get taken i ≡ Some s → (s ≡ ended_by Open) ⊎ (slice_get whole i ≡ Some s)
  pub link : (s : Stream T) → slice_get taken k ≡ Some s → s ≡ stream_of came

-- The tree `whole` is cut at an edge whose queue held `queued`, with the tree `lower` below it, and the link there has the number k.
-- Later the lower tree has sent `out` besides; of all that, `came` came to the reader, and the link holds `left`. The reader and
-- the link together hold `held`, which the queue of the edge takes back.
pub record IsCutBetween {M T : Type 0} (b : Machine M T) (m : Meaning T) (k : ℕ) (whole whole' lower lower' : Node M) (leaf leaf' x x' : M) (queued came left held out : List (Signal T)) : Type 0 where
  pub sent : came ++ left ≡ queued ++ out
  pub leaf_is : ReadsLink b m k leaf queued queued
  pub leaf_is' : ReadsLink b m k leaf' (queued ++ out) held
  pub holds : HoldsOver b m x queued lower
  pub holds' : HoldsOver b m x' held lower'
  -- but for the reader no node reads the link
  pub free : ReadsNot b k whole
  pub free' : ReadsNot b k whole'
  pub free_below : ReadsNot b k lower'

-- ---- the laws

-- what is put at an edge takes the place of all that was put there before
abbrev pub PutsAgain : Type 0 → Type 0
PutsAgain M = (t : Node M) (at : ℕ) (x y : M) (xs ys : Inputs M) → at < size t.inputs → with_sender at x xs (with_sender at y ys t) ≡ with_sender at x xs t

-- two trees with a link between them, joined again
abbrev pub JoinsRegions : {M T : Type 0} → Machine M T → Type 0
JoinsRegions {M} {T} b =
    (m : Meaning T) (upper upper' lower lower' : Node M) (leaf leaf' x x' : M) (k at : ℕ) (queued came left held out went : List (Signal T)) (taken_above taken_below whole : List (Stream T)) → IsLocal b m →
    at < size upper.inputs → at < size upper'.inputs →
    IsCutBetween b m k (with_sender at x lower.inputs upper) (with_sender at x' lower'.inputs upper') lower lower' leaf leaf' x x' queued came left held out → Adds taken_above whole k came → Adds taken_below whole k [] →
    Carries b m taken_above (with_sender at leaf End upper) (with_sender at leaf' End upper') went → Carries b m taken_below lower lower' out →
    Carries b m whole (with_sender at x lower.inputs upper) (with_sender at x' lower'.inputs upper') went

-- where the link is in the place of the root's own edge
abbrev pub JoinsRoot : {M T : Type 0} → Machine M T → Type 0
JoinsRoot {M} {T} b =
    (m : Meaning T) (lower lower' : Node M) (leaf leaf' x x' : M) (k : ℕ) (queued came left held out went : List (Signal T)) (taken_above taken_below whole : List (Stream T)) → IsLocal b m →
    IsCutBetween b m k (as_root x lower) (as_root x' lower') lower lower' leaf leaf' x x' queued came left held out → Adds taken_above whole k came → Adds taken_below whole k [] →
    Carries b m taken_above (alone leaf) (alone leaf') went → Carries b m taken_below lower lower' out →
    Carries b m whole (as_root x lower) (as_root x' lower') went

-- where a tree stood for a value, and then these signals went out, the second tree stands for it with them behind what had gone out
abbrev pub StandsOn : {M T : Type 0} → Machine M T → Type 0
StandsOn {M} {T} b =
    (m : Meaning T) (taken : List (Stream T)) (value : List (Stream T) → List Note → Option (Stream T)) (old new : Node M) (output went : List (Signal T)) →
    ((hubs : List (Stream T)) (further : List Note) → Begins taken hubs → AreFor b old further → option_map (signals_then output) (comes_out b m hubs further old 0) ≡ value hubs (notes_then (notes b old) further)) →
    Carries b m taken old new went →
    (hubs : List (Stream T)) (further : List Note) → Begins taken hubs → AreFor b new further → option_map (signals_then (output ++ went)) (comes_out b m hubs further new 0) ≡ value hubs (notes_then (notes b new) further)
