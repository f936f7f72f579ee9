-- What a node of several inputs gives of what comes in, for each kind.
use Rattle.std.specs.Prelude.{◌≡◌, ⊤, ℕ, zero, suc, ◌≤◌, List, [], ◌∷◌, Option, None}
use Rattle.rsx_sources.specs.Prelude.{Note, Nothing, Picks, Ended, Meaning, Stream, Incoming, quiet}
use Rattle.rsx_prefetch.specs.declared.TheConstants.{LARGEST}
use Rattle.rsx_values.specs.Prelude.{concat, merge, merge_delay, latest_until_stop, zip}
use Rattle.rsx_queued.specs.Prelude.{picked, first_values}
use Rattle.rsx_combining.specs.Zip.{recorded_ending}
use Rattle.rsx_kinds.specs.declared.kind.SeveralKind.{SeveralKind}
use Rattle.rsx_kinds.specs.declared.kind.SeveralKind.TheVariants.{Concat, Merge, MergeDelay, Zip, Latest}
use Rattle.rsx_kinds.specs.declared.several_node.SeveralNode.{SeveralNode}
use Rattle.rsx_kinds.specs.Several.{several_comes_out}

-- a prefetch that a queue can hold
abbrev pub IsWithin : SeveralKind → Type 0
IsWithin Concat = ⊤
IsWithin (Merge p) = (1 ≤ p) × (p ≤ LARGEST)
IsWithin (MergeDelay p) = (1 ≤ p) × (p ≤ LARGEST)
IsWithin (Zip p) = (1 ≤ p) × (p ≤ LARGEST)
IsWithin (Latest p) = (1 ≤ p) × (p ≤ LARGEST)

-- the operator of these values, under what was recorded: nothing where that doesn't fit the kind
abbrev pub joined : {T : Type 0} → Meaning T → SeveralKind → Note → List (Stream T) → Option (Stream T)
joined m Concat k vs = quiet k (concat vs)
joined m (Merge p) k vs = picked k (λ cs. merge cs vs)
joined m (MergeDelay p) k vs = picked k (λ cs. merge_delay cs vs)
joined m (Zip p) k vs = recorded_ending k (λ o. zip m.row_of o vs)
joined m (Latest p) k vs = picked k (λ cs. latest_until_stop m.row_of cs vs)

-- at a node at which nothing came in: the operator of so many of the values that come in
abbrev pub GivesKind : {T : Type 0} → SeveralNode T → SeveralKind → ℕ → Type 0
GivesKind {T} n kind inputs =
    (m : Meaning T) (inc : Incoming T) (further : Note) →
    several_comes_out m n inc further ≡ joined m kind further (first_values inputs (inc.first ∷ inc.others))

-- what a node records that has recorded nothing
abbrev pub recorded_first : SeveralKind → Note
recorded_first Concat = Nothing
recorded_first (Merge p) = Picks []
recorded_first (MergeDelay p) = Picks []
recorded_first (Zip p) = Ended None
recorded_first (Latest p) = Picks []

-- how many items a node at which nothing came in asks of an input, where so much is asked of it
abbrev pub first_wanted : SeveralKind → ℕ → ℕ → ℕ
first_wanted Concat zero asked = asked
first_wanted Concat (suc i) asked = 0
first_wanted (Merge p) i asked = p
first_wanted (MergeDelay p) i asked = p
first_wanted (Zip p) i asked = p
first_wanted (Latest p) i asked = p
