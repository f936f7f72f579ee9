-- A chain of plain operators from its state.
use Rattle.std.specs.Prelude.{◌≡◌, Bool, false, ◌||◌, List}
use Rattle.rsx_sources.specs.Prelude.{Meaning, Allocates, plain, chained, Stream, Stage}
use Rattle.rsx_plain.specs.Emission.{emission_then}
use Rattle.rsx_plain.specs.State.{plain_from, plain_start, is_over, allocates_from}
use Rattle.rsx_plain.specs.declared.prepared.Emission.{Emission}
use Rattle.rsx_plain.specs.Emissions.{followed_by}
use Rattle.rsx_plain.specs.declared.chain.ChainState.{ChainState, End, Stage'}

-- what comes out of the first operator goes into the chain behind it
abbrev pub chain_from : {T : Type 0} → Meaning T → ChainState T → Stream T → Stream T
chain_from m End v = v
chain_from m (Stage' s p behind) v = chain_from m behind (plain_from m s v)

-- whether nothing more of the input matters: an operator of the chain is over
abbrev pub chain_over : {T : Type 0} → ChainState T → Bool
chain_over End = false
chain_over (Stage' s p behind) = is_over s || chain_over behind

-- whether taking a signal may allocate, where these of the caller's functions may: an operator of the chain may
abbrev pub chain_allocates : {T : Type 0} → Allocates → ChainState T → Bool
chain_allocates a End = false
chain_allocates a (Stage' s p behind) = allocates_from a s || chain_allocates a behind

-- ---- what came out first, and then what comes out of the chain

-- that is what the operators make of a whole value
abbrev pub IsChained : {T : Type 0} → Meaning T → List (Stage T) → Stream T → ChainState T → Type 0
IsChained {T} m stages first new = (v : Stream T) → chained m stages v ≡ followed_by first (chain_from m new v)

-- with an operator in front that has taken nothing: what it makes of a whole value goes into the old chain
abbrev pub IsChainedFirst : {T : Type 0} → Meaning T → Stage T → Stream T → ChainState T → Stream T → ChainState T → Type 0
IsChainedFirst {T} m stage before old first new =
    (v : Stream T) → followed_by before (chain_from m old (plain m stage v)) ≡ followed_by first (chain_from m new v)

-- what comes out of an operator at the start went into the old chain, and the new one takes what comes out of it from then on
abbrev pub TakesStart : {T : Type 0} → Meaning T → Stage T → Stream T → ChainState T → Stream T → ChainState T → Type 0
TakesStart {T} m stage before old first new =
    (v : Stream T) → followed_by before (chain_from m old (plain m stage v)) ≡ followed_by first (chain_from m new (plain_from m (plain_start stage) v))

-- whatever still comes: the emission goes into the old chain, `out` comes out, and the new one is left
abbrev pub MovesEmission : {T : Type 0} → Meaning T → ChainState T → Emission T → Emission T → ChainState T → Type 0
MovesEmission {T} m old emission out new = (v : Stream T) → chain_from m old (emission_then emission v) ≡ emission_then out (chain_from m new v)
