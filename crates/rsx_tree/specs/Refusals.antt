-- How the refusals of a tree's calls are read.
use Rattle.std.specs.Prelude.{◌≡◌, Bool, false, Result, IfErr}
use Rattle.rsx_sources.specs.declared.machine.NotMade.{NotMade}
use Rattle.rsx_sources.specs.declared.machine.NotMade.TheVariants.{NotEnabled}

-- a refusal of a call that takes no memory: the move isn't enabled
abbrev pub IsNotEnabled : Bool → NotMade → Type 0
IsNotEnabled can e = (e ≡ NotEnabled) × (can ≡ false)

-- the call wasn't refused for want of memory: the only refusal is that the move isn't enabled
abbrev pub OnlyNotEnabled : {A : Type 0} → Result A NotMade → Type 0
OnlyNotEnabled result = IfErr result (λ e. e ≡ NotEnabled)
