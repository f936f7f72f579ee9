-- The code of a lane's chain, by which a proof tells chains apart, whose items have a code.
use Rattle.std.specs.Prelude.{[]}
use Rattle.std.specs.Coded.{Coded}
use Rattle.rsx_plain.specs.contracts.chain.ChainState as chain
use Rattle.rsx_plain.specs.declared.chain.ChainState.{ChainState}
use base.Fml.{ffalse}
use denote.Exit.{unchanged}
use denote.RattleType.{RattleType}
use denote.Sharing.{said}
use mir.Syntax.{wrote, ty_param}

-- a type of items with this code; the rest of it is not looked at
abbrev items_of : {T : Type 0} → Coded T → RattleType
items_of {T} c = record { Denot = T; mir = []; written = wrote (ty_param 0); reaches = []; lives = []; own_val = λ x vs. ffalse; exit = λ k. unchanged; coded = c; shr_at = λ x b o. said ffalse }

abbrev pub chain_code : {T : Type 0} → Coded T → Coded (ChainState T)
chain_code c = (chain.the_row (items_of c)).coded
