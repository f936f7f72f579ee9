-- The names of refusals.
use Rattle.std.specs.Prelude.{ℕ, List, codes}
use Rattle.rsx_graph_state.specs.declared.refusal.Refusal.{Refusal}
use Rattle.rsx_graph_state.specs.declared.refusal.Refusal.TheVariants.{UnknownHub, UnknownSub, Ended, Full, TooMany, BadExpr, NotEnabled, NoMemory}

-- the name of a refusal
abbrev pub name_codes : Refusal → List ℕ
name_codes UnknownHub = codes "G1"
name_codes UnknownSub = codes "G2"
name_codes Ended = codes "G3"
name_codes Full = codes "G4"
name_codes TooMany = codes "G5"
name_codes (BadExpr k) = codes "G6"
name_codes NotEnabled = codes "G7"
name_codes NoMemory = codes "G8"
