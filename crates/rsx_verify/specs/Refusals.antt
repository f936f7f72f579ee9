-- Why an expression isn't run.
use Rattle.std.specs.Prelude.{◌≡◌, ℕ, List, Some, None, codes}
use Rattle.rsx_subscriber.specs.Prelude.{refusal, Expr}
use Rattle.rsx_graph_state.specs.declared.refusal.Refusal.{Refusal}
use Rattle.rsx_graph_state.specs.declared.refusal.Refusal.TheVariants as graph
use Rattle.rsx_verify.specs.declared.refusal.VerifyRefusal.{VerifyRefusal}
use Rattle.rsx_verify.specs.declared.refusal.VerifyRefusal.TheVariants.{BadExpr, NoMemory}

-- a bad expression, or one that reads a hub, comes first, and want of memory last
abbrev pub IsVerifyRefusal : {T : Type 0} → Expr T → VerifyRefusal → Type 0
IsVerifyRefusal e (BadExpr k) = refusal 0 e ≡ Some k
IsVerifyRefusal e NoMemory = refusal 0 e ≡ None

-- the names of the refusals
abbrev pub refusal_name : VerifyRefusal → List ℕ
refusal_name (BadExpr k) = codes "M1"
refusal_name NoMemory = codes "M3"

-- what a refusal of a graph with one subscription and no hub stands for
abbrev pub refusal_of : Refusal → VerifyRefusal
refusal_of (graph.BadExpr k) = BadExpr k
refusal_of graph.UnknownHub = NoMemory
refusal_of graph.UnknownSub = NoMemory
refusal_of graph.Ended = NoMemory
refusal_of graph.Full = NoMemory
refusal_of graph.TooMany = NoMemory
refusal_of graph.NotEnabled = NoMemory
refusal_of graph.NoMemory = NoMemory
