-- What the slow evaluator answers.
use Rattle.std.specs.Prelude.{◌≡◌, ⊤, ℕ, List, [], ◌∷◌, length, Option, option_and_then, Some, None, Result, Ok, Err, Vec, codes}
use Rattle.std.specs.Global.{Global}
use Rattle.rsx_types.specs.Stream.{Stream}
use Rattle.rsx_model.specs.declared.expr.Expr.{Expr}
use Rattle.rsx_model.specs.declared.evaluate.Trouble.{Trouble}
use Rattle.rsx_model.specs.declared.evaluate.Trouble.TheVariants as trouble
use Rattle.rsx_model.specs.declared.evaluate.ScratchRefusal.{ScratchRefusal}
use Rattle.rsx_model.specs.declared.evaluate.ScratchRefusal.TheVariants.{BadExpr, BadNotes, NoMemory}
use Rattle.rsx_model.specs.Shape.{nodes, leaves}
use Rattle.rsx_model.specs.Check.{refusal}
use Rattle.rsx_model.specs.Eval.{Environment, eval}
use Rattle.rsx_model.specs.Kinds.{AreNoted}

-- the name of a refusal
abbrev pub name_codes : ScratchRefusal → List ℕ
name_codes (BadExpr k) = codes "M1"
name_codes BadNotes = codes "M2"
name_codes NoMemory = codes "M3"

-- as many notes as nodes, and as many joins as hub leaves
abbrev pub IsComplete : {T : Type 0} → Environment T → Expr T → Type 0
IsComplete w e = (length w.notes ≡ nodes e) × (length w.joins ≡ leaves e)

-- the expression's value; or M1 with the kind where it is refused, M2 where the notes or joins don't fit it, and M3 only
-- where there are as many of them as there should be, and each note is of its node's kind
abbrev pub IsScratch : {T : Type 0} → Environment T → Expr T → Result (Stream T) ScratchRefusal → Type 0
IsScratch w e (Ok s) = (refusal (length w.hubs) e ≡ None) × IsComplete w e × (eval w e ≡ Some s)
IsScratch w e (Err (BadExpr k)) = refusal (length w.hubs) e ≡ Some k
IsScratch w e (Err BadNotes) = (refusal (length w.hubs) e ≡ None) × (IsComplete w e → eval w e ≡ None)
IsScratch w e (Err NoMemory) = (refusal (length w.hubs) e ≡ None) × IsComplete w e × AreNoted e w.notes

-- the answer for a subtree: its value; or that there is none; or want of memory
abbrev pub Gives : {T : Type 0} → Result (Stream T) Trouble → Option (Stream T) → Type 0
Gives (Ok s) o = o ≡ Some s
Gives (Err trouble.BadNotes) o = o ≡ None
Gives (Err trouble.OutOfMemory) o = ⊤

-- the answer for subtrees that stand side by side: their values; or that one has none; or want of memory
abbrev pub GivesAll : {T : Type 0} → Result (Vec (Stream T) Global) Trouble → Option (List (Stream T)) → Type 0
GivesAll (Ok vs) o = o ≡ Some vs.items
GivesAll (Err trouble.BadNotes) o = o ≡ None
GivesAll (Err trouble.OutOfMemory) o = ⊤

-- the values of an only child
abbrev pub alone : {T : Type 0} → Option (Stream T) → Option (List (Stream T))
alone o = option_and_then (λ s. Some (s ∷ [])) o
