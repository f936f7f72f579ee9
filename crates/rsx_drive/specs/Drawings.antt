-- Inputs of expressions that are drawn.
use Rattle.std.specs.Prelude.{◌≡◌, ℕ, ◌<◌, ◌⊎◌, List, [], ◌∷◌, ◌++◌, length, Ok, Err}
use Rattle.std.proofs.Common.{refl, inl, inr}
use Rattle.rsx_script.specs.declared.words.LineRefusal.{LineRefusal}
use Rattle.rsx_script.specs.declared.words.LineRefusal.TheVariants.{TooLong, NoMemory}
use Rattle.rsx_script.specs.Commands.{expression_of_line}
use Rattle.rsx_script.specs.Orders.{Tree}
use Rattle.rsx_drive.specs.Drawn.{drawn_text}
use Rattle.rsx_drive.specs.Judged.{IsBlank}

-- a line with its answer: a blank one, which has none, or the drawing of the expression that it is
abbrev pub IsDrawn : List ℕ → List ℕ → Type 0
IsDrawn line text = (IsBlank line × (text ≡ [])) ⊎ ((t : Tree) × (expression_of_line line ≡ Ok t) × (text ≡ drawn_text t))

-- the answers to these lines, one after the other
abbrev pub AreDrawn : List (List ℕ) → List ℕ → Type 0
AreDrawn [] text = text ≡ []
AreDrawn (line ∷ lines) text = (first : List ℕ) × (rest : List ℕ) × IsDrawn line first × AreDrawn lines rest × (text ≡ first ++ rest)

-- why a line has no answer: memory is wanted, it is longer than 4,096 bytes, or it isn't blank and is no expression
abbrev pub IsUndrawn : List ℕ → LineRefusal → Type 0
IsUndrawn line refusal =
    (refusal ≡ NoMemory)
    ⊎ (((refusal ≡ TooLong) × (4096 < length line))
    ⊎ (¬ IsBlank line × (expression_of_line line ≡ Err refusal)))

-- the same of the first of these lines; memory may be wanted behind the last one too
abbrev pub IsFirstUndrawn : List (List ℕ) → LineRefusal → Type 0
IsFirstUndrawn [] refusal = refusal ≡ NoMemory
IsFirstUndrawn (line ∷ others) refusal = IsUndrawn line refusal

-- After these lines, which were answered by this text, the first of the others has no answer, for this reason.
pub record IsDrawingStopped (lines : List (List ℕ)) (text : List ℕ) (others : List (List ℕ)) (refusal : LineRefusal) : Type 0 where
  pub done : AreDrawn lines text
  pub bad : IsFirstUndrawn others refusal

-- ---- what such answers keep

pub line_too_long : (lines : List (List ℕ)) (text line : List ℕ) (others : List (List ℕ)) → 4096 < length line → AreDrawn lines text → IsDrawingStopped lines text (line ∷ others) TooLong
line_too_long lines text line others lt done = record { done = done; bad = inr (inl (refl, lt)) }

wanted : (others : List (List ℕ)) → IsFirstUndrawn others NoMemory
wanted [] = refl
wanted (line ∷ others) = inl refl

pub memory_wanted : (lines : List (List ℕ)) (text : List ℕ) (others : List (List ℕ)) → AreDrawn lines text → IsDrawingStopped lines text others NoMemory
memory_wanted lines text others done = record { done = done; bad = wanted others }

pub memory_wanted_last : (lines : List (List ℕ)) (text : List ℕ) → AreDrawn lines text → IsDrawingStopped lines text [] NoMemory
memory_wanted_last lines text done = record { done = done; bad = refl }
