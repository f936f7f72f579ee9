-- The laws of what answers the lines of an input of expressions and traces.
use Rattle.std.specs.Prelude.{ℕ, ◌<◌, ◌≡◌, ◌⊎◌, List, [], ◌∷◌, length}
use Rattle.std.proofs.Common.{refl, sym, inl, inr}
use Rattle.std.proofs.lemmas.List.{append-nil}
use Rattle.rsx_script.specs.declared.words.LineRefusal.{LineRefusal}
use Rattle.rsx_script.specs.declared.words.LineRefusal.TheVariants.{TooLong, NoMemory}
use Rattle.rsx_drive.specs.declared.judge.InputJudge.{InputJudge}
use Rattle.rsx_drive.specs.declared.judge.Style.{Style}
use Rattle.rsx_drive.specs.Judged.{AreJudgedBy, ExpressionAnswers, IsBadNext, IsRefusedBy, StandsFor}

pub refused : {E : Type 0} (expressions : ExpressionAnswers) (style : Style) (judge : InputJudge E) (lines : List (List ℕ)) (text : List ℕ) (others : List (List ℕ)) (refusal : LineRefusal) → (s : StandsFor expressions style judge lines text) → (refusal ≡ NoMemory) ⊎ IsBadNext s.opening others refusal → IsRefusedBy expressions style lines text others refusal
refused expressions style judge lines text others refusal s bad = record { done = s.done; opening = s.opening; split = s.split; judged = s.judged; bad = bad }

pub line_too_long : {E : Type 0} (expressions : ExpressionAnswers) (style : Style) (judge : InputJudge E) (lines : List (List ℕ)) (text line : List ℕ) (others : List (List ℕ)) → 4096 < length line → StandsFor expressions style judge lines text → IsRefusedBy expressions style lines text (line ∷ others) TooLong
line_too_long expressions style judge lines text line others lt s = refused expressions style judge lines text (line ∷ others) TooLong s (inr (inl (refl, lt)))

pub memory_wanted : {E : Type 0} (expressions : ExpressionAnswers) (style : Style) (judge : InputJudge E) (lines : List (List ℕ)) (text : List ℕ) (others : List (List ℕ)) → StandsFor expressions style judge lines text → IsRefusedBy expressions style lines text others NoMemory
memory_wanted expressions style judge lines text others s = refused expressions style judge lines text others NoMemory s (inl refl)

pub memory_wanted_last : (expressions : ExpressionAnswers) (style : Style) (lines : List (List ℕ)) (text : List ℕ) → AreJudgedBy expressions style lines text → IsRefusedBy expressions style lines text [] NoMemory
memory_wanted_last expressions style lines text judged = record { done = lines; opening = []; split = sym (append-nil lines); judged = judged; bad = inl refl }
