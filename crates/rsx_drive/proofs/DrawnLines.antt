-- A line more that is drawn.
use Rattle.std.proofs.Common.{ℕ, List, [], ◌∷◌, ◌++◌, Result, Ok, Err, refl, sym, ap, ◌∙◌, append_assoc}
use Rattle.std.specs.Prelude.{OnOk}
use Rattle.std.proofs.lemmas.List.{append-nil}
use Rattle.rsx_drive.specs.Answered.{Grows}
use Rattle.rsx_drive.specs.Drawings.{AreDrawn, IsDrawn}

drawn_more : (lines : List (List ℕ)) (text line more : List ℕ) → AreDrawn lines text → IsDrawn line more → AreDrawn (lines ++ line ∷ []) (text ++ more)
drawn_more [] text line more h d = (more, [], d, refl, ap (λ t. t ++ more) h ∙ sym (append-nil more))
drawn_more (l ∷ ls) text line more h d = (h.0, h.1 ++ more, h.2, drawn_more ls h.1 line more h.3 d, ap (λ t. t ++ more) h.4 ∙ append_assoc h.0 h.1 more)

pub drawn_on : {X E : Type 0} (r : Result X E) (line old new : List ℕ) → OnOk r (Grows old new (λ more. IsDrawn line more))
    → OnOk r ((lines : List (List ℕ)) (text : List ℕ) → AreDrawn lines text → Grows old new (λ more. AreDrawn (lines ++ line ∷ []) (text ++ more)))
drawn_on (Ok x) line old new h = λ lines text s. (h.0, h.1, drawn_more lines text line h.0 s h.2)
drawn_on (Err x) line old new h = h
