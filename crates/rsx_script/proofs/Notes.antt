-- The text of what the nodes of a tree recorded, node by node.
use Rattle.std.proofs.Common.{◌≡◌, ℕ, zero, suc, ◌+◌, List, [], ◌∷◌, ◌++◌, take, slice_get, Some, sym, ap, ◌∙◌, append_assoc, arith}
use Rattle.std.proofs.lemmas.List.{append-nil}
use Rattle.rsx_types.specs.declared.note.Note.{Note}
use Rattle.rsx_script.specs.Answers.{note_text, notes_text}

notes_next : (n k : ℕ) (ns : List Note) (d : Note) → slice_get ns k ≡ Some d → notes_text n (take (suc k) ns) ≡ notes_text n (take k ns) ++ note_text (n + k) d
notes_next n zero [] d e = cc
notes_next n zero (x ∷ ns) d e =
    let same : x ≡ d = cc in
    let here : n ≡ n + 0 = omega arith in
    append-nil (note_text n x) ∙ (ap (note_text n) same ∙ ap (λ i. note_text i d) here)
notes_next n (suc k) [] d e = cc
notes_next n (suc k) (x ∷ ns) d e =
    let there : (n + 1) + k ≡ n + suc k = omega arith in
    ap (λ l. note_text n x ++ l) (notes_next (n + 1) k ns d e ∙ ap (λ i. notes_text (n + 1) (take k ns) ++ note_text i d) there)
    ∙ sym (append_assoc (note_text n x) (notes_text (n + 1) (take k ns)) (note_text (n + suc k) d))

-- one node more
pub notes_more : (k : ℕ) (ns : List Note) (d : Note) → slice_get ns k ≡ Some d → notes_text 0 (take k ns) ++ note_text k d ≡ notes_text 0 (take (k + 1) ns)
notes_more k ns d e =
    let next : suc k ≡ k + 1 = omega arith in
    let here : 0 + k ≡ k = omega arith in
    ap (λ i. notes_text 0 (take k ns) ++ note_text i d) (sym here) ∙ (sym (notes_next 0 k ns d e) ∙ ap (λ i. notes_text 0 (take i ns)) next)
