-- The text of what the nodes of a tree do, node by node.
use Rattle.std.proofs.Common.{◌≡◌, ℕ, zero, suc, ◌+◌, List, [], ◌∷◌, ◌++◌, take, slice_get, Some, sym, ap, ◌∙◌, append_assoc, arith}
use Rattle.std.proofs.lemmas.List.{append-nil}
use Rattle.rsx_waits.specs.declared.look.NodeLook.{NodeLook}
use Rattle.rsx_waits.specs.Looks.{look_text, looks_text}

looks_next : (n k : ℕ) (ns : List NodeLook) (d : NodeLook) → slice_get ns k ≡ Some d → looks_text n (take (suc k) ns) ≡ looks_text n (take k ns) ++ look_text (n + k) d
looks_next n zero [] d e = cc
looks_next n zero (x ∷ ns) d e =
    let same : x ≡ d = cc in
    let here : n ≡ n + 0 = omega arith in
    append-nil (look_text n x) ∙ (ap (look_text n) same ∙ ap (λ i. look_text i d) here)
looks_next n (suc k) [] d e = cc
looks_next n (suc k) (x ∷ ns) d e =
    let there : (n + 1) + k ≡ n + suc k = omega arith in
    ap (λ l. look_text n x ++ l) (looks_next (n + 1) k ns d e ∙ ap (λ i. looks_text (n + 1) (take k ns) ++ look_text i d) there)
    ∙ sym (append_assoc (look_text n x) (looks_text (n + 1) (take k ns)) (look_text (n + suc k) d))

-- one node more
pub looks_more : (k : ℕ) (ns : List NodeLook) (d : NodeLook) → slice_get ns k ≡ Some d → looks_text 0 (take k ns) ++ look_text k d ≡ looks_text 0 (take (k + 1) ns)
looks_more k ns d e =
    let next : suc k ≡ k + 1 = omega arith in
    let here : 0 + k ≡ k = omega arith in
    ap (λ i. looks_text 0 (take k ns) ++ look_text i d) (sym here) ∙ (sym (looks_next 0 k ns d e) ∙ ap (λ i. looks_text 0 (take i ns)) next)
