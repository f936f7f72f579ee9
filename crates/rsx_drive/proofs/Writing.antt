-- What a writer holds after several writes.
use Rattle.std.proofs.Common.{◌≡◌, ℕ, suc, ◌+◌, ◌-◌, ◌<◌, List, [], ◌∷◌, ◌++◌, length, take, drop, get_or, Option, sym, ap, subst, ◌∙◌, append_assoc, arith}
use Rattle.std.specs.Io.KnownBytes.{Appends}
use Rattle.std.proofs.Math.Seq.{take-add, take-suc, split_at}
use Rattle.std.proofs.lemmas.List.{length-drop, take-append-drop, take_all}
use Rattle.std.proofs.KnownBytes.{Appends-trans}
use Rattle.rsx_drive.specs.Answered.{Begins, Writes}

-- ---- bytes taken one by one

pub one_more : (taken bytes : List ℕ) (i : ℕ) → i < length bytes → (taken ++ take i bytes) ++ get_or bytes i 0 ∷ [] ≡ taken ++ take (i + 1) bytes
one_more taken bytes i lt =
    let n : i + 1 ≡ suc i = omega arith in
    append_assoc taken (take i bytes) (get_or bytes i 0 ∷ []) ∙ ap (λ (xs : List ℕ). taken ++ xs) (sym (ap (λ (k : ℕ). take k bytes) n ∙ take-suc bytes i 0 lt))

pub whole_again : (taken bytes more : List ℕ) (i : ℕ) → i < length bytes → (taken ++ take i bytes) ++ get_or bytes i 0 ∷ (drop (suc i) bytes ++ more) ≡ (taken ++ bytes) ++ more
whole_again taken bytes more i lt =
    append_assoc taken (take i bytes) (get_or bytes i 0 ∷ (drop (suc i) bytes ++ more))
    ∙ ap (λ (xs : List ℕ). taken ++ xs) (sym (append_assoc (take i bytes) (get_or bytes i 0 ∷ drop (suc i) bytes) more))
    ∙ ap (λ (xs : List ℕ). taken ++ (xs ++ more)) (sym (split_at bytes i 0 lt))
    ∙ sym (append_assoc taken bytes more)

-- ---- a text written in several writes

-- so many bytes were written
pub begun : (a b : Option (List ℕ)) (bytes : List ℕ) (n : ℕ) → Appends a b (take n bytes) → Writes a b (λ text. Begins text bytes)
begun a b bytes n h = (take n bytes, h, (drop n bytes, sym (take-append-drop n bytes)))

-- so many more were written, of those behind them
pub further : (a b c : Option (List ℕ)) (bytes : List ℕ) (n m : ℕ) → Appends a b (take n bytes) → Appends b c (take m (take (length bytes - n) (drop n bytes))) → Appends a c (take (n + m) bytes)
further a b c bytes n m h k =
    let rest : take (length bytes - n) (drop n bytes) ≡ drop n bytes = take_all (length bytes - n) (drop n bytes) (omega (arith, length-drop n bytes)) in
    let all : take n bytes ++ take m (take (length bytes - n) (drop n bytes)) ≡ take (n + m) bytes = ap (λ (xs : List ℕ). take n bytes ++ take m xs) rest ∙ sym (take-add n m bytes) in
    subst (λ (xs : List ℕ). Appends a c xs) all (Appends-trans a b c (take n bytes) (take m (take (length bytes - n) (drop n bytes))) h k)
