-- The first window of an input.
use Rattle.std.proofs.Common.{◌≡◌, ℕ, zero, suc, ◌+◌, ◌-◌, nat_le, true, false, List, [], ◌∷◌, ◌++◌, drop, length, refl, ap, ◌∙◌, arith, append_assoc, length-append}
use Rattle.std.proofs.lemmas.Bool.Decides.{nat_tests}
use Rattle.std.proofs.Math.Seq.{drop-nil}
use Rattle.rsx_sources.specs.Prelude.{Ending, Open, Done, Failed, Stage, Meaning, chained, taken_items, Stream, ended_by, item_then, items_then}
use Rattle.rsx_values.specs.Prelude.{value_then, concat, window, windows, last_window, windows_and_main}
use Rattle.rsx_window.specs.Cut.{window_rest, behind}

full_with : (n s : ℕ) → n - 1 ≡ s + 0 → nat_le n (s + 1) ≡ true
full_with n s h = grind (arith, nat_tests)

not_full_with : (n s j : ℕ) → n - 1 ≡ s + suc j → nat_le n (s + 1) ≡ false
not_full_with n s j h = grind (arith, nat_tests)

last_one : {T : Type 0} (started : List T) (x : T) (e : Ending) → last_window (started ++ x ∷ []) e ≡ (record { items = started ++ x ∷ []; ending = e }) ∷ []
last_one [] x e = refl
last_one (y ∷ ys) x e = refl

regroup : {T : Type 0} (started : List T) (x : T) (w : Stream T) → items_then (started ++ x ∷ []) w ≡ items_then started (item_then x w)
regroup started x w = ap (λ l. record { items = l; ending = w.ending }) (append_assoc started (x ∷ []) w.items)

-- where k more items behind the next one fill the window that is started
first_window : {T : Type 0} (n k : ℕ) (started : List T) (x : T) (xs : List T) (e : Ending) → n - 1 ≡ length started + k →
    windows n started (x ∷ xs) e ≡ items_then started (taken_items (suc k) (x ∷ xs) e) ∷ windows n [] (drop k xs) e
first_window n zero started x xs e h = rw (full_with n (length started) h) refl
first_window n (suc j) started x [] e h = rw (not_full_with n (length started) j h) (last_one started x e)
first_window n (suc j) started x (y ∷ ys) e h =
    let next : n - 1 ≡ length (started ++ x ∷ []) + j = omega (arith, h, length-append started (x ∷ [])) in
    rw (not_full_with n (length started) j h) (first_window n j (started ++ x ∷ []) y ys e next ∙ ap (λ w. w ∷ windows n [] (drop j ys) e) (regroup started x (taken_items (suc j) (y ∷ ys) e)))

-- the first window's chain, and behind its completion the others
pub window_first : {T : Type 0} (m : Meaning T) (n : ℕ) (gs : List (Stage T)) (x : T) (v : Stream T) →
    window m n gs (item_then x v) ≡ value_then (chained m gs (window_rest (suc (n - 1)) (item_then x v))) (window m n gs (behind (n - 1) v))
window_first m n gs x v = ap (λ ws. concat (windows_and_main (chained m gs) ws v.ending)) (first_window n (n - 1) [] x v.items v.ending (omega arith))

window_ended : {T : Type 0} (m : Meaning T) (n : ℕ) (gs : List (Stage T)) (e : Ending) → window m n gs (ended_by e) ≡ ended_by e
window_ended m n gs Open = refl
window_ended m n gs Done = refl
window_ended m n gs (Failed c) = refl

-- no window is empty
pub nothing_behind : {T : Type 0} (m : Meaning T) (n k : ℕ) (gs : List (Stage T)) (e : Ending) → window m n gs (behind k (ended_by e)) ≡ ended_by e
nothing_behind m n k gs e = ap (λ l. window m n gs (record { items = l; ending = e })) (drop-nil k) ∙ window_ended m n gs e
