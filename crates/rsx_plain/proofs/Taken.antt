-- The first items, one at a time.
use Rattle.std.proofs.Common.{◌≡◌, ℕ, zero, suc, ◌-◌, List, [], ◌∷◌, refl, sym, ap, ◌∙◌, arith}
use Rattle.rsx_sources.specs.Prelude.{Ending, taken_items, Signal, Next, Complete, Stream, ended_by, item_then, signals_then}

-- an ending comes through while some are left
pub taken_ended : {T : Type 0} (n : ℕ) (xs : List T) (e : Ending) → (n ≡ 0 → ⊥) → xs ≡ [] → taken_items n xs e ≡ ended_by e
taken_ended zero xs e h p = absurd (h refl)
taken_ended (suc n) [] e h p = refl
taken_ended (suc n) (x ∷ xs) e h p = cc

-- one item of those that are left comes out
one_taken : {T : Type 0} (n : ℕ) (x : T) (v : Stream T) → (n ≡ 0 → ⊥) → taken_items n (x ∷ v.items) v.ending ≡ item_then x (taken_items (n - 1) v.items v.ending)
one_taken zero x v h = absurd (h refl)
one_taken (suc n) x v h = let e : suc n - 1 ≡ n = omega arith in rw e refl

-- the last item comes out, and the completion
pub last_taken : {T : Type 0} (n : ℕ) (x : T) (slot : List (Signal T)) → (n ≡ 0 → ⊥) → n - 1 ≡ 0 → slot ≡ Next x ∷ Complete ∷ [] → (v : Stream T) → taken_items n (x ∷ v.items) v.ending ≡ signals_then slot (taken_items (n - 1) v.items v.ending)
last_taken n x slot h z s v =
    one_taken n x v h ∙ ap (λ j. item_then x (taken_items j v.items v.ending)) z ∙ ap (λ l. signals_then l (taken_items (n - 1) v.items v.ending)) (sym s)

-- an item comes out, and more are left
pub next_taken : {T : Type 0} (n : ℕ) (x : T) (slot : List (Signal T)) → (n ≡ 0 → ⊥) → slot ≡ Next x ∷ [] → (v : Stream T) → taken_items n (x ∷ v.items) v.ending ≡ signals_then slot (taken_items (n - 1) v.items v.ending)
next_taken n x slot h s v = one_taken n x v h ∙ ap (λ l. signals_then l (taken_items (n - 1) v.items v.ending)) (sym s)
