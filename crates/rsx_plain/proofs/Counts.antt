-- How many items an operator puts out: what its moves say, counted.
use Rattle.std.proofs.Common.{◌≡◌, Bool, true, false, List, refl, sym, ◌∙◌, subst}
use Rattle.rsx_sources.specs.Prelude.{Meaning, ended_by, signals_then, Ending, Open, Done, Failed, Signal, Next, Complete, Error}
use Rattle.rsx_plain.specs.Moves.{Moves, has_ending}
use Rattle.rsx_plain.specs.State.{plain_from, after_signal, after_ending, is_over, Counts}
use Rattle.rsx_plain.specs.Operators.{gives, keeps_ending, over_after, counts_item}
use Rattle.rsx_plain.specs.declared.state.PlainState.{PlainState}

-- an ending that went in
ends : {T : Type 0} (m : Meaning T) (old : PlainState T) (e : Ending) (out : List (Signal T)) → (e ≡ Open → ⊥) → plain_from m old (ended_by e) ≡ signals_then out (plain_from m (after_ending old) (ended_by Open)) →
    (is_over (after_ending old) ≡ true → has_ending out ≡ true) → has_ending out ≡ true
ends {T} m old e out n v over = by_open (has_ending out) refl
  where
    by_over : (b : Bool) → is_over (after_ending old) ≡ b → has_ending out ≡ false → ⊥
    by_over true o h = let t = over o in cc
    by_over false o h =
        let g = gives _ _ out v h in
        n (sym (keeps_ending m old e (sym (over_after old) ∙ o)) ∙ (g.ending ∙ keeps_ending m (after_ending old) Open o))

    by_open : (b : Bool) → has_ending out ≡ b → has_ending out ≡ true
    by_open true h = h
    by_open false h = absurd (by_over (is_over (after_ending old)) refl h)

pub counts : {T : Type 0} (m : Meaning T) (old new : PlainState T) (s : Signal T) (out : List (Signal T)) → Moves (plain_from m) old s out new → new ≡ after_signal m old s → (is_over new ≡ true → has_ending out ≡ true) → Counts old s out new
counts {T} m old new s out v e over =
    let P : PlainState T → Type 0 = λ n. Counts old s out n in
    let M : PlainState T → Type 0 = λ n. Moves (plain_from m) old s out n in
    let O : PlainState T → Type 0 = λ n. is_over n ≡ true → has_ending out ≡ true in
    subst P (sym e) (after s (subst M e v) (subst O e over))
  where
    after : (s : Signal T) → Moves (plain_from m) old s out (after_signal m old s) → (is_over (after_signal m old s) ≡ true → has_ending out ≡ true) → Counts old s out (after_signal m old s)
    after (Next x) v o = counts_item m old x out v o
    after Complete v o = ends m old Done out (λ q. cc) (v (ended_by Open)) o
    after (Error c) v o = ends m old (Failed c) out (λ q. cc) (v (ended_by Open)) o
