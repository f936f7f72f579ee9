-- A combineLatest at which nothing came in.
use Rattle.std.proofs.Common.{◌≡◌, ℕ, zero, suc, ◌<◌, ◌≤◌, ◌^◌, List, [], ◌∷◌, length, None, option_map, refl, ap, sym, ◌∙◌, arith}
use Rattle.std.proofs.Math.ListN.{replicate}
use Rattle.rsx_sources.specs.Prelude.{Nothing, Picks, Ended, Complete, Stream, signal_then}
use Rattle.rsx_values.specs.Prelude.{numbered, none_yet, combine_until_stop, latest_until_stop, unless_chosen}
use Rattle.rsx_queued.specs.Prelude.{fresh_input, first_output, output_then, inputs_left, tail_of, first_values}
use Rattle.rsx_queued.proofs.Changed.{fresh_left, fresh_counted}
use Rattle.rsx_combining.specs.Latest.{LatestState, GivesLatest, IsLatestCounted}

pub long : {A : Type 0} (n : ℕ) (x : A) → length (replicate n x) ≡ n
long zero x = refl
long (suc n) x = ap suc (long n x)

fresh_none : {T : Type 0} (n : ℕ) (vs : List (Stream T)) → none_yet (first_values n vs) ≡ replicate n None
fresh_none zero vs = refl
fresh_none (suc n) vs = ap (λ l. None ∷ l) (fresh_none n (tail_of vs))

nothing_first : {T : Type 0} (row : List T → T) (cs : List ℕ) → option_map (signal_then {T = T} Complete) (unless_chosen cs) ≡ combine_until_stop row [] cs []
nothing_first row [] = refl
nothing_first row (c ∷ cs) = refl

fresh_output : {T : Type 0} (row : List T → T) (n p : ℕ) (vs : List (Stream T)) (cs : List ℕ) →
    output_then (first_output n) (combine_until_stop row (replicate n None) cs (inputs_left 0 (replicate n (fresh_input p)) vs)) (unless_chosen cs) ≡ latest_until_stop row cs (first_values n vs)
fresh_output row zero p vs cs = nothing_first row cs
fresh_output row (suc n) p vs cs =
    ap (combine_until_stop row (replicate (suc n) None) cs) (fresh_left 0 (suc n) p vs) ∙ ap (λ l. combine_until_stop row l cs (numbered 0 (first_values (suc n) vs))) (sym (fresh_none (suc n) vs))

pub fresh_latest : {T : Type 0} (s : LatestState T) (n p : ℕ) → s.inputs ≡ replicate n (fresh_input p) → s.latest ≡ replicate n None → s.output ≡ first_output n → GivesLatest s n
fresh_latest s n p qs os out m inc Nothing = refl
fresh_latest s n p qs os out m inc (Ended o) = refl
fresh_latest s n p qs os out m inc (Picks cs) = rw (qs, os, out) (fresh_output m.row_of n p (inc.first ∷ inc.others) cs)

pub counted_first : {T : Type 0} (s : LatestState T) (n p : ℕ) → s.inputs ≡ replicate n (fresh_input p) → s.output ≡ first_output n → 1 ≤ p → n < 2 ^ 32 → 1 ≤ n → IsLatestCounted s (replicate n 0) 0
counted_first s zero p qs out h few some = absurd (omega arith)
counted_first {T} s (suc n) p qs out h few some =
    record {
      goes_on = rw out refl;
      some_left = rw qs refl;
      few = let l = ap length qs ∙ long (suc n) (fresh_input p) in omega (arith, l);
      counts = rw qs (fresh_counted T (suc n) p h);
    }
