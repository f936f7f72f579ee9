-- A merge at which nothing came in.
use Rattle.std.proofs.Common.{◌≡◌, ℕ, zero, suc, ◌<◌, ◌≤◌, ◌^◌, false, List, [], ◌∷◌, refl, ap, ◌∙◌, arith}
use Rattle.std.proofs.Math.ListN.{replicate}
use Rattle.std.proofs.lemmas.List.{length-replicate}
use Rattle.rsx_sources.specs.Prelude.{Note, Stream, Incoming}
use Rattle.rsx_queued.proofs.Changed.{fresh_left, fresh_counted}
use Rattle.rsx_queued.specs.declared.input.QueuedInput.{QueuedInput}
use Rattle.rsx_queued.specs.declared.output.Output.{Output}
use Rattle.rsx_queued.specs.Prelude.{fresh_input, first_output, is_over, output_then, first_values, inputs_left, are_gone, picked, picked_same}
use Rattle.rsx_values.proofs.OneChoice.{done_stays}
use Rattle.rsx_values.specs.Merge.{merge, merge_inputs}
use Rattle.rsx_merging.specs.Merge.{merge_of, IsGoing}

first_then : {T : Type 0} (n : ℕ) (vs : List (Stream T)) (cs : List ℕ) → output_then (first_output n) (merge cs (first_values n vs)) (merge_inputs cs []) ≡ merge cs (first_values n vs)
first_then zero vs cs = done_stays cs
first_then (suc n) vs cs = refl

pub fresh_merge : {T : Type 0} (out : Output T) (qs : List (QueuedInput T)) (n p : ℕ) → out ≡ first_output n → qs ≡ replicate n (fresh_input p) →
    (inc : Incoming T) (further : Note) → merge_of out qs inc further ≡ picked further (λ cs. merge cs (first_values n (inc.first ∷ inc.others)))
fresh_merge {T} out qs n p first all inc further =
    let vs = inc.first ∷ inc.others in
    rw (first, all) (picked_same further (λ cs. output_then (first_output n) (merge_inputs cs (inputs_left 0 (replicate n (fresh_input p)) vs)) (merge_inputs cs [])) (λ cs. merge cs (first_values n vs))
    (λ cs. ap (λ is. output_then (first_output n) (merge_inputs cs is) (merge_inputs cs [])) (fresh_left 0 n p vs) ∙ first_then n vs cs))

some_fresh : (T : Type 0) (n p : ℕ) → 1 ≤ n → are_gone (replicate n (fresh_input {T = T} p)) ≡ false
some_fresh T zero p h = absurd (omega arith)
some_fresh T (suc n) p h = refl

not_over : (T : Type 0) (n : ℕ) → is_over (first_output {T = T} n) ≡ false
not_over T zero = refl
not_over T (suc n) = refl

pub fresh_going : {T : Type 0} (out : Output T) (qs : List (QueuedInput T)) (n p : ℕ) → out ≡ first_output n → qs ≡ replicate n (fresh_input p) → 1 ≤ n → n < 2 ^ 32 → 1 ≤ p → IsGoing out qs (replicate n 0)
fresh_going {T} out qs n p first all some lt h = rw (first, all) (record {
  not_over = not_over T n;
  some_left = some_fresh T n p some;
  few = rw length-replicate (omega arith);
  counts = fresh_counted T n p h;
})
