-- A merge that delays failures at which nothing came in.
use Rattle.std.proofs.Common.{◌≡◌, ℕ, zero, suc, List, [], ◌∷◌, Option, None, refl, ap, ◌∙◌}
use Rattle.std.proofs.Math.ListN.{replicate}
use Rattle.rsx_sources.specs.Prelude.{Note, Stream, Incoming}
use Rattle.rsx_queued.proofs.Changed.{fresh_left}
use Rattle.rsx_queued.specs.declared.input.QueuedInput.{QueuedInput}
use Rattle.rsx_queued.specs.declared.output.Output.{Output}
use Rattle.rsx_queued.specs.Prelude.{fresh_input, first_output, output_then, first_values, inputs_left, picked, picked_same}
use Rattle.rsx_values.specs.Delayed.{merge_delay, merge_delayed_inputs}
use Rattle.rsx_delayed.specs.MergeDelay.{delayed_of}

-- one of no inputs completes, and nothing can be chosen
none_then : {T : Type 0} (cs : List ℕ) (o : Option (Stream T)) → output_then (first_output 0) o (merge_delayed_inputs None cs []) ≡ merge_delayed_inputs None cs []
none_then [] o = refl
none_then (c ∷ cs) o = refl

first_then : {T : Type 0} (n : ℕ) (vs : List (Stream T)) (cs : List ℕ) → output_then (first_output n) (merge_delay cs (first_values n vs)) (merge_delayed_inputs None cs []) ≡ merge_delay cs (first_values n vs)
first_then zero vs cs = none_then cs (merge_delay cs (first_values 0 vs))
first_then (suc n) vs cs = refl

pub fresh_merge : {T : Type 0} (out : Output T) (qs : List (QueuedInput T)) (n p : ℕ) → out ≡ first_output n → qs ≡ replicate n (fresh_input p) →
    (inc : Incoming T) (further : Note) → delayed_of out None qs inc further ≡ picked further (λ cs. merge_delay cs (first_values n (inc.first ∷ inc.others)))
fresh_merge {T} out qs n p first all inc further =
    let vs = inc.first ∷ inc.others in
    rw (first, all) (picked_same further (λ cs. output_then (first_output n) (merge_delayed_inputs None cs (inputs_left 0 (replicate n (fresh_input p)) vs)) (merge_delayed_inputs None cs [])) (λ cs. merge_delay cs (first_values n vs))
    (λ cs. ap (λ is. output_then (first_output n) (merge_delayed_inputs None cs is) (merge_delayed_inputs None cs [])) (fresh_left 0 n p vs) ∙ first_then n vs cs))
