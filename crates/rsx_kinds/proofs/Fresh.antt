-- A node of several inputs at which nothing came in: what it asks of an input, and that it goes on.
use Rattle.std.proofs.Common.{◌≡◌, false, ℕ, zero, suc, ◌<◌, ◌≤◌, List, slice_get, ap, ◌∙◌, arith}
use Rattle.std.proofs.Math.ListN.{replicate}
use Rattle.rsx_prefetch.proofs.Batches.{whole_capacity}
use Rattle.rsx_prefetch.specs.declared.TheConstants.{LARGEST}
use Rattle.rsx_queued.specs.declared.input.QueuedInput.{QueuedInput}
use Rattle.rsx_queued.specs.declared.output.Output.{Output}
use Rattle.rsx_queued.specs.Prelude.{first_output, has_ending, fresh_input, credits_at}

credits_there : (T : Type 0) (n p i : ℕ) → p ≤ LARGEST → i < n → credits_at (slice_get (replicate n (fresh_input {T = T} p)) i) ≡ p
credits_there T zero p i le lt = absurd (omega arith)
credits_there T (suc n) p zero le lt = whole_capacity p le
credits_there T (suc n) p (suc i) le lt = credits_there T n p i le (omega arith)

-- an empty queue lets as many items be asked for as it can hold
pub asks : {T : Type 0} (qs : List (QueuedInput T)) (n p : ℕ) → p ≤ LARGEST → qs ≡ replicate n (fresh_input p) → (i : ℕ) → i < n → credits_at (slice_get qs i) ≡ p
asks {T} qs n p le all i lt = ap (λ l. credits_at (slice_get l i)) all ∙ credits_there T n p i le lt

-- with some inputs it has put out no ending
pub goes_on_first : {T : Type 0} (out : Output T) (n : ℕ) → out ≡ first_output n → 1 ≤ n → has_ending out ≡ false
goes_on_first out zero is some = absurd (omega arith)
goes_on_first out (suc n) is some = ap has_ending is
