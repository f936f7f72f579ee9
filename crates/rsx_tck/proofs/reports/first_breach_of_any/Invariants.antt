use Rattle.std.proofs.Common.{ℕ, ◌<◌, ◌≤◌, suc, take, length}
use Rattle.rsx_tck.specs.Passes.{KeepsThrough, IsJudged}
use Rattle.rsx_tck.proofs.Subscribers.{numbers_left}
use Rattle.rsx_tck.proofs.reports.first_breach_of_any.Given as goal

-- `end` is the first breach of the subscribers judged so far, or the trace's length
abbrev pub invariant-loop-next : goal.invariant-loop-next
invariant-loop-next g l = record {
  within : l.end ≤ length l.trace;
  broken : l.end < length l.trace → (s : ℕ) × (¬ g.P.Pass.keeps s (take (suc l.end) l.trace));
  through : (s : ℕ) → IsJudged l.next s → KeepsThrough (g.P.Pass.keeps s) l.trace l.end;
}

abbrev pub decreases-loop-next : goal.decreases-loop-next
decreases-loop-next g l = numbers_left l.next
