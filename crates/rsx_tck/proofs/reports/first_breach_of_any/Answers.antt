use Rattle.std.proofs.Common.{◌≡◌, ℕ, suc, ◌+◌, ◌^◌, ◌<◌, ◌≤◌, length, take, min, subst, sym, ap, ◌∙◌, arith}
use Rattle.std.specs.Prelude.{unwrap_or}
use Rattle.rsx_tck.specs.Passes.{BeginsAt, IsJudged, KeepsThrough}
use Rattle.rsx_tck.proofs.Subscribers.{all_judged, judged-none, judged-more, numbers_left-smaller}
use Rattle.rsx_tck.proofs.reports.first_breach_of_any.Goals as goal

pub loop-next-init : goal.loop-next-init
loop-next-init g c = record {
  within = omega arith;
  broken = λ lt. absurd (omega arith);
  through = judged-none g.P.Pass.keeps g.met.P.Pass.kept_at_first g.met.P.Pass.keeps_on c.args.trace.now
      c.next_subscriber-next.result c.next_subscriber-next.ensures;
}

pub loop-next-preserved : goal.loop-next-preserved
loop-next-preserved g c =
    let keeps = g.P.Pass.keeps in
    let t = c.args.trace.now in
    let invariant = c.loop-next.invariant in
    let more = judged-more keeps g.met.P.Pass.kept_at_first g.met.P.Pass.keeps_on t c.in-Some.subscriber c.loop-next.end
    c.first_breach.result c.loop-next.next c.next_subscriber-next-in-Some.result c.in-Some.is
    (subst (λ n. BeginsAt t (n + 1) c.next_subscriber-next-in-Some.result) c.from.ensures c.next_subscriber-next-in-Some.ensures)
    c.first_breach.ensures invariant.within invariant.broken invariant.through in
    let is : min c.loop-next.end (unwrap_or c.first_breach.result c.loop-next.end) ≡ c.min-end.result =
    ap (λ n. min c.loop-next.end n) (sym c.unwrap_or.ensures) ∙ sym c.min-end.ensures in
    let moved = subst (λ end. (end ≤ length t)
    × (end < length t → (s : ℕ) × (¬ keeps s (take (suc end) t)))
    × ((s : ℕ) → IsJudged c.next_subscriber-next-in-Some.result s → KeepsThrough (keeps s) t end)) is more in
    record { within = moved.0; broken = moved.1; through = moved.2 }

pub returns-then-end-trace : goal.returns-then-end-trace
returns-then-end-trace g c =
    let invariant = c.loop-next.invariant in (
      omega arith,
      (λ kept. let broken = invariant.broken (omega arith) in broken.1 (kept broken.0)),
      (λ j lt s. invariant.through s (all_judged c.loop-next.next s c.in_default.is) j lt),
    )

pub returns-else-end-trace : goal.returns-else-end-trace
returns-else-end-trace g c = λ j lt s. c.loop-next.invariant.through s (all_judged c.loop-next.next s c.in_default.is) j (omega arith)

pub loop-next-smaller : goal.loop-next-smaller
loop-next-smaller g c =
    numbers_left-smaller c.args.trace.now c.in-Some.subscriber c.loop-next.next c.next_subscriber-next-in-Some.result c.in-Some.is
    (subst (λ n. n < 2 ^ 64) c.from.ensures c.from.type_inv)
    (subst (λ n. BeginsAt c.args.trace.now (n + 1) c.next_subscriber-next-in-Some.result) c.from.ensures
    c.next_subscriber-next-in-Some.ensures)
