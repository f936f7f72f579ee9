use Rattle.std.proofs.Common.{◌≡◌, ◌+◌, Some, sym, ap, ◌∙◌, arith}
use Rattle.rsx_live_parts.specs.Cutting.{one_of}
use Rattle.rsx_live_parts.proofs.Sweeps.{counted_more}
use Rattle.rsx_live_parts.proofs.cutting.count_crossing.Goals as goal
use Rattle.rsx_live_parts.proofs.cutting.count_crossing.Goals.{then-crosses, else-crosses}

pub loop-at-preserved : goal.loop-at-preserved
loop-at-preserved g c =
    let was = c.loop-at.count in
    let more : c.if-crosses.count ≡ was + one_of (Some c.in-Some.crosses) = elim c.if-crosses.branch [
      | then-crosses w ↦ w.count-is ∙ ap (λ x. was + one_of (Some x)) (sym w.if-crosses.true)
      | else-crosses w ↦ (let none : was ≡ was + 0 = omega arith in w.count-is ∙ (none ∙ ap (λ x. was + one_of (Some x)) (sym w.if-crosses.false)))
    ] in
    let k = counted_more g.N.Machine c.args.part.now c.loop-at.at was c.if-crosses.count c.in-Some.crosses (sym c.edge_crosses.ensures ∙ c.in-Some.is) c.loop-at.invariant.is more c.loop-at.invariant.few in
    record { few = k.0; is = k.1 }
