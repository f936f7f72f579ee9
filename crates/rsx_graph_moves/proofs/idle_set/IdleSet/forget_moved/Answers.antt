use Rattle.std.proofs.Common.{◌<◌, length, inl, inr, refl, arith, rules}
use Rattle.rsx_graph_moves.specs.IdleSet.{IsApart, IsIn}
use Rattle.rsx_graph_moves.proofs.IdleSets.{found_set, found_there, idle_same}
use Rattle.rsx_graph_moves.proofs.idle_set.IdleSet.forget_moved.Goals as goal

pub loop-at-init : goal.loop-at-init
loop-at-init c = record {
  idle = refl;
  moved = refl;
  known = refl;
  found = λ h i now e has. (now, e, has);
  forgot = λ h i now l. absurd (omega (arith, l));
}

pub loop-at-preserved : goal.loop-at-preserved
loop-at-preserved c =
    let inv = c.loop-at.invariant in
    let apart = c.loop-at.self.apart in
    let at = c.loop-at.at in
    let test = c.loop-at-test.true in
    let count = c.min-count.ensures in
    let small : at < 64 = omega (arith, test, count) in
    let within : at < length apart = search rules in
    record {
      idle = inv.idle;
      moved = inv.moved;
      known = inv.known;
      found = λ h i now e has. elim (found_set apart at h i c.without.result (now, e, has)) [
        | inl here ↦ let was = found_there apart at h i _ within here.0 ((c.without.ensures i).0 here.1).0 in inv.found h i was.0 was.1 was.2
        | inr other ↦ inv.found h i other.1.0 other.1.1 other.1.2
      ];
      forgot = λ h i now lt e has moved. elim (found_set apart at h i c.without.result (now, e, has)) [
        | inl here ↦ ((c.without.ensures i).0 here.1).1 moved
        | inr other ↦ let ne = other.0 in inv.forgot h i other.1.0 (omega (arith, lt, ne)) other.1.1 other.1.2 moved
      ];
    }

pub returns-clause-idle : goal.returns-clause-idle
unfolding IsIn
returns-clause-idle c = idle_same c.loop-at.self c.args.self.now c.loop-at.invariant.idle

pub returns-clause-apart : goal.returns-clause-apart
unfolding IsApart
returns-clause-apart c = λ h i known.
    let inv = c.loop-at.invariant in
    let count = c.min-count.ensures in
    let test = c.loop-at-test.false in
    let lt = known.0 in
    (omega (arith, lt, count), λ was. inv.forgot h i known.2.0 (omega (arith, lt, test)) known.2.1 known.2.2 was, inv.found h i known.2.0 known.2.1 known.2.2)
